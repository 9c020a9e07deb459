-- `entry_count` meets its contract: what is counted, with the entries from the position on, is the whole.
use Prim.Native.Nat.{◌+◌, ◌-◌, ◌≤◌}
use mathlib.Core.Path.{◌≡◌}
use mathlib.Core.List.{List, map}
use native.Mathlib.Omega.{arith}
use borrow.Author.Rules.{rules}
use lib.ListN.{length, drop}
use Rattle.spec_lists.specs.Lists.{All}
use Rattle.spec_projection.specs.Projection.{Entry}
use Rattle.spec_projection.specs.Lookups.{entries_in, entries_of, entry_count}
use Rattle.spec_projection.specs.Valid.{FitsEntry}
use Rattle.bytes_records.specs.Table.{HoldsRows}
use Rattle.panel_rows.specs.Rows.{entry_width, entry_row}
use Rattle.panel_rows.specs.RowsLaws.{no_entry}
use Rattle.panel_lookups.specs.NthLaws.{counts_turn, counts_end}
use Rattle.bytes_records.specs.TableLaws.{not_too_many, holds_length}
use Rattle.panel_lookups.proofs.positions.entry_count.Goals as goal

pub returns-then-table-count : goal.returns-then-table-count
returns-then-table-count c = λ p s v. absurd (not_too_many s.rows (omega arith) c.if-table-count.true)

pub loop-i-init : goal.loop-i-init
loop-i-init c = (omega arith, λ es fit t. omega arith)

pub overflow_add-n : goal.overflow_add-n
overflow_add-n c = omega (arith, c.counts_for-n.ensures.within)

pub loop-i-preserved : goal.loop-i-preserved
loop-i-preserved c = (
  omega (arith, c.counts_for-n.ensures.within),
  λ es fit t.
      let turned = counts_turn c.args.collection es no_entry c.loop-i.i (omega (arith, holds_length entry_row es t)) c.loop-i.n (c.loop-i.invariant.1 es fit t) in
      omega (arith, c.counts_for-n.ensures.counted es no_entry fit t (search rules)),
)

pub returns : goal.returns
unfolding entry_count entries_of
returns c =
    λ p s v. omega (arith, c.loop-i.invariant.1 p.entries v.fit_entries s.rows, counts_end c.args.collection p.entries c.loop-i.i (omega (arith, holds_length entry_row p.entries s.rows)))
