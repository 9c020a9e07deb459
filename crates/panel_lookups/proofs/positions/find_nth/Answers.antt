-- `find_nth` meets its contract: from the position on the entry that is left to find is the one that is sought.
use Prim.Native.Nat.{ℕ, ◌+◌, ◌-◌, ◌≤◌, ◌<◌}
use mathlib.Core.Path.{◌≡◌, refl, sym, ap, ◌∙◌}
use mathlib.Core.List.{List, map}
use native.Mathlib.Omega.{arith}
use borrow.Author.Rules.{rules}
use lib.ListN.{length, drop, get_or, get_elem?}
use Rattle.spec_lists.specs.Lists.{All}
use Rattle.spec_projection.specs.Projection.{Entry}
use Rattle.spec_projection.specs.Lookups.{entries_in}
use Rattle.spec_projection.specs.Valid.{FitsEntry}
use Rattle.bytes_records.specs.Table.{HoldsRows}
use Rattle.panel_rows.specs.Rows.{entry_width, entry_row}
use Rattle.panel_rows.specs.RowsLaws.{no_entry}
use Rattle.panel_lookups.specs.NthLaws.{nth_turn, nth_found, nth_end, fits_at, row_at_entry}
use Rattle.bytes_records.specs.TableLaws.{not_too_many, holds_length}
use Rattle.panel_lookups.proofs.positions.find_nth.Goals as goal

pub returns-then-table-count : goal.returns-then-table-count
returns-then-table-count c = λ es fit t. absurd (not_too_many t (omega arith) c.if-table-count.true)

pub loop-i-init : goal.loop-i-init
loop-i-init c = λ es fit t. refl

pub returns-then-left-n : goal.returns-then-left-n
returns-then-left-n c =
    λ es fit t.
    let below : c.loop-i.i < length es = omega (arith, holds_length entry_row es t) in
    let own = c.counts_for-n.ensures.counted es no_entry fit t (search rules) in
    record {
      entry = get_or es c.loop-i.i no_entry;
      fits = fits_at es c.loop-i.i no_entry below fit;
      row = row_at_entry es c.loop-i.i no_entry below;
      is = nth_found c.args.collection es no_entry c.loop-i.i below c.args.position c.loop-i.left (omega arith) (c.loop-i.invariant es fit t);
    }

pub loop-i-preserved : goal.loop-i-preserved
loop-i-preserved c = (
    λ es fit t.
    let below : c.loop-i.i < length es = omega (arith, holds_length entry_row es t) in
    let own = c.counts_for-n.ensures.counted es no_entry fit t (search rules) in
    ap (λ (k : ℕ). get_elem? (entries_in c.args.collection (drop (c.loop-i.i + 1) es)) (c.loop-i.left - k)) own
    ∙ nth_turn c.args.collection es no_entry c.loop-i.i below c.args.position c.loop-i.left (omega arith) (c.loop-i.invariant es fit t)
    )

pub returns : goal.returns
returns c =
    λ es fit t. sym (c.loop-i.invariant es fit t) ∙ nth_end c.args.collection es c.loop-i.i c.loop-i.left (omega (arith, holds_length entry_row es t))
