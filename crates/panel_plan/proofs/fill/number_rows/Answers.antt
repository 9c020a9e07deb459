-- `fill::number_rows` meets its contract. The invariant: the first i rows are numbered.
use Prim.Native.Nat.{ℕ, ◌+◌, ◌-◌, ◌*◌, ◌≤◌}
use mathlib.Core.Path.{◌≡◌, refl, ap}
use mathlib.Core.List.{List, []}
use native.Mathlib.Omega.{arith}
use borrow.Author.Rules.{rules}
use lib.ListN.{length}
use Rattle.bytes_records.specs.Table.{HoldsRows}
use Rattle.bytes_records.specs.TableLaws.{row_width}
use Rattle.panel_plan.specs.PlanRows.{source_width}
use Rattle.panel_plan.proofs.Numbered.{Numbering, numbering_start, numbering_more, numbering_end}
use Rattle.panel_plan.proofs.fill.number_rows.Goals as goal

pub loop-i-init : goal.loop-i-init
loop-i-init c = (search rules, refl, λ rows wide t none room. numbering_start none)

pub loop-i-preserved : goal.loop-i-preserved
loop-i-preserved c = (
  search rules,
  search rules,
  (λ rows wide t none room.
      let is = c.record_at-old.ensures.row rows t in
      numbering_more t (search rules) wide (omega arith) is
      (c.number_row.ensures (omega (arith, ap length is, row_width t c.loop-i.i (search rules))) c.loop-i.invariant.0) c.insert_record.ensures (c.loop-i.invariant.2 rows wide t none room)),
)

pub returns : goal.returns
returns c =
    λ rows wide t none room. numbering_end t (omega arith) (c.loop-i.invariant.2 rows wide t none room)
