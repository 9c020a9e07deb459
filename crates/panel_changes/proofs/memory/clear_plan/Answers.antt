-- `clear_plan` meets its contract: each table's rows are cleared, and behind them are zeros.
use mathlib.Core.Path.{ap, ◌∙◌}
use native.Mathlib.Omega.{arith}
use borrow.Author.Rules.{rules}
use Rattle.bytes_records.specs.Moves.{zeros}
use Rattle.panel_writing.specs.WritingLaws.{rows_clear}
use Rattle.panel_changes.specs.SetChangesLaws.{fit_few, planned_counts}
use Rattle.panel_changes.specs.PlanMemoryLaws.{stored_room}
use Rattle.panel_changes.proofs.memory.clear_plan.Goals as goal

pub returns : goal.returns
returns c = λ q stored.
    let few = fit_few c.args.counts (planned_counts stored) in
    record {
      bindings = c.clear_rows.ensures (omega (arith, few.0)) (stored_room stored.bindings few.0) (rows_clear stored.bindings.rows) ∙ ap zeros stored.bindings.size;
      availability = c.clear_rows-2.ensures (omega (arith, few.2)) (stored_room stored.availabilities few.2) (rows_clear stored.availabilities.rows) ∙ ap zeros stored.availabilities.size;
      entries = c.clear_rows-3.ensures few.1 (stored_room stored.entries few.1) (rows_clear stored.entries.rows) ∙ ap zeros stored.entries.size;
    }
