-- `apply_readable` meets its contract: what `apply_set` wrote is the next state's, or the state goes back as it came.
use mathlib.Core.Path.{refl, sym, ap, subst, ◌∙◌}
use borrow.Author.Rules.{rules}
use Rattle.spec_projection.specs.Apply.{replay_steps, apply_steps}
use Rattle.bytes_records.specs.Moves.{zeros}
use Rattle.panel_rows.specs.Rows.{binding_bytes, availability_bytes, entry_bytes, length_bytes}
use Rattle.local_projection_state.specs.declared.LocalProjectionState.{LocalProjectionState}
use Rattle.local_projection_state.specs.declared.ProjectionCounts.{ProjectionCounts}
use Rattle.panel_changes.specs.SetChanges.{ReadyTables}
use Rattle.panel_changes.specs.SetChangesLaws.{zeros_ready}
use Rattle.panel_application.specs.Application.{StepsBecame}
use Rattle.std.specs.Prelude.{Ok, Err}
use Rattle.panel_application.proofs.Steps.{steps_applied, steps_refused, set_reads, set_fits}
use Rattle.panel_application.proofs.apply_readable.Goals as goal
use Rattle.panel_application.proofs.apply_readable.Goals.{After-apply_set}

-- nothing is used of the new tables
ready : (c : After-apply_set) → ReadyTables c.none_used-used.result (zeros binding_bytes) (zeros availability_bytes) (zeros entry_bytes) (zeros length_bytes)
ready c = subst (λ (u : ProjectionCounts). ReadyTables u (zeros binding_bytes) (zeros availability_bytes) (zeros entry_bytes) (zeros length_bytes)) (sym c.none_used-used.ensures) zeros_ready

pub returns-in-Ok : goal.returns-in-Ok
returns-in-Ok c =
    record {
      steps = (λ ps p readable s.
          subst (λ (next : LocalProjectionState). StepsBecame next (Ok tt) (apply_steps p (replay_steps ps))) (sym c.state_of.ensures)
          (steps_applied c.apply_set.new.to_bindings c.apply_set.new.to_availability c.apply_set.new.to_entries c.apply_set.new.to_lengths (apply_steps p (replay_steps ps)) (c.apply_set.ensures.changed p ps s.tables readable (ready (goal.at.returns-in-Ok c).After-apply_set)) _ c.in-Ok.is));
      kept = search rules;
    }

pub returns-in-Err-Operation : goal.returns-in-Err-Operation
returns-in-Err-Operation c =
    record { steps = (λ ps p readable s. rw c.in-Err-Operation.field-0-is (steps_refused c.apply_set.new.to_bindings c.apply_set.new.to_availability c.apply_set.new.to_entries c.apply_set.new.to_lengths (apply_steps p (replay_steps ps)) (c.apply_set.ensures.changed p ps s.tables readable (ready (goal.at.returns-in-Err-Operation c).After-apply_set)) c.args.state _ (c.in-Err-Operation.is ∙ ap Err c.in-Err-Operation.field-0-is))); kept = refl }

pub returns-in-Err-Unreadable : goal.returns-in-Err-Unreadable
returns-in-Err-Unreadable c =
    record { steps = (λ ps p readable s. absurd (set_reads c.apply_set.new.to_bindings c.apply_set.new.to_availability c.apply_set.new.to_entries c.apply_set.new.to_lengths (apply_steps p (replay_steps ps)) (c.apply_set.ensures.changed p ps s.tables readable (ready (goal.at.returns-in-Err-Unreadable c).After-apply_set)) _ (c.in-Err-Unreadable.is ∙ ap Err c.in-Err-Unreadable.field-0-is))); kept = refl }

pub returns-in-Err-BadTables : goal.returns-in-Err-BadTables
returns-in-Err-BadTables c =
    record { steps = (λ ps p readable s. absurd (set_fits c.apply_set.new.to_bindings c.apply_set.new.to_availability c.apply_set.new.to_entries c.apply_set.new.to_lengths (apply_steps p (replay_steps ps)) (c.apply_set.ensures.changed p ps s.tables readable (ready (goal.at.returns-in-Err-BadTables c).After-apply_set)) (c.in-Err-BadTables.is ∙ ap Err c.in-Err-BadTables.field-0-is))); kept = refl }
