-- What the search for the first operation that does not apply answers, and the table that its rule goes by.
use Rattle.std.specs.Prelude.{ℕ, ◌≡◌, List, Result, Ok, Option, Some, None}
use Rattle.spec_projection.specs.Projection.{Projection}
use Rattle.spec_projection.specs.Valid.{Valid}
use Rattle.spec_explain.specs.OperationRule.{rule_of}
use Rattle.spec_explain.specs.Walk.{Walk, through, halted}
use Rattle.panel_plan.specs.Resolved.{Resolution, resolved}
use Rattle.panel_plan.specs.PlanRows.{PlannedEntries}
use Rattle.session_explain.specs.Reasons.{operation_rule_to}
use Rattle.projection_patch.specs.declared.read_values.ProjectionPatchReadFault.{ProjectionPatchReadFault}
use Rattle.session_explain.specs.declared.reasons.OperationRule.{OperationRule}

-- a table of so many rows holds the entries of a projection, whatever stands for their values
pub record StandsFor (n : ℕ) (e : List ℕ) (p : Projection) : Type 0 where
  pub plan : Projection
  pub stored : PlannedEntries n e plan.entries
  pub valid : Valid plan
  pub sources : Resolution
  pub resolves : resolved sources plan ≡ p

abbrev pub reason_refused_to : Walk Projection → Result (Option (ℕ × ℕ × OperationRule)) ProjectionPatchReadFault
reason_refused_to (through p) = Ok None
reason_refused_to (halted h) = Ok (Some (h.patch, h.operation, operation_rule_to (rule_of h.left h.refused)))
