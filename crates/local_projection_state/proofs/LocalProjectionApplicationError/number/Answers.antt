-- `LocalProjectionApplicationError::number` meets its contract: 8 and 9.
use mathlib.Core.Path.{sym, ap}
use borrow.Author.Rules.{rules}
use Rattle.spec_projection.specs.Apply.{operation_fault_number}
use Rattle.local_projection_state.specs.Faults.{application_fault_of}
use Rattle.local_projection_state.specs.declared.LocalProjectionApplicationError.{LocalProjectionApplicationError}
use Rattle.local_projection_state.proofs.LocalProjectionApplicationError.number.Goals as goal

pub returns-in-KeyRule : goal.returns-in-KeyRule
unfolding operation_fault_number
returns-in-KeyRule c = sym (ap (λ (e : LocalProjectionApplicationError). operation_fault_number (application_fault_of e)) c.in-KeyRule.is)

pub returns-in-ProjectionFull : goal.returns-in-ProjectionFull
unfolding operation_fault_number
returns-in-ProjectionFull c = sym (ap (λ (e : LocalProjectionApplicationError). operation_fault_number (application_fault_of e)) c.in-ProjectionFull.is)
