-- Why an operation is refused, as the code tells it.
use Rattle.spec_projection.specs.Apply.{OperationFault, key_rule, projection_full}
use Rattle.local_projection_state.specs.declared.LocalProjectionApplicationError.{LocalProjectionApplicationError}
use Rattle.local_projection_state.specs.declared.LocalProjectionApplicationError.TheVariants.{KeyRule, ProjectionFull}

abbrev pub application_fault_of : LocalProjectionApplicationError → OperationFault
application_fault_of KeyRule = key_rule
application_fault_of ProjectionFull = projection_full
