-- What the search for the first unknown target answers.
use Rattle.std.specs.Prelude.{ℕ, Result, Ok, Option, Some, None}
use Rattle.spec_explain.specs.Walk.{Walk, through, halted}
use Rattle.projection_patch.specs.declared.read_values.ProjectionPatchReadFault.{ProjectionPatchReadFault}

abbrev pub unknown_to : Walk (Unit {0}) → Result (Option (ℕ × ℕ)) ProjectionPatchReadFault
unknown_to (through u) = Ok None
unknown_to (halted h) = Ok (Some (h.patch, h.operation))
