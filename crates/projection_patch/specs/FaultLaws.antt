-- A fault is told by its case of the enum.
use Rattle.std.specs.Prelude.{◌≡◌, refl}
use Rattle.spec_patch.specs.Reader.{Fault, malformed, over_capacity}
use Rattle.projection_patch.specs.ReadAnswers.{fault_to, fault_of}

pub fault_back : (f : Fault) → fault_of (fault_to f) ≡ f
fault_back malformed = refl
fault_back over_capacity = refl
