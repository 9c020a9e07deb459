-- An option of the code as one of the definitions.
use Rattle.std.specs.Prelude as code
use Rattle.std.proofs.Math.Option.{Option, none, some}

module _ {A : Type 0} where
  abbrev pub optional_of : code.Option A → Option A
  optional_of (code.Some x) = some x
  optional_of code.None = none

  abbrev pub optional_to : Option A → code.Option A
  optional_to (some x) = code.Some x
  optional_to none = code.None
