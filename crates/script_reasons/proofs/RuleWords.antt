-- What is printed of the rule that was found is printed of the rule.
use Prim.Native.Nat.{ℕ}
use mathlib.Core.Path.{◌≡◌, sym, ap}
use mathlib.Core.List.{List}
use Rattle.std.specs.Prelude.{Option}
use Rattle.bytes_printer.specs.Prints.{spaced_field, Prints}
use Rattle.bytes_printer.proofs.PrintsLaws.{prints_same}

pub of_rule : {A : Type 0} (word : A → List ℕ) {rule found : A} {before after : List ℕ} {at r : Option ℕ} → rule ≡ found → Prints before at (spaced_field (word found)) after r → Prints before at (spaced_field (word rule)) after r
of_rule word is = prints_same (sym (ap (λ a. spaced_field (word a)) is))
