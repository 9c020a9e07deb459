-- What a print hands to its printing in a script.
use Rattle.std.specs.Prelude.{ℕ, ◌≡◌, List, Result}
use Rattle.panel_print.specs.declared.PrintRefusal.{PrintRefusal}
use Rattle.bytes_wire.specs.Write.{overwrite}
use Rattle.panel_print.specs.Answers.{print_answer}

-- the answer of a print into lent bytes, and the bytes that it left of them
pub record PrintTold (lent print : List ℕ) (answer : Result ℕ PrintRefusal) (output : List ℕ) : Type 0 where
  pub answered : answer ≡ print_answer lent print
  pub written : output ≡ overwrite lent 0 print
