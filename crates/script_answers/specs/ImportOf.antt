-- What bringing in a term list hands to its printing.
use Rattle.std.specs.Prelude.{ℕ, ◌≡◌, List, Result}
use Rattle.spec_import.specs.Import.{Imported}
use Rattle.patch_import.specs.Answers.{import_answer, import_output}
use Rattle.patch_import.specs.declared.answer.ImportRefusal.{ImportRefusal}

-- the answer, and the bytes that the call left of its output
pub record ImportOf (c : Imported) (answer : Result ℕ ImportRefusal) (output : List ℕ) : Type 0 where
  pub lent : List ℕ
  pub answered : answer ≡ import_answer c
  pub written : output ≡ import_output lent c
