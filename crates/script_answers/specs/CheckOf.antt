-- What the check of a set hands to its printing.
use Rattle.std.specs.Prelude.{ℕ, ◌≤◌, ◌≡◌, List, length}
use Rattle.spec_lists.specs.Bytes.{Bytes}
use Rattle.spec_patch.specs.Edition.{Edition}
use Rattle.spec_patch.specs.Read.{read_set}
use Rattle.spec_checks.specs.Finding.{Finding}
use Rattle.check_set.specs.Listed.{table_length}
use Rattle.check_set.specs.CheckAnswers.{check_answer, check_numbers}
use Rattle.std.specs.Prelude as code
use Rattle.projection_patch.specs.declared.read_values.ProjectionPatchReadFault.{ProjectionPatchReadFault}
use Rattle.check_set.specs.declared.check_set.PatchSetCheck.{PatchSetCheck}

-- the finding that three numbers tell
abbrev pub finding_told : ℕ → ℕ → ℕ → Finding
finding_told k d s = record { kind = k; domain = d; secondary = s }

-- the answer of a check of these bytes in an edition, and the numbers that it left in a list with room for every record
pub record CheckOf (ed : Edition) (set : List ℕ) (answer : code.Result PatchSetCheck ProjectionPatchReadFault) (records : List ℕ) : Type 0 where
  pub bytes : Bytes set
  pub lent : List ℕ
  pub room : table_length ≤ length lent
  pub answered : answer ≡ check_answer (read_set ed set) (length lent)
  pub written : records ≡ check_numbers (read_set ed set) lent
