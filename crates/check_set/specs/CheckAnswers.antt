-- What the check answers and writes, as definitions of what spec_patch reads and spec_checks finds.
use Rattle.std.specs.Prelude.{ℕ, ◌*◌, ◌/◌, min, List, ◌++◌, length, take, drop}
use Rattle.spec_patch.specs.Read.{SetReading, patches, fault}
use Rattle.spec_checks.specs.Findings.{Place, in_patch, in_set, findings}
use Rattle.spec_checks.specs.Answer.{record_length, write_findings, Checked, checked_list}
use Rattle.std.specs.Prelude as code
use Rattle.projection_patch.specs.ReadAnswers.{fault_to}
use Rattle.projection_patch.specs.declared.read_values.ProjectionPatchReadFault.{ProjectionPatchReadFault}
use Rattle.check_set.specs.declared.check_set.CheckPlace.{CheckPlace}
use Rattle.check_set.specs.declared.check_set.CheckPlace.TheVariants as place
use Rattle.check_set.specs.declared.check_set.PatchSetCheck.{PatchSetCheck}

abbrev pub place_to : Place → CheckPlace
place_to (in_patch i) = place.Patch i
place_to in_set = place.Set

abbrev pub checked_to : Checked → PatchSetCheck
checked_to c = record { place = place_to c.place; logical = c.logical; written = c.written }

-- 12 or 10; or place, logical count and written count, with so many places lent
abbrev pub check_answer : SetReading → ℕ → code.Result PatchSetCheck ProjectionPatchReadFault
check_answer (patches ps) room = code.Ok (checked_to (checked_list ps room))
check_answer (fault f) room = code.Err (fault_to f)

-- the lent list after the call: bytes that do not read leave it as it was
abbrev pub check_numbers : SetReading → List ℕ → List ℕ
check_numbers (patches ps) lent = write_findings (findings ps).found lent
check_numbers (fault f) lent = lent

-- how many of so many records fit a lent list, and stand in the table
abbrev pub written_count : ℕ → List ℕ → List ℕ → ℕ
written_count logical records out = min (length records / record_length) (min (length out / record_length) logical)

abbrev pub written_answer : CheckPlace → ℕ → List ℕ → List ℕ → PatchSetCheck
written_answer p logical records out = record { place = p; logical = logical; written = written_count logical records out }

-- these records, and then what the lent list held
abbrev pub written_numbers : ℕ → List ℕ → List ℕ → List ℕ
written_numbers logical records out =
    let end = record_length * written_count logical records out in
    take end records ++ drop end out
