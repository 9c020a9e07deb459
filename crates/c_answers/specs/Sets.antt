-- What the calls that look at a set answer, as numbers.
use Rattle.std.specs.Prelude.{ℕ}
use Rattle.spec_patch.specs.Reader.{fault_number}
use Rattle.spec_dependencies.specs.Answer.{refusal_number}
use Rattle.projection_patch.specs.ReadAnswers.{fault_of}
use Rattle.check_set.specs.declared.check_set.CheckPlace.{CheckPlace}
use Rattle.check_set.specs.declared.check_set.CheckPlace.TheVariants as place
use Rattle.check_set.specs.declared.check_set.PatchSetCheck.{PatchSetCheck}
use Rattle.std.specs.Prelude as code
use Rattle.projection_patch.specs.declared.read_values.ProjectionPatchReadFault.{ProjectionPatchReadFault}
use Rattle.set_dependencies.specs.DependsAnswers.{depends_refusal_of}
use Rattle.set_dependencies.specs.declared.depends.DependenciesAnswer.{DependenciesAnswer}
use Rattle.set_dependencies.specs.declared.depends.DependenciesAnswer.TheVariants as dependencies
use Rattle.c_answers.specs.declared.sets.GeysertrayChecked.{GeysertrayChecked}
use Rattle.c_answers.specs.declared.sets.GeysertrayDependencies.{GeysertrayDependencies}

-- ---- the check

-- findings in a patch (1) or in the set (0)
abbrev pub checked_in : (in_patch patch logical written : ℕ) → GeysertrayChecked
checked_in i patch logical written = record { disposition = 0; number = 0; in_patch = i; patch = patch; logical = logical; written = written }

-- no check was made: 2 with reading's number, or 4 for no such edition
abbrev pub unchecked_set : (disposition number : ℕ) → GeysertrayChecked
unchecked_set d n = record { disposition = d; number = n; in_patch = 0; patch = 0; logical = 0; written = 0 }

abbrev pub checked_at : CheckPlace → (logical written : ℕ) → GeysertrayChecked
checked_at (place.Patch i) logical written = checked_in 1 i logical written
checked_at place.Set logical written = checked_in 0 0 logical written

abbrev pub check_told : code.Result PatchSetCheck ProjectionPatchReadFault → GeysertrayChecked
check_told (code.Ok c) = checked_at c.place c.logical c.written
check_told (code.Err f) = unchecked_set 2 (fault_number (fault_of f))

-- ---- what a set depends on

-- never applicable, by an operation of a patch
abbrev pub never_by : (patch operation : ℕ) → GeysertrayDependencies
never_by patch operation = record { disposition = 0; number = 0; never = 1; patch = patch; operation = operation; held = 0; lacked = 0 }

-- so many keys must be there, and so many absent
abbrev pub needs_keys : (held lacked : ℕ) → GeysertrayDependencies
needs_keys held lacked = record { disposition = 0; number = 0; never = 0; patch = 0; operation = 0; held = held; lacked = lacked }

-- nothing is told: 2 with the number of a refusal, or 4 for no such edition
abbrev pub not_told : (disposition number : ℕ) → GeysertrayDependencies
not_told d n = record { disposition = d; number = n; never = 0; patch = 0; operation = 0; held = 0; lacked = 0 }

abbrev pub dependencies_told : DependenciesAnswer → GeysertrayDependencies
dependencies_told (dependencies.Never patch operation) = never_by patch operation
dependencies_told (dependencies.Needs held lacked) = needs_keys held lacked
dependencies_told (dependencies.Refused f) = not_told 2 (refusal_number (depends_refusal_of f))
