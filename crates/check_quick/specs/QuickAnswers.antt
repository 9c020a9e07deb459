-- What the first pass answers, as definitions of what spec_patch reads and spec_checks finds.
use Rattle.std.specs.Prelude.{ℕ, Bool, false, ◌||◌, ltb, length, if◌then◌else◌}
use Rattle.std.specs.Prelude as code
use mathlib.Core.List.{List, [], ◌++◌, flat_map}
use Rattle.std.proofs.Math.Option.{Option, none, some}
use Rattle.spec_patch.specs.Patch.{Operation, Envelope, Patch}
use Rattle.spec_patch.specs.Reader.{Result, fault_number}
use Rattle.spec_patch.specs.Read.{SetReading, patches, fault}
use Rattle.spec_checks.specs.Target.{MutationTarget}
use Rattle.spec_checks.specs.Findings.{findings}
use Rattle.spec_projection.specs.Apply.{operations_of}
use Rattle.projection_patch.specs.Meaning.{envelope_of}
use Rattle.projection_patch.specs.ReadAnswers.{fault_to, fault_of, answer, anywhere}
use Rattle.projection_patch.specs.declared.patch.ProjectionPatchEnvelope.{ProjectionPatchEnvelope}
use Rattle.projection_patch.specs.declared.read_values.ProjectionPatchReadFault.{ProjectionPatchReadFault}
use Rattle.projection_patch.specs.declared.read_values.ProjectionPatchReadFault.TheVariants.{Malformed}
use Rattle.patch_sets.specs.Walk.{head_of}
use Rattle.patch_sets.specs.SetAnswers.{head_to, operation_count_lem}
use Rattle.check_targets.specs.Targets.{target_numbers}
use Rattle.check_findings.specs.Found.{is_found}
use Rattle.check_quick.specs.Anchors.{anchored, absent_among, absent_of}
use Rattle.check_quick.specs.Quick.{found_from, patch_found}
use Rattle.check_quick.specs.declared.quick_operations.Tally.{Tally}
use Rattle.check_quick.specs.declared.quick_patches.PatchChecked.{PatchChecked}
use Rattle.check_quick.specs.declared.inspection.SetInspection.{SetInspection}
use Rattle.check_quick.specs.declared.inspection.SetInspection.TheVariants as inspection
use Rattle.check_quick.specs.declared.quick_set.QuickCheck.{QuickCheck}
use Rattle.check_quick.specs.declared.quick_set.QuickCheck.TheVariants as quick

-- what operations tell with others before them, which had left their targets; known are the targets that are not absent
abbrev pub tally_from : (MutationTarget → Bool) → Bool → List ℕ → List Operation → Tally
tally_from known found targets os = record { found = found || found_from targets os; absent = absent_among known (targets ++ flat_map target_numbers os) }

abbrev pub tally_of : (MutationTarget → Bool) → List Operation → Tally
tally_of known = tally_from known false []

-- what was found, with how many of the targets, three numbers each, are not known
abbrev pub tallied_by : (MutationTarget → Bool) → List ℕ → code.Result (Bool × ℕ) ProjectionPatchReadFault → code.Result (Tally × ℕ) ProjectionPatchReadFault
tallied_by known targets (code.Ok (found, end)) = code.Ok (record { found = found; absent = absent_among known targets }, end)
tallied_by known targets (code.Err f) = code.Err f

abbrev pub operations_answer : (List Operation → Tally) → ℕ → Result (List Operation) → code.Result (Tally × ℕ) ProjectionPatchReadFault
operations_answer tally = answer (anywhere tally)

abbrev pub previous_of : code.Option ProjectionPatchEnvelope → Option Envelope
previous_of code.None = none
previous_of (code.Some e) = some (envelope_of e)

abbrev pub quick_checked_to : (MutationTarget → Bool) → Patch → PatchChecked
quick_checked_to known p = record { head = head_to (head_of p); found = patch_found p; absent = absent_of known p.operations }

abbrev pub patch_answer : (MutationTarget → Bool) → ℕ → Result Patch → code.Result (PatchChecked × ℕ) ProjectionPatchReadFault
patch_answer known = answer (anywhere (quick_checked_to known))

-- 12 or 10; a finding; or none, with how many patches and operations there are, and how many targets are not known
unfoldable pub inspected_by : (MutationTarget → Bool) → SetReading → code.Result SetInspection ProjectionPatchReadFault
inspected_by known (patches ps) =
    code.Ok (if is_found (findings ps).found then inspection.Found else inspection.Clean (length ps) (operation_count_lem ps) (absent_of known (operations_of ps)))
inspected_by known (fault f) = code.Err (fault_to f)

-- known are the lent anchors
abbrev pub inspection_answer : (nodes bindings collections : List ℕ) → SetReading → code.Result SetInspection ProjectionPatchReadFault
inspection_answer nodes bindings collections = inspected_by (anchored nodes bindings collections)

-- the answer behind the last patch: bytes left are 10
abbrev pub quick_end_answer : ℕ → Bool → ℕ → ℕ → ℕ → code.Result SetInspection ProjectionPatchReadFault
quick_end_answer left found count operations absent =
    if ltb 0 left then code.Err Malformed else
    code.Ok (if found then inspection.Found else inspection.Clean count operations absent)

-- the same without the absent targets
abbrev pub quick_answer : SetReading → code.Result QuickCheck ProjectionPatchReadFault
quick_answer (patches ps) = code.Ok (if is_found (findings ps).found then quick.Found else quick.Clean (length ps) (operation_count_lem ps))
quick_answer (fault f) = code.Err (fault_to f)

-- 01's number of each case; 0 says that nothing is refused
abbrev pub quick_number : code.Result QuickCheck ProjectionPatchReadFault → ℕ
quick_number (code.Ok (quick.Clean n m)) = 0
quick_number (code.Ok quick.Found) = 11
quick_number (code.Err f) = fault_number (fault_of f)
