-- Whether there is a finding, told element by element, with what earlier elements left: 01, 'Patch checks'.
use Rattle.std.specs.Prelude.{ℕ, ◌*◌, ◌≤◌, Bool, false, ◌||◌, List, [], ◌∷◌, ◌++◌, eqb, length}
use Rattle.std.proofs.Math.Option.{Option, none, some}
use Rattle.spec_lists.specs.Lists.{All}
use Rattle.spec_patch.specs.Sizes.{set_patches}
use Rattle.spec_patch.specs.Patch.{Operation, Envelope, Patch}
use Rattle.spec_checks.specs.Target.{mutation_target}
use Rattle.spec_checks.specs.PatchChecks.{before_self_lem, envelope_findings}
use Rattle.spec_checks.specs.SetChecks.{pair_findings}
use Rattle.check_findings.specs.Ids.{id_seen}
use Rattle.check_targets.specs.Targets.{target_numbers, target_seen}
use Rattle.check_findings.specs.Found.{is_found}

-- kinds 2 and 3 of an operation; the targets of earlier ones are three numbers each
unfoldable pub operation_found : List ℕ → Operation → Bool
operation_found targets o = target_seen (mutation_target o) targets || before_self_lem o

-- operations after those that left the targets
unfoldable pub found_from : List ℕ → List Operation → Bool
found_from targets [] = false
found_from targets (o ∷ os) = operation_found targets o || found_from (targets ++ target_numbers o) os

abbrev pub operations_found : List Operation → Bool
operations_found = found_from []

-- kinds 6, 10, 13 and 14, by the envelope and the number of operations
unfoldable pub head_found : Envelope → ℕ → Bool
head_found e count = eqb count 0 || is_found (envelope_findings e)

unfoldable pub patch_found : Patch → Bool
patch_found p = head_found p.envelope (length p.operations) || operations_found p.operations

-- the kinds of neighbours
unfoldable pub previous_found : Option Envelope → Envelope → Bool
previous_found none e = false
previous_found (some q) e = is_found (pair_findings q e)

-- kind 4, and these
unfoldable pub after_found : List ℕ → Option Envelope → Envelope → Bool
after_found ids previous e = id_seen e.id ids || previous_found previous e

-- patches after others with these ids, the last of them with the previous envelope
unfoldable pub patches_found : List ℕ → Option Envelope → List Patch → Bool
patches_found ids previous [] = false
patches_found ids previous (p ∷ ps) =
    patch_found p || (after_found ids previous p.envelope || patches_found (ids ++ (p.envelope.id ∷ [])) (some p.envelope) ps)

-- no id is above the highest
abbrev pub AtMost : ℕ → List ℕ → Type 0
AtMost highest = All (λ n. n ≤ highest)

-- the fewest bytes of a patch: seven numbers, no surface, no operations
abbrev pub least_patch : ℕ
least_patch = 61

-- as many ids have room as there can be patches in so many bytes
abbrev pub RoomForIds : ℕ → ℕ → Type 0
RoomForIds bytes room = (n : ℕ) → n ≤ set_patches → n * least_patch ≤ bytes → n ≤ room
