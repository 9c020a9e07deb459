-- The findings of a patch list, and where they are: 01, 'Patch checks'.
use Rattle.std.specs.Prelude.{ℕ, ◌+◌, ◌≡◌, List, [], ◌∷◌}
use Rattle.spec_lists.specs.Lists.{All}
use Rattle.spec_patch.specs.Patch.{Patch}
use Rattle.spec_checks.specs.Finding.{Finding}
use Rattle.spec_checks.specs.PatchChecks.{patch_findings}
use Rattle.spec_checks.specs.SetChecks.{set_findings}

-- the patch of an index from 0, or the set
pub data Place : Type 0 where
  in_patch : ℕ → Place
  in_set : Place

pub record Findings : Type 0 where
  pub place : Place
  pub found : List Finding

-- the first patch with findings, from index i on, ends the check; otherwise the set's findings stand
unfoldable pub first_findings : ℕ → List Patch → Findings → Findings
first_findings i [] set = set
first_findings i (p ∷ ps) set = elim (patch_findings p) [ [] ↦ first_findings (i + 1) ps set | f ∷ fs ↦ record { place = in_patch i; found = f ∷ fs } ]

-- each patch in order, then the set, which is also named when nothing is found
unfoldable pub findings : List Patch → Findings
findings ps = first_findings 0 ps (record { place = in_set; found = set_findings ps })

-- a patch has no findings
abbrev pub CleanPatch : Patch → Type 0
CleanPatch p = patch_findings p ≡ []

-- no patch has findings, and the set has none
pub record Clean (ps : List Patch) : Type 0 where
  pub patches : All CleanPatch ps
  pub set : set_findings ps ≡ []
