-- What is given is sorted by kind, domain and secondary, has no repeats and is what was found; and where the check ends.
use Rattle.std.specs.Prelude.{ℕ, suc, ◌+◌, ◌<◌, ◌≡◌, refl, true, ◌⊎◌, ◌≢◌, length}
use Rattle.std.proofs.Common.{ap, ◌∙◌, inl, inr, arith}
use mathlib.Core.List.{List, [], ◌∷◌, ◌++◌, Nodup}
use Rattle.spec_lists.specs.Lists.{All}
use Rattle.spec_lists.proofs.ListLaws.{all_map}
use Rattle.spec_lists.specs.Order.{lex_less, sort_unique, Ascending}
use Rattle.spec_lists.proofs.OrderLaws.{lex_less_irreflexive, lex_less_cases, lex_less_less, lex_less_same, sort_unique_ascending, sort_unique_member, member_sort_unique, ascending_nodup, ascending_unique}
use Rattle.spec_patch.specs.Patch.{Patch}
use Rattle.spec_checks.specs.Finding.{Finding, finding_key}
use Rattle.spec_checks.specs.PatchChecks.{raw_patch_findings, patch_findings}
use Rattle.spec_checks.specs.SetChecks.{raw_set_findings, set_findings}
use Rattle.spec_checks.specs.Findings.{in_patch, in_set, Findings, first_findings, findings, CleanPatch}
use Rattle.spec_checks.specs.Rules.{Precedes, by_kind, by_domain, by_secondary, Sorted, Reported, Ended, at_patch, at_set}

-- ---- the order

pub finding_key_injective : (f g : Finding) → finding_key f ≡ finding_key g → f ≡ g
unfolding finding_key
finding_key_injective f g e =
    let kinds : f.kind ≡ g.kind = cc in
    let domains : f.domain ≡ g.domain = cc in
    let secondaries : f.secondary ≡ g.secondary = cc in
    λ i. record { kind = kinds i; domain = domains i; secondary = secondaries i }

precedes : (f g : Finding) → lex_less (finding_key f) (finding_key g) ≡ true → Precedes f g
unfolding finding_key
precedes f g h = kinds (lex_less_cases _ _ _ _ h)
  where
    secondaries : f.kind ≡ g.kind → f.domain ≡ g.domain → (f.secondary < g.secondary) ⊎ ((f.secondary ≡ g.secondary) × (lex_less [] [] ≡ true)) → Precedes f g
    secondaries k d (inl l) = by_secondary k d l
    secondaries k d (inr e) = absurd (lex_less_irreflexive [] e.1)

    domains : f.kind ≡ g.kind → (f.domain < g.domain) ⊎ ((f.domain ≡ g.domain) × (lex_less (f.secondary ∷ []) (g.secondary ∷ []) ≡ true)) → Precedes f g
    domains k (inl l) = by_domain k l
    domains k (inr e) = secondaries k e.0 (lex_less_cases _ _ _ _ e.1)

    kinds : (f.kind < g.kind) ⊎ ((f.kind ≡ g.kind) × (lex_less (f.domain ∷ f.secondary ∷ []) (g.domain ∷ g.secondary ∷ []) ≡ true)) → Precedes f g
    kinds (inl l) = by_kind l
    kinds (inr e) = domains e.0 (lex_less_cases _ _ _ _ e.1)

less : (f g : Finding) → Precedes f g → lex_less (finding_key f) (finding_key g) ≡ true
unfolding finding_key
less f g (by_kind l) = lex_less_less _ _ _ _ l
less f g (by_domain k l) = lex_less_same _ _ _ _ k (lex_less_less _ _ _ _ l)
less f g (by_secondary k d l) = lex_less_same _ _ _ _ k (lex_less_same _ _ _ _ d (lex_less_less _ _ _ _ l))

sorted_ascending : (l : List Finding) → Ascending finding_key l → Sorted l
sorted_ascending [] h = tt
sorted_ascending (f ∷ l) h = (all_map _ _ (precedes f) l h.0, sorted_ascending l h.1)

ascending_sorted : (l : List Finding) → Sorted l → Ascending finding_key l
ascending_sorted [] h = tt
ascending_sorted (f ∷ l) h = (all_map _ _ (less f) l h.0, ascending_sorted l h.1)

-- ---- what is given is what was found

reported : (raw : List Finding) → Reported raw (sort_unique finding_key raw)
reported raw =
    let ascending = sort_unique_ascending finding_key raw in
    record {
      sorted = sorted_ascending (sort_unique finding_key raw) ascending;
      nodup = ascending_nodup finding_key (sort_unique finding_key raw) ascending;
      only = λ f m. sort_unique_member finding_key f raw m;
      every = λ f m. member_sort_unique finding_key finding_key_injective f raw m;
    }

pub patch_reported : (p : Patch) → Reported (raw_patch_findings p) (patch_findings p)
unfolding patch_findings
patch_reported p = reported (raw_patch_findings p)

pub set_reported : (ps : List Patch) → Reported (raw_set_findings ps) (set_findings ps)
unfolding set_findings
set_reported ps = reported (raw_set_findings ps)

-- no other list would do
pub reported_unique : (raw a b : List Finding) → Reported raw a → Reported raw b → a ≡ b
reported_unique raw a b h k =
    ascending_unique finding_key a b (ascending_sorted a h.sorted) (ascending_sorted b k.sorted) (λ f m. k.every f (h.only f m)) (λ f m. h.every f (k.only f m))

-- ---- the end of the check

first_clean : (i : ℕ) (ps : List Patch) (set : Findings) → All CleanPatch ps → first_findings i ps set ≡ set
unfolding first_findings
first_clean i [] set h = refl
first_clean i (p ∷ ps) set h = rw (h.0, first_findings) (first_clean (i + 1) ps set h.1)

first_found : (i : ℕ) (a : List Patch) (p : Patch) (b : List Patch) (set : Findings) → All CleanPatch a → patch_findings p ≢ []
    → first_findings i (a ++ (p ∷ b)) set ≡ record { place = in_patch (i + length a); found = patch_findings p }
unfolding first_findings
first_found i [] p b set h n = go (patch_findings p) refl
  where
    go : (l : List Finding) → patch_findings p ≡ l → first_findings i (p ∷ b) set ≡ record { place = in_patch (i + 0); found = patch_findings p }
    go [] e = absurd (n e)
    go (f ∷ fs) e = let index : i ≡ i + 0 = omega arith in rw (e, first_findings) (λ j. record { place = in_patch (index j); found = f ∷ fs })
first_found i (q ∷ a) p b set h n =
    let index : i + 1 + length a ≡ i + suc (length a) = omega arith in
    rw (h.0, first_findings) (first_found (i + 1) a p b set h.1 n ∙ λ j. record { place = in_patch (index j); found = patch_findings p })

-- a first patch with findings
record FirstWithFindings (ps : List Patch) : Type 0 where
  before : List Patch
  patch : Patch
  after : List Patch
  split : ps ≡ before ++ (patch ∷ after)
  clean : All CleanPatch before
  some : patch_findings patch ≢ []

first_or_none : (ps : List Patch) → FirstWithFindings ps ⊎ All CleanPatch ps
first_or_none [] = inr tt
first_or_none (p ∷ ps) = go (patch_findings p) refl (first_or_none ps)
  where
    go : (l : List Finding) → patch_findings p ≡ l → FirstWithFindings ps ⊎ All CleanPatch ps → FirstWithFindings (p ∷ ps) ⊎ All CleanPatch (p ∷ ps)
    go [] e (inl s) = inl (record { before = p ∷ s.before; patch = s.patch; after = s.after; split = ap (λ l. p ∷ l) s.split; clean = (e, s.clean); some = s.some })
    go [] e (inr h) = inr (e, h)
    go (f ∷ fs) e rest = inl (record { before = []; patch = p; after = ps; split = refl; clean = tt; some = λ h. let z : ◌≡◌ {A = ℕ} 0 1 = cc in omega arith })

pub findings_ended : (ps : List Patch) → Ended ps (findings ps)
unfolding findings
findings_ended ps = go (first_or_none ps)
  where
    set : Findings
    set = record { place = in_set; found = set_findings ps }

    go : FirstWithFindings ps ⊎ All CleanPatch ps → Ended ps (first_findings 0 ps set)
    go (inl s) =
        let index : 0 + length s.before ≡ length s.before = omega arith in
        let ends = ap (λ l. first_findings 0 l set) s.split ∙ first_found 0 s.before s.patch s.after set s.clean s.some in
        at_patch s.before s.patch s.after s.split s.clean s.some (ends ∙ λ j. record { place = in_patch (index j); found = patch_findings s.patch })
    go (inr h) = at_set h (first_clean 0 ps set h)

-- ---- the whole check

module _ (ps : List Patch) where
  reported_by : (r : Findings) → Ended ps r → (raw : List Finding) × Reported raw r.found
  reported_by r (at_patch a p b s h n e) = (raw_patch_findings p, rw e (patch_reported p))
  reported_by r (at_set h e) = (raw_set_findings ps, rw e (set_reported ps))

  pub findings_sorted : Sorted (findings ps).found
  findings_sorted = (reported_by (findings ps) (findings_ended ps)).1.sorted

  pub findings_nodup : Nodup (findings ps).found
  findings_nodup = (reported_by (findings ps) (findings_ended ps)).1.nodup
