-- A patch list has no findings exactly if no patch has any and the set has none; and a contiguous part of such a list has none.
use Rattle.std.specs.Prelude.{◌≡◌, ◌↔◌}
use Rattle.std.proofs.Common.{sym, ap, ◌∙◌, subst}
use mathlib.Core.List.Memᴰ
use mathlib.Core.List.{List, [], ◌∷◌, ◌++◌, append_assoc, append-nil, Memᴰ}
use Rattle.spec_lists.specs.Lists.{All}
use Rattle.spec_lists.proofs.ListLaws.{all_left, all_right, no_members}
use Rattle.spec_patch.specs.Patch.{Patch}
use Rattle.spec_checks.specs.Finding.{Finding}
use Rattle.spec_checks.specs.SetChecks.{set_findings}
use Rattle.spec_checks.specs.Findings.{in_set, Findings, findings, CleanPatch, Clean}
use Rattle.spec_checks.specs.Rules.{SetFinding, same_id, neighbours, Ended, at_patch, at_set}
use Rattle.spec_checks.proofs.RulesLaws.{set_rule}
use Rattle.spec_checks.proofs.FindingsLaws.{set_reported, findings_ended}

-- ---- no findings

clean_ended : (ps : List Patch) (r : Findings) → Ended ps r → r.found ≡ [] → Clean ps
clean_ended ps r (at_patch a p b s h n e) none = absurd (n (sym (ap (λ (x : Findings). x.found) e) ∙ none))
clean_ended ps r (at_set h e) none = record { patches = h; set = sym (ap (λ (x : Findings). x.found) e) ∙ none }

pub clean_of_findings : (ps : List Patch) → (findings ps).found ≡ [] → Clean ps
clean_of_findings ps = clean_ended ps (findings ps) (findings_ended ps)

ended_clean : (ps : List Patch) (r : Findings) → Ended ps r → Clean ps → r ≡ record { place = in_set; found = [] }
ended_clean ps r (at_patch a p b s h n e) c = absurd (n (all_right CleanPatch a (p ∷ b) (subst (All CleanPatch) s c.patches)).0)
ended_clean ps r (at_set h e) c = e ∙ ap (λ l. record { place = in_set; found = l }) c.set

-- then the set is named
pub findings_of_clean : (ps : List Patch) → Clean ps → findings ps ≡ record { place = in_set; found = [] }
findings_of_clean ps = ended_clean ps (findings ps) (findings_ended ps)

pub clean_iff : (ps : List Patch) → ((findings ps).found ≡ []) ↔ Clean ps
clean_iff ps = (clean_of_findings ps, λ c. ap (λ (r : Findings). r.found) (findings_of_clean ps c))

-- ---- parts

module _ (a b c : List Patch) where
  widen : (x y : List Patch) → b ≡ x ++ y → a ++ (b ++ c) ≡ (a ++ x) ++ (y ++ c)
  widen x y e = ap (λ l. a ++ (l ++ c)) e ∙ ap (λ l. a ++ l) (append_assoc x y c) ∙ sym (append_assoc a x (y ++ c))

  -- a finding of a part is one of the whole
  part_finding : (f : Finding) → SetFinding b f → SetFinding (a ++ (b ++ c)) f
  part_finding f (same_id x p y e q m i h) = same_id (a ++ x) p (y ++ c) (widen x (p ∷ y) e) q (Memᴰ.append_right a m) i h
  part_finding f (neighbours x q p y e r) = neighbours (a ++ x) q p (y ++ c) (widen x (q ∷ p ∷ y) e) r

  pub clean_part : Clean (a ++ (b ++ c)) → Clean b
  clean_part h = record { patches = all_left CleanPatch b c (all_right CleanPatch a (b ++ c) h.patches); set = no_members (set_findings b) none }
    where
      none : (f : Finding) → Memᴰ f (set_findings b) → ⊥
      none f m =
          let whole = part_finding f ((set_rule b f).0 ((set_reported b).only f m)) in
          Memᴰ.not-nil (subst (Memᴰ f) h.set ((set_reported (a ++ (b ++ c))).every f ((set_rule (a ++ (b ++ c)) f).1 whole)))

  pub findings_part : (findings (a ++ (b ++ c))).found ≡ [] → (findings b).found ≡ []
  findings_part h = (clean_iff b).1 (clean_part (clean_of_findings (a ++ (b ++ c)) h))

pub clean_left : (a b : List Patch) → Clean (a ++ b) → Clean a
clean_left = clean_part []

pub clean_right : (a b : List Patch) → Clean (a ++ b) → Clean b
clean_right a b h = clean_part a b [] (subst (λ l. Clean (a ++ l)) (sym (append-nil b)) h)
