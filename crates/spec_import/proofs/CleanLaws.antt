-- The patch checks find nothing of a patch of inserts exactly where it is as Clean says.
use Rattle.std.specs.Prelude.{ℕ, ◌≤◌, ◌<◌, ◌↔◌, length}
use Rattle.std.proofs.Math.Path.{◌≡◌, refl, ap}
use Rattle.std.proofs.Common.{sym, ◌∙◌}
use mathlib.Core.List.Memᴰ
use mathlib.Core.List.{List, [], ◌∷◌, ◌++◌, map, map-append}
use native.Mathlib.Omega.{arith}
use Rattle.spec_lists.proofs.ListLaws.{no_members}
use Rattle.spec_patch.specs.Patch.{Envelope, Patch}
use Rattle.spec_checks.specs.Finding.{Finding, finding, check_each, report, duplicate_mutation_target, empty_operations, non_increasing_revision, zero_patch_id, zero_stream_id}
use Rattle.spec_checks.specs.Target.{MutationTarget, mutation_target}
use Rattle.spec_checks.specs.PatchChecks.{patch_findings}
use Rattle.spec_checks.specs.Findings.{first_findings, findings}
use Rattle.spec_checks.specs.SetChecks.{after_findings, duplicate_id_findings, previous_findings, raw_set_findings, set_findings}
use Rattle.spec_checks.specs.Rules.{BeforeSelf, inserted, moved, PatchFinding, before_self_at, repeated_at, no_operations, not_above, no_id, no_stream}
use Rattle.spec_checks.proofs.RulesLaws.{patch_rule}
use Rattle.spec_checks.proofs.FindingsLaws.{patch_reported}
use Rattle.spec_lists.specs.Order.{sort_unique}
use Rattle.spec_import.specs.Import.{Term, insert_of, patch_of}
use Rattle.spec_import.specs.Clean.{InOrder}

-- where a map stands apart, so does what it is of
map_parts : {A B : Type 0} (f : A → B) (l : List A) (x : List B) (y : B) (z : List B) → map f l ≡ x ++ (y ∷ z)
    → (a : List A) × (t : A) × (b : List A) × (l ≡ a ++ (t ∷ b)) × (x ≡ map f a) × (y ≡ f t)
map_parts f [] [] y z e = absurd (let w : ◌≡◌ {A = ℕ} 0 1 = cc in omega arith)
map_parts f [] (v ∷ x) y z e = absurd (let w : ◌≡◌ {A = ℕ} 0 1 = cc in omega arith)
map_parts f (t ∷ l) [] y z e = let same : f t ≡ y = cc in ([], t, l, refl, refl, sym same)
map_parts f (t ∷ l) (v ∷ x) y z e =
    let first : f t ≡ v = cc in
    let rest : map f l ≡ x ++ (y ∷ z) = cc in
    let w = map_parts f l x y z rest in
    (t ∷ w.0, w.1, w.2, cons_eq refl w.3, cons_eq (sym first) w.4, w.5)
  where
    cons_eq : {X : Type 0} {p q : X} {r s : List X} → p ≡ q → r ≡ s → p ∷ r ≡ q ∷ s
    cons_eq h k = cc

module _ (collection : ℕ) (e : Envelope) (ts : List Term) where
  abbrev patch : Patch
  patch = patch_of collection e ts

  -- nothing is found of the patch where they are as asked
  none_found : InOrder e ts → (f : Finding) → PatchFinding patch f → ⊥
  unfolding patch_of insert_of mutation_target
  none_found h f (before_self_at a o b s self x) = self_free (map_parts (insert_of collection) ts a o b s).5 self
    where
      self_free : {t : Term} → o ≡ insert_of collection t → BeforeSelf o → ⊥
      self_free q (inserted c k v r) = let z : ◌≡◌ {A = ℕ} 0 1 = cc in omega arith
      self_free q (moved c k r) = let z : ◌≡◌ {A = ℕ} 0 1 = cc in omega arith
  none_found h f (repeated_at a o b s u m same x) =
      let w = map_parts (insert_of collection) ts a o b s in
      let v = Memᴰ.of_map (insert_of collection) w.0 (rw w.4 at m) in
      h.once w.0 w.1 w.2 w.3 v.0 v.1 (ap (λ (t : MutationTarget). t.second) (ap mutation_target v.2 ∙ same ∙ ap mutation_target w.5))
  none_found h f (no_operations s x) = h.lines (unmap ts s)
    where
      unmap : (l : List Term) → map (insert_of collection) l ≡ [] → l ≡ []
      unmap [] e = refl
      unmap (t ∷ l) e = absurd (let z : ◌≡◌ {A = ℕ} 0 1 = cc in omega arith)
  none_found h f (not_above l x) = omega (arith, h.above)
  none_found h f (no_id s x) = h.id s
  none_found h f (no_stream s x) = h.stream s

  -- one patch alone: its findings are those of the set
  one_patch : ((findings (patch ∷ [])).found ≡ []) ↔ (patch_findings patch ≡ [])
  unfolding findings first_findings set_findings raw_set_findings check_each after_findings duplicate_id_findings previous_findings report sort_unique
  one_patch = (there (patch_findings patch) refl, back)
    where
      back : patch_findings patch ≡ [] → (findings (patch ∷ [])).found ≡ []
      back h = rw (h, first_findings)

      there : (l : List Finding) → patch_findings patch ≡ l → (findings (patch ∷ [])).found ≡ [] → patch_findings patch ≡ []
      there [] h g = h
      there (f ∷ l) h g = absurd (let z : ◌≡◌ {A = ℕ} 0 1 = cc (rw (h, first_findings) at g) in omega arith)

  -- the checks find nothing exactly where they are as asked
  pub clean_exactly : ((findings (patch ∷ [])).found ≡ []) ↔ InOrder e ts
  unfolding patch_of insert_of mutation_target
  clean_exactly = (λ h. in_order (one_patch.0 h), λ h. one_patch.1 (no_members (patch_findings patch) (λ f m. none_found h f ((patch_rule patch f).0 ((patch_reported patch).only f m)))))
    where
      excluded : patch_findings patch ≡ [] → (f : Finding) → PatchFinding patch f → ⊥
      excluded h f g = Memᴰ.not-nil (rw h at ((patch_reported patch).every f ((patch_rule patch f).1 g)))

      in_order : patch_findings patch ≡ [] → InOrder e ts
      in_order h = record {
        lines = λ s. excluded h (finding empty_operations e.id 0) (no_operations (ap (map (insert_of collection)) s) refl);
        once = λ a t b s u m same. excluded h (finding duplicate_mutation_target e.id (length (map (insert_of collection) a)))
            (repeated_at (map (insert_of collection) a) (insert_of collection t) (map (insert_of collection) b) (ap (map (insert_of collection)) s ∙ map-append (insert_of collection) a (t ∷ b)) (insert_of collection u) (Memᴰ.map (insert_of collection) m)
            (λ i. record { kind = 3; first = collection; second = same i }) refl);
        id = λ s. excluded h (finding zero_patch_id e.id 0) (no_id s refl);
        stream = λ s. excluded h (finding zero_stream_id e.id 0) (no_stream s refl);
        above = not_below (λ l. excluded h (finding non_increasing_revision e.id 0) (not_above l refl));
      }
        where
          not_below : (e.revision ≤ e.previous → ⊥) → e.previous < e.revision
          not_below n = omega arith
