-- The form of a line, both ways: a line is read exactly if it is a key in decimal, a tab and a text that RFC 3629 allows and that has no tab.
use Rattle.std.specs.Prelude.{ℕ, refl, false, ◌↔◌}
use Rattle.std.proofs.Math.Path.{◌≡◌}
use Rattle.std.proofs.Common.{sym, ap, ap₂, ◌∙◌, arith, eqb-true}
use Rattle.std.proofs.Math.Bool.{true}
use mathlib.Core.List.{List, [], ◌∷◌, ◌++◌}
use Rattle.std.proofs.Math.Option.{Option, none, some}
use Rattle.std.proofs.Math.Dec.{eqb}
use Rattle.spec_lists.proofs.ListLaws.{test_cases}
use Rattle.spec_decimal.specs.Decimal.{read_decimal}
use Rattle.spec_decimal.proofs.ReadLaws.{read_decimal_printed}
use Rattle.spec_listing.specs.Escapes.{tab}
use Rattle.spec_listing.specs.Split.{prepend, split, lacks}
use Rattle.spec_patch.specs.TextRule.{allowed}
use Rattle.spec_import.specs.Import.{Term, term_with, term_of_fields, read_term}
use Rattle.spec_import.proofs.LineLaws.{Formed, line_of, line_read}

-- ---- parts of a line

module _ (separator : ℕ) where
  -- a list has at least one part
  pub some_part : (l : List ℕ) → (part : List ℕ) × (parts : List (List ℕ)) × (split separator l ≡ part ∷ parts)
  unfolding split prepend
  some_part [] = ([], [], refl)
  some_part (b ∷ l) =
      let w = some_part l in
      test_cases (eqb b separator)
      (λ t. ([], split separator l, rw t))
      (λ t. (b ∷ w.0, w.1, rw (t, w.2)))

  one_part : (l a : List ℕ) → split separator l ≡ a ∷ [] → (l ≡ a) × (lacks separator a ≡ true)
  unfolding split prepend
  one_part [] a e = rw (← head e) (refl, refl)
    where
      head : [] ∷ [] ≡ a ∷ [] → [] ≡ a
      head e = cc
  one_part (b ∷ l) a e =
      let w = some_part l in
      test_cases (eqb b separator)
      (λ t. none_left w.0 w.1 w.2 (rw t at e))
      (λ t. prepended w.0 w.1 w.2 t (one_part l) (rw t at e))
    where
      none_left : (p : List ℕ) (ps : List (List ℕ)) → split separator l ≡ p ∷ ps → [] ∷ split separator l ≡ a ∷ [] → (b ∷ l ≡ a) × (lacks separator a ≡ true)
      none_left p ps w e = absurd (let z : ◌≡◌ {A = ℕ} 0 1 = cc in omega arith)

      prepended : (p : List ℕ) (ps : List (List ℕ)) → split separator l ≡ p ∷ ps → eqb b separator ≡ false → ((c : List ℕ) → split separator l ≡ c ∷ [] → (l ≡ c) × (lacks separator c ≡ true))
          → prepend b (split separator l) ≡ a ∷ [] → (b ∷ l ≡ a) × (lacks separator a ≡ true)
      prepended p ps w t ih e =
          let whole : (b ∷ p) ∷ ps ≡ a ∷ [] = sym (ap (prepend b) w) ∙ e in
          let first : b ∷ p ≡ a = cc in
          let none_more : ps ≡ [] = cc in
          let r = ih p (w ∙ ap (λ (q : List (List ℕ)). p ∷ q) none_more) in
          rw (← first) (ap (λ (q : List ℕ). b ∷ q) r.0, rw t r.1)

  two_parts : (l a c : List ℕ) → split separator l ≡ a ∷ c ∷ [] → (l ≡ a ++ separator ∷ c) × (lacks separator c ≡ true)
  unfolding split prepend
  two_parts [] a c e = absurd (let z : ◌≡◌ {A = ℕ} 0 1 = cc in omega arith)
  two_parts (b ∷ l) a c e =
      let w = some_part l in
      test_cases (eqb b separator)
      (λ t. begins t (rw t at e))
      (λ t. prepended w.0 w.1 w.2 (two_parts l) (rw t at e))
    where
      begins : eqb b separator ≡ true → [] ∷ split separator l ≡ a ∷ c ∷ [] → (b ∷ l ≡ a ++ separator ∷ c) × (lacks separator c ≡ true)
      begins t e =
          let empty : [] ≡ a = cc in
          let r = one_part l c cc in
          rw (← empty) (ap₂ (λ (x : ℕ) (q : List ℕ). x ∷ q) (eqb-true b separator t) r.0, r.1)

      prepended : (p : List ℕ) (ps : List (List ℕ)) → split separator l ≡ p ∷ ps → ((x y : List ℕ) → split separator l ≡ x ∷ y ∷ [] → (l ≡ x ++ separator ∷ y) × (lacks separator y ≡ true))
          → prepend b (split separator l) ≡ a ∷ c ∷ [] → (b ∷ l ≡ a ++ separator ∷ c) × (lacks separator c ≡ true)
      prepended p ps w ih e =
          let whole : (b ∷ p) ∷ ps ≡ a ∷ c ∷ [] = sym (ap (prepend b) w) ∙ e in
          let first : b ∷ p ≡ a = cc in
          let one_more : ps ≡ c ∷ [] = cc in
          let r = ih p c (w ∙ ap (λ (q : List (List ℕ)). p ∷ q) one_more) in
          rw (← first) (ap (λ (q : List ℕ). b ∷ q) r.0, r.1)

-- ---- the form

form_of : (l : List ℕ) (t : Term) → read_term l ≡ some t → Formed t × (l ≡ line_of t)
unfolding read_term term_of_fields term_with
form_of l t e = by_fields (split tab l) refl e
  where
    never : {C : Type 0} → none ≡ some t → C
    never e = absurd (let z : ◌≡◌ {A = ℕ} 0 1 = cc in omega arith)

    by_text : (k : List ℕ) (n : ℕ) (w : List ℕ) → split tab l ≡ k ∷ w ∷ [] → read_decimal k ≡ some n → term_with (some n) w ≡ some t → Formed t × (l ≡ line_of t)
    by_text k n w s r e =
        let parts = two_parts tab l k w s in
        let spelled = read_decimal_printed k n r in
        test_cases (allowed true w)
        (λ u.
        let same : record { key = n; words = w } ≡ t = cc (rw u at e) in
        rw (← same) (record { key = spelled.1; utf8 = u; no_tab = parts.1 }, parts.0 ∙ ap (λ (q : List ℕ). q ++ (tab ∷ w)) spelled.0))
        (λ u. never (rw u at e))

    by_key : (k w : List ℕ) (o : Option ℕ) → split tab l ≡ k ∷ w ∷ [] → read_decimal k ≡ o → term_with o w ≡ some t → Formed t × (l ≡ line_of t)
    by_key k w none s r e = never e
    by_key k w (some n) s r e = by_text k n w s r e

    by_fields : (fs : List (List ℕ)) → split tab l ≡ fs → term_of_fields fs ≡ some t → Formed t × (l ≡ line_of t)
    by_fields [] s e = never e
    by_fields (k ∷ []) s e = never e
    by_fields (k ∷ w ∷ []) s e = by_key k w (read_decimal k) s refl e
    by_fields (k ∷ w ∷ more ∷ fs) s e = never e

-- a line has the form exactly if it is a term's line
pub form_exactly : (l : List ℕ) (t : Term) → (read_term l ≡ some t) ↔ (Formed t × (l ≡ line_of t))
form_exactly l t = (form_of l t, λ h. ap read_term h.1 ∙ line_read t h.0)
