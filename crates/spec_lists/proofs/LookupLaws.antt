-- Lookups: after an insertion in order, and that they determine an ascending list.
use Rattle.std.specs.Prelude.{ℕ, ◌≡◌, true, ◌≢◌}
use Rattle.std.proofs.Math.Path.{refl, sym}
use Rattle.std.proofs.Common.{ap, ◌∙◌}
use Rattle.std.proofs.Math.Bool.{false≢true}
use mathlib.Core.List.{List, [], ◌∷◌}
use Rattle.std.proofs.Math.Option.{none, some, map, some-injective, some-ne-none}
use Rattle.std.proofs.Math.Dec.{eqb}
use Rattle.spec_lists.specs.Lists.{equal_lists, All}
use Rattle.spec_lists.proofs.ListLaws.{equal_lists_refl, equal_lists_true, test_cases}
use Rattle.spec_lists.specs.Order.{lex_less, upsert, lookup, Ascending}
use Rattle.spec_lists.proofs.OrderLaws.{lex_less_self, lex_less_total, above, alike}

module _ {A : Type 0} (key : A → List ℕ) where
  pub lookup_here : (x : A) (l : List A) → lookup key (key x) (x ∷ l) ≡ some x
  unfolding lookup
  lookup_here x l = rw (equal_lists_refl (key x))

  pub lookup_past : (k : List ℕ) (x : A) (l : List A) → key x ≢ k → lookup key k (x ∷ l) ≡ lookup key k l
  unfolding lookup
  lookup_past k x l n = test_cases (equal_lists eqb (key x) k) (λ e. absurd (n (equal_lists_true (key x) k e))) (λ e. rw e)

  -- no element has a key that is below all
  pub lookup_below : (k : List ℕ) (l : List A) → All (λ y. lex_less k (key y) ≡ true) l → lookup key k l ≡ none
  unfolding lookup
  lookup_below k [] h = refl
  lookup_below k (x ∷ l) h = lookup_past k x l (λ e. false≢true (sym (lex_less_self k) ∙ rw e at h.0)) ∙ lookup_below k l h.1

  -- what was inserted is found
  pub lookup_upsert : (a : A) (l : List A) → lookup key (key a) (upsert key a l) ≡ some a
  unfolding upsert
  lookup_upsert a [] = lookup_here a []
  lookup_upsert a (x ∷ l) = test_cases (lex_less (key a) (key x))
      (λ e. rw e (lookup_here a (x ∷ l)))
      (λ e. rw e (test_cases (lex_less (key x) (key a))
      (λ f. rw f (lookup_past (key a) x (upsert key a l) (λ g. false≢true (sym (lex_less_self (key a)) ∙ rw g at f)) ∙ lookup_upsert a l))
      (λ f. rw f (lookup_here a l))))

  -- and other keys are looked up as before
  pub lookup_upsert_other : (k : List ℕ) (a : A) (l : List A) → key a ≢ k → lookup key k (upsert key a l) ≡ lookup key k l
  unfolding upsert lookup
  lookup_upsert_other k a [] n = lookup_past k a [] n
  lookup_upsert_other k a (x ∷ l) n = test_cases (lex_less (key a) (key x))
      (λ e. rw e (lookup_past k a (x ∷ l) n))
      (λ e. rw e (test_cases (lex_less (key x) (key a))
      (λ f. rw (f, lookup_upsert_other k a l n))
      (λ f. rw f (lookup_past k a l n ∙ sym (lookup_past k x l (λ g. n (lex_less_total (key a) (key x) e f ∙ g)))))))

-- ---- an ascending list is determined by its lookups

-- `value` is what a lookup gives; it and the key determine an element
module _ {A B : Type 0} (key : A → List ℕ) (value : A → B) (whole : (x y : A) → key x ≡ key y → value x ≡ value y → x ≡ y) where
  -- a first key that is below all of another list is not found there
  first_not_below : (x : A) (l m : List A) → All (λ y. lex_less (key x) (key y) ≡ true) m
      → map value (lookup key (key x) (x ∷ l)) ≡ map value (lookup key (key x) m) → ⊥
  first_not_below x l m h e = some-ne-none (value x) (rw (lookup_here key x l, lookup_below key (key x) m h) at e)

  pub ascending_determined : (l m : List A) → Ascending key l → Ascending key m
      → ((a : A) → map value (lookup key (key a) l) ≡ map value (lookup key (key a) m)) → l ≡ m
  ascending_determined [] [] g h e = refl
  ascending_determined (x ∷ l) [] g h e = absurd (first_not_below x l [] tt (e x))
  ascending_determined [] (y ∷ m) g h e = absurd (first_not_below y m [] tt (sym (e y)))
  ascending_determined (x ∷ l) (y ∷ m) g h e =
      test_cases (lex_less (key x) (key y)) (λ s. absurd (first_not_below x l (y ∷ m) (s, above key x y m s h.0) (e x)))
      (λ s. test_cases (lex_less (key y) (key x)) (λ t. absurd (first_not_below y m (x ∷ l) (t, above key y x l t g.0) (sym (e y))))
      (λ t. heads (lex_less_total (key x) (key y) s t) (ascending_determined l m g.1 h.1)))
    where
      tails : key x ≡ key y → (a : A) → map value (lookup key (key a) l) ≡ map value (lookup key (key a) m)
      tails k a = test_cases (equal_lists eqb (key x) (key a))
          (λ s. let same = equal_lists_true (key x) (key a) s in
          ap (map value) (lookup_below key (key a) l (alike key a x l (sym same) g.0) ∙ sym (lookup_below key (key a) m (alike key a y m (sym same ∙ k) h.0))))
          (λ s. let past : key x ≢ key a = λ same. false≢true (sym s ∙ rw same (equal_lists_refl (key a))) in
          rw (lookup_past key (key a) x l past, lookup_past key (key a) y m (λ same. past (k ∙ same))) at (e a))

      heads : key x ≡ key y → (((a : A) → map value (lookup key (key a) l) ≡ map value (lookup key (key a) m)) → l ≡ m) → ◌≡◌ {A = List A} (x ∷ l) (y ∷ m)
      heads k rest =
          let found : some (value x) ≡ some (value y) = rw (lookup_here key x l, k, lookup_here key y m) at (e x) in
          let first : x ≡ y = whole x y k (some-injective (value x) (value y) found) in
          let others : l ≡ m = rest (tails k) in
          cc
