-- Edits at the first match: lengths, properties of all elements, and what is found.
use Prim.Native.Nat.{ℕ, suc}
use Rattle.std.proofs.Math.Path.{◌≡◌, refl, subst}
use Rattle.std.proofs.Common.{ap, arith}
use Rattle.std.specs.Prelude.{Bool, true, false, length}
use mathlib.Core.List.{List, [], ◌∷◌}
use Rattle.std.proofs.Math.Option.{none, some, some-injective, some-ne-none}
use Rattle.spec_lists.specs.Lists.{any, All}
use Rattle.spec_lists.proofs.ListLaws.{or_left, or_right, or_second, test_cases}
use Rattle.spec_projection.specs.FirstMatch.{find_first, insert_before_first, replace_first, remove_first}

module _ {A : Type 0} (test : A → Bool) where
  -- ---- lengths

  pub insert_before_first_length : (a : A) (l : List A) → length (insert_before_first test a l) ≡ suc (length l)
  unfolding insert_before_first
  insert_before_first_length a [] = refl
  insert_before_first_length a (x ∷ l) = test_cases (test x) (λ f. rw f) (λ f. rw f (ap suc (insert_before_first_length a l)))

  pub replace_first_length : (a : A) (l : List A) → length (replace_first test a l) ≡ length l
  unfolding replace_first
  replace_first_length a [] = refl
  replace_first_length a (x ∷ l) = test_cases (test x) (λ f. rw f) (λ f. rw f (ap suc (replace_first_length a l)))

  -- where an element passes, taking it out frees its place
  pub remove_first_length : (l : List A) → any test l ≡ true → suc (length (remove_first test l)) ≡ length l
  unfolding remove_first
  remove_first_length [] h = cc
  remove_first_length (x ∷ l) h = test_cases (test x) (λ f. rw f) (λ f. rw f (ap suc (remove_first_length l (rw f at h))))

  -- ---- properties of all elements

  pub insert_before_first_all : (P : A → Type 0) (a : A) (l : List A) → P a → All P l → All P (insert_before_first test a l)
  unfolding insert_before_first
  insert_before_first_all P a [] p h = (p, tt)
  insert_before_first_all P a (x ∷ l) p h = test_cases (test x) (λ f. rw f (p, h)) (λ f. rw f (h.0, insert_before_first_all P a l p h.1))

  -- the new element has what the one that it replaces gives it
  pub replace_first_all : (P : A → Type 0) (a : A) (l : List A) → ((y : A) → test y ≡ true → P y → P a) → All P l → All P (replace_first test a l)
  unfolding replace_first
  replace_first_all P a [] p h = tt
  replace_first_all P a (x ∷ l) p h = test_cases (test x) (λ f. rw f (p x f h.0, h.1)) (λ f. rw f (h.0, replace_first_all P a l p h.1))

  pub remove_first_all : (P : A → Type 0) (l : List A) → All P l → All P (remove_first test l)
  unfolding remove_first
  remove_first_all P [] h = tt
  remove_first_all P (x ∷ l) h = test_cases (test x) (λ f. rw f h.1) (λ f. rw f (h.0, remove_first_all P l h.1))

  -- ---- what is found

  pub find_first_passes : (l : List A) (a : A) → find_first test l ≡ some a → test a ≡ true
  unfolding find_first
  find_first_passes [] a h = cc
  find_first_passes (x ∷ l) a h = test_cases (test x) (λ f. rw (some-injective x a (rw f at h)) at f) (λ f. find_first_passes l a (rw f at h))

  pub find_first_any : (l : List A) (a : A) → find_first test l ≡ some a → any test l ≡ true
  unfolding find_first
  find_first_any [] a h = cc
  find_first_any (x ∷ l) a h = test_cases (test x) (λ f. rw f) (λ f. rw f (find_first_any l a (rw f at h)))

  pub find_first_none : (l : List A) → find_first test l ≡ none → any test l ≡ false
  unfolding find_first
  find_first_none [] h = refl
  find_first_none (x ∷ l) h = test_cases (test x) (λ f. absurd (some-ne-none x (rw f at h))) (λ f. rw f (find_first_none l (rw f at h)))

  -- what holds of all holds of what is found
  pub find_first_all : (P : A → Type 0) (l : List A) (a : A) → find_first test l ≡ some a → All P l → P a
  unfolding find_first
  find_first_all P [] a h k = let z : ◌≡◌ {A = ℕ} 0 1 = cc in absurd (omega arith)
  find_first_all P (x ∷ l) a h k = test_cases (test x) (λ f. subst P (some-injective x a (rw f at h)) k.0) (λ f. find_first_all P l a (rw f at h) k.1)

  pub find_first_absent : (l : List A) → any test l ≡ false → find_first test l ≡ none
  unfolding find_first
  find_first_absent [] h = refl
  find_first_absent (x ∷ l) h = rw (or_left (test x) _ h) (find_first_absent l (or_right (test x) _ h))

  -- ---- what is found after an edit, at a place that another test gives

  -- an element that passes where no other does
  pub insert_before_first_found : (place : A → Bool) (a : A) (l : List A) → test a ≡ true → any test l ≡ false → find_first test (insert_before_first place a l) ≡ some a
  unfolding find_first insert_before_first
  insert_before_first_found place a [] t n = rw t
  insert_before_first_found place a (x ∷ l) t n =
      test_cases (place x) (λ f. rw (f, t)) (λ f. rw (f, or_left (test x) _ n) (insert_before_first_found place a l t (or_right (test x) _ n)))

  -- an element that does not pass
  pub insert_before_first_beside : (place : A → Bool) (a : A) (l : List A) → test a ≡ false → find_first test (insert_before_first place a l) ≡ find_first test l
  unfolding find_first insert_before_first
  insert_before_first_beside place a [] t = rw t
  insert_before_first_beside place a (x ∷ l) t = test_cases (place x) (λ f. rw (f, t)) (λ f. rw (f, insert_before_first_beside place a l t))

  pub replace_first_found : (a : A) (l : List A) → test a ≡ true → any test l ≡ true → find_first test (replace_first test a l) ≡ some a
  unfolding find_first replace_first
  replace_first_found a [] t h = cc
  replace_first_found a (x ∷ l) t h = test_cases (test x) (λ f. rw (f, t)) (λ f. rw (f, f) (replace_first_found a l t (or_second _ _ h f)))

  -- elements that do not pass, one in place of the other
  pub replace_first_beside : (place : A → Bool) (a : A) (l : List A) → test a ≡ false → ((x : A) → place x ≡ true → test x ≡ false) → find_first test (replace_first place a l) ≡ find_first test l
  unfolding find_first replace_first
  replace_first_beside place a [] t n = refl
  replace_first_beside place a (x ∷ l) t n = test_cases (place x) (λ f. rw (f, t, n x f)) (λ f. rw (f, replace_first_beside place a l t n))

  pub remove_first_beside : (place : A → Bool) (l : List A) → ((x : A) → place x ≡ true → test x ≡ false) → find_first test (remove_first place l) ≡ find_first test l
  unfolding find_first remove_first
  remove_first_beside place [] n = refl
  remove_first_beside place (x ∷ l) n = test_cases (place x) (λ f. rw (f, n x f)) (λ f. rw (f, remove_first_beside place l n))
