-- Laws of positions: what the first element that passes a test is in a part, under a map, and to a function that goes by it.
use Prim.Native.Nat.{ℕ, zero, suc, ◌+◌, ◌≤◌, ◌<◌}
use Rattle.std.proofs.Math.Path.{◌≡◌, refl, ap}
use Rattle.std.proofs.Common.{sym, ◌∙◌, ltb-true, ltb-false, length-append, take-append-drop}
use Rattle.std.specs.Prelude.{Bool, ◌||◌, ltb, take, drop, get_or, if◌then◌else◌}
use Rattle.std.proofs.Math.Bool.{true, false}
use Rattle.std.proofs.lemmas.Bool.{false≢true}
use mathlib.Core.List.{List, [], ◌∷◌, map, map-append}
use Rattle.std.proofs.Math.Numerals.{add-one}
use native.Mathlib.Omega.{arith}
use Rattle.std.proofs.Math.ListN.{length}
use Rattle.spec_lists.specs.Lists.{any, All}
use Rattle.spec_lists.proofs.ListLaws.{map_take, map_drop}
use Rattle.bytes_records.specs.Positions.{insert_at, remove_at, replace_at, first_index}

-- ---- one element more

pub length_insert_at : {A : Type 0} (i : ℕ) (a : A) (l : List A) → length (insert_at i a l) ≡ length l + 1
length_insert_at i a l = omega (arith, length-append (take i l) (a ∷ drop i l), length-append (take i l) (drop i l), ap length (take-append-drop i l))

-- ---- under a map

module _ {A B : Type 0} (f : A → B) where
  pub map_insert_at : (i : ℕ) (a : A) (l : List A) → map f (insert_at i a l) ≡ insert_at i (f a) (map f l)
  map_insert_at i a l = map-append f (take i l) (a ∷ drop i l) ∙ rw (map_take f i l, map_drop f i l)

  pub map_remove_at : (i : ℕ) (l : List A) → map f (remove_at i l) ≡ remove_at i (map f l)
  map_remove_at i l = map-append f (take i l) (drop (i + 1) l) ∙ rw (map_take f i l, map_drop f (i + 1) l)

  pub map_replace_at : (i : ℕ) (a : A) (l : List A) → map f (replace_at i a l) ≡ replace_at i (f a) (map f l)
  map_replace_at i a l = map-append f (take i l) (a ∷ drop (i + 1) l) ∙ rw (map_take f i l, map_drop f (i + 1) l)

  -- a test of the images is a test of the elements
  pub first_index_map : (test : B → Bool) (own : A → Bool) (l : List A) → All (λ x. test (f x) ≡ own x) l → first_index test (map f l) ≡ first_index own l
  unfolding first_index
  first_index_map test own [] h = refl
  first_index_map test own (x ∷ l) h = rw (h.0, first_index_map test own l h.1)

-- ---- the first element that passes a test

module _ {A : Type 0} (test : A → Bool) where
  pub first_index_le : (l : List A) → first_index test l ≤ length l
  unfolding first_index
  first_index_le [] = omega arith
  first_index_le (x ∷ l) = go (test x) (first_index_le l)
    where
      go : (t : Bool) → first_index test l ≤ length l → (if t then zero else suc (first_index test l)) ≤ suc (length l)
      go true h = omega arith
      go false h = omega arith

  -- the first that passes does, and none before it
  pub first_passes : (l : List A) (d : A) → first_index test l < length l → test (get_or l (first_index test l) d) ≡ true
  unfolding first_index
  first_passes [] d h = absurd (omega arith)
  first_passes (x ∷ l) d h = go (test x) refl (first_passes l d) h
    where
      go : (t : Bool) → test x ≡ t → (first_index test l < length l → test (get_or l (first_index test l) d) ≡ true)
          → (if t then zero else suc (first_index test l)) < suc (length l)
          → test (get_or (x ∷ l) (if t then zero else suc (first_index test l)) d) ≡ true
      go true e ih h = e
      go false e ih h = ih (omega arith)

  pub first_le : (l : List A) (i : ℕ) (d : A) → i < length l → test (get_or l i d) ≡ true → first_index test l ≤ i
  unfolding first_index
  first_le [] i d h e = absurd (omega arith)
  first_le (x ∷ l) zero d h e = rw e (omega arith)
  first_le (x ∷ l) (suc i) d h e = go (test x) (first_le l i d (omega arith) e)
    where
      go : (t : Bool) → first_index test l ≤ i → (if t then zero else suc (first_index test l)) ≤ suc i
      go true k = omega arith
      go false k = omega arith

  -- some element passes exactly where the first is one of them
  pub any_lt : (l : List A) → any test l ≡ true → first_index test l < length l
  unfolding first_index
  any_lt [] h = let z : ◌≡◌ {A = ℕ} 0 1 = cc in absurd (omega arith)
  any_lt (x ∷ l) h = go (test x) (any_lt l) h
    where
      go : (t : Bool) → (any test l ≡ true → first_index test l < length l) → (t || any test l) ≡ true → (if t then zero else suc (first_index test l)) < suc (length l)
      go true ih h = omega arith
      go false ih h = omega (arith, ih h)

  pub any_none : (l : List A) → any test l ≡ false → first_index test l ≡ length l
  unfolding first_index
  any_none [] h = refl
  any_none (x ∷ l) h = go (test x) (any_none l) h
    where
      go : (t : Bool) → (any test l ≡ false → first_index test l ≡ length l) → (t || any test l) ≡ false → (if t then zero else suc (first_index test l)) ≡ suc (length l)
      go true ih h = cc
      go false ih h = ap suc (ih h)

  -- a search that has come to position i: none before it passes
  module _ (l : List A) (i : ℕ) (d : A) (below : i < length l) (passed : i ≤ first_index test l) where
    pub first_here : test (get_or l i d) ≡ true → first_index test l ≡ i
    first_here e = omega (arith, first_le l i d below e)

    pub first_more : test (get_or l i d) ≡ false → i + 1 ≤ first_index test l
    first_more e = go (ltb i (first_index test l)) refl
      where
        go : (t : Bool) → ltb i (first_index test l) ≡ t → i + 1 ≤ first_index test l
        go true f = omega (arith, ltb-true i (first_index test l) f)
        go false f =
            let same : first_index test l ≡ i = omega (arith, ltb-false i (first_index test l) f) in
            let some : first_index test l < length l = omega arith in
            absurd (false≢true (sym e ∙ ap (λ k. test (get_or l k d)) (sym same) ∙ first_passes l d some))

-- ---- functions that go through a list to the first element that passes a test

module _ {A : Type 0} (test : A → Bool) (g : List A → List A) where
  pub insert_first : (a : A) → g [] ≡ a ∷ [] → ((x : A) (xs : List A) → g (x ∷ xs) ≡ (if test x then a ∷ x ∷ xs else x ∷ g xs))
      → (l : List A) → g l ≡ insert_at (first_index test l) a l
  unfolding first_index
  insert_first a none more [] = none
  insert_first a none more (x ∷ l) = more x l ∙ go (test x) (insert_first a none more l)
    where
      go : (t : Bool) → g l ≡ insert_at (first_index test l) a l
          → (if t then a ∷ x ∷ l else x ∷ g l) ≡ insert_at (if t then zero else suc (first_index test l)) a (x ∷ l)
      go true ih = refl
      go false ih = ap (λ m. x ∷ m) ih

  pub remove_first_lem : g [] ≡ [] → ((x : A) (xs : List A) → g (x ∷ xs) ≡ (if test x then xs else x ∷ g xs))
      → (l : List A) → g l ≡ remove_at (first_index test l) l
  unfolding first_index
  remove_first_lem none more [] = none
  remove_first_lem none more (x ∷ l) = more x l ∙ go (test x) (remove_first_lem none more l)
    where
      go : (t : Bool) → g l ≡ remove_at (first_index test l) l
          → (if t then l else x ∷ g l) ≡ remove_at (if t then zero else suc (first_index test l)) (x ∷ l)
      go true ih = refl
      go false ih = rw add-one (ap (λ m. x ∷ m) (rw add-one at ih))

  pub replace_first_lem : (a : A) → ((x : A) (xs : List A) → g (x ∷ xs) ≡ (if test x then a ∷ xs else x ∷ g xs))
      → (l : List A) → any test l ≡ true → g l ≡ replace_at (first_index test l) a l
  unfolding first_index
  replace_first_lem a more [] h = cc
  replace_first_lem a more (x ∷ l) h = more x l ∙ go (test x) (replace_first_lem a more l) h
    where
      go : (t : Bool) → (any test l ≡ true → g l ≡ replace_at (first_index test l) a l) → (t || any test l) ≡ true
          → (if t then a ∷ l else x ∷ g l) ≡ replace_at (if t then zero else suc (first_index test l)) a (x ∷ l)
      go true ih h = refl
      go false ih h = rw add-one (ap (λ m. x ∷ m) (rw add-one at (ih h)))
