-- Laws of searches: what an answer says, under a map, and how a place serves `upsert`.
use Prim.Native.Nat.{ℕ, zero, suc, ◌-◌, ◌≤◌, ◌<◌, ◌+◌}
use Rattle.std.proofs.Math.Path.{◌≡◌, refl, ap}
use Rattle.std.specs.Prelude.{Bool, get_or, if◌then◌else◌}
use Rattle.std.proofs.Math.Bool.{true, false}
use mathlib.Core.List.{List, [], ◌∷◌, map}
use Rattle.std.proofs.Math.Numerals.{add-one}
use Rattle.std.proofs.Common.{zero-add, arith}
use Rattle.std.proofs.Math.Dec.{ltb}
use Rattle.std.proofs.Math.ListN.{length}
use Rattle.std.proofs.lemmas.List.{length-map}
use borrow.Author.Tests.{lt-ltb, le-ltb, ltb-true, ltb-false}
use Rattle.spec_lists.specs.Lists.{any, All}
use Rattle.spec_lists.proofs.ListLaws.{all_map, all_member, get_or_member}
use Rattle.spec_lists.specs.Bytes.{number_of}
use Rattle.spec_lists.specs.Order.{lex_less, upsert}
use Rattle.bytes_records.specs.Positions.{first_index}
use Rattle.bytes_records.specs.PositionsLaws.{first_index_map, first_index_le, first_passes, first_le, any_lt, any_none, map_insert_at, map_replace_at}
use Rattle.bytes_records.specs.Keys.{leading_numbers}
use Rattle.bytes_records.specs.Search.{first_row_number, is_above, Rising, Starts, find_first_row, next_place, place_of, upsert_at, later}
use Rattle.std.specs.Prelude.{Some, None, Result, Ok, Err}

-- ---- the first element that passes a test

module _ {A : Type 0} (test : A → Bool) (l : List A) where
  -- what was found is the first, and one passes
  pub find_at : (i : ℕ) → find_first_row test l ≡ Some i → (i ≡ first_index test l) × (i < length l) × (any test l ≡ true)
  unfolding find_first_row
  find_at i e = go (ltb (first_index test l) (length l)) refl (any test l) refl e
    where
      go : (t : Bool) → ltb (first_index test l) (length l) ≡ t → (s : Bool) → any test l ≡ s
          → (if t then Some (first_index test l) else None) ≡ Some i → (i ≡ first_index test l) × (i < length l) × (s ≡ true)
      go true f true g e =
          let same : i ≡ first_index test l = cc in
          (same, omega (arith, ltb-true (first_index test l) (length l) f), refl)
      go true f false g e = absurd (omega (arith, ltb-true (first_index test l) (length l) f, any_none test l g))
      go false f s g e = let z : ◌≡◌ {A = ℕ} 0 1 = cc in absurd (omega arith)

  pub find_absent : find_first_row test l ≡ None → any test l ≡ false
  unfolding find_first_row
  find_absent e = go (ltb (first_index test l) (length l)) refl (any test l) refl e
    where
      go : (t : Bool) → ltb (first_index test l) (length l) ≡ t → (s : Bool) → any test l ≡ s
          → (if t then Some (first_index test l) else None) ≡ None → s ≡ false
      go true f s g e = let z : ◌≡◌ {A = ℕ} 0 1 = cc in absurd (omega arith)
      go false f true g e = absurd (omega (arith, ltb-false (first_index test l) (length l) f, any_lt test l g))
      go false f false g e = refl

  -- a search that stopped at i, or at the end
  pub find_stopped : (i : ℕ) → first_index test l ≡ i → i < length l → find_first_row test l ≡ Some i
  unfolding find_first_row
  find_stopped i e h = rw (e, lt-ltb i (length l) h)

  pub find_ended : first_index test l ≡ length l → find_first_row test l ≡ None
  unfolding find_first_row
  find_ended e = rw (e, le-ltb (length l) (length l) (omega arith))

pub find_map : {A B : Type 0} (f : A → B) (test : B → Bool) (own : A → Bool) (l : List A) → All (λ x. test (f x) ≡ own x) l → find_first_row test (map f l) ≡ find_first_row own l
unfolding find_first_row
find_map f test own l h = rw (first_index_map f test own l h, length-map)

-- ---- rows that rise by their first number

pub rising_at : (rows : List (List ℕ)) → Rising rows → (i j : ℕ) → i ≤ j → j < length rows → first_row_number (get_or rows i []) ≤ first_row_number (get_or rows j [])
rising_at [] h i j order below = absurd (omega arith)
rising_at (row ∷ rows) h zero zero order below = omega arith
rising_at (row ∷ rows) h zero (suc j) order below = all_member (λ later. first_row_number row ≤ first_row_number later) rows h.0 (get_or_member rows j [] (omega arith))
rising_at (row ∷ rows) h (suc i) zero order below = absurd (omega arith)
rising_at (row ∷ rows) h (suc i) (suc j) order below = rising_at rows h.1 i j (omega arith) (omega arith)

module _ (rows : List (List ℕ)) (rising : Rising rows) where
  -- the rows above the id follow all others
  pub above_later : (id i : ℕ) → i < length rows → first_row_number (get_or rows i []) ≤ id → i < first_index (is_above id) rows
  above_later id i below h = go (ltb i (first_index (is_above id) rows)) refl
    where
      go : (t : Bool) → ltb i (first_index (is_above id) rows) ≡ t → i < first_index (is_above id) rows
      go true e = ltb-true i (first_index (is_above id) rows) e
      go false e =
          let k : first_index (is_above id) rows ≤ i = ltb-false i (first_index (is_above id) rows) e in
          let passes = first_passes (is_above id) rows [] (omega arith) in
          absurd (omega (arith, ltb-true id _ passes, rising_at rows rising (first_index (is_above id) rows) i k below))

  pub starts_above : (id : ℕ) → 0 < id → Starts id (first_index (is_above (id - 1)) rows) rows
  starts_above id some =
      record {
        below = λ i h. below i h;
        from = λ i h k.
            let passes = first_passes (is_above (id - 1)) rows [] (omega arith) in
            omega (arith, ltb-true (id - 1) _ passes, rising_at rows rising (first_index (is_above (id - 1)) rows) i h k);
      }
    where
      below : (i : ℕ) → i < first_index (is_above (id - 1)) rows → first_row_number (get_or rows i []) < id
      below i h = go (ltb (id - 1) (first_row_number (get_or rows i []))) refl
        where
          go : (t : Bool) → ltb (id - 1) (first_row_number (get_or rows i [])) ≡ t → first_row_number (get_or rows i []) < id
          go true e = absurd (omega (arith, first_le (is_above (id - 1)) rows i [] (omega (arith, first_index_le (is_above (id - 1)) rows)) e))
          go false e = omega (arith, ltb-false (id - 1) (first_row_number (get_or rows i [])) e)

-- ---- places

-- keys that stand alike to their bounds have the same place
pub place_alike : {A B : Type 0} (f : A → B) (key : B → List ℕ) (k : List ℕ) (own : A → List ℕ) (j : List ℕ) (l : List A)
    → All (λ x. (lex_less k (key (f x)) ≡ lex_less j (own x)) × (lex_less (key (f x)) k ≡ lex_less (own x) j)) l
    → place_of key k (map f l) ≡ place_of own j l
unfolding place_of
place_alike f key k own j [] h = refl
place_alike f key k own j (x ∷ l) h = rw (h.0.0, h.0.1, place_alike f key k own j l h.1)

-- a key of the images is a key of the elements
pub place_map : {A B : Type 0} (f : A → B) (key : B → List ℕ) (own : A → List ℕ) (k : List ℕ) (l : List A)
    → All (λ x. key (f x) ≡ own x) l → place_of key k (map f l) ≡ place_of own k l
place_map f key own k l h =
    place_alike f key k own k l
    (all_map (λ x. key (f x) ≡ own x) _ (λ x e. (ap (λ y. lex_less k y) e, ap (λ y. lex_less y k) e)) l h)

module _ {A : Type 0} (key : A → List ℕ) where
  -- `upsert` puts an element at its place
  pub upsert_place : (a : A) (l : List A) → upsert key a l ≡ upsert_at (place_of key (key a) l) a l
  unfolding upsert place_of upsert_at next_place
  upsert_place a [] = refl
  upsert_place a (x ∷ l) = go (lex_less (key a) (key x)) (lex_less (key x) (key a)) (place_of key (key a) l) (upsert_place a l)
    where
      go : (s t : Bool) (p : Result ℕ ℕ) → upsert key a l ≡ upsert_at p a l
          → (if s then a ∷ x ∷ l else if t then x ∷ upsert key a l else a ∷ l)
          ≡ upsert_at (if s then Err zero else if t then next_place p else Ok zero) a (x ∷ l)
      go true t p ih = refl
      go false true (Ok i) ih = rw add-one (ap (λ m. x ∷ m) (rw add-one at ih))
      go false true (Err i) ih = ap (λ m. x ∷ m) ih
      go false false p ih = refl

pub map_upsert_at : {A B : Type 0} (f : A → B) (p : Result ℕ ℕ) (a : A) (l : List A) → map f (upsert_at p a l) ≡ upsert_at p (f a) (map f l)
unfolding upsert_at
map_upsert_at f (Ok i) a l = map_replace_at f i a l
map_upsert_at f (Err i) a l = map_insert_at f i a l

-- a second number of no bytes decides nothing
pub place_one : (n x : ℕ) (rows : List (List ℕ))
    → place_of (leading_numbers (n ∷ 0 ∷ [])) (x ∷ 0 ∷ []) rows ≡ place_of (leading_numbers (n ∷ [])) (x ∷ []) rows
unfolding place_of leading_numbers lex_less number_of
place_one n x [] = refl
place_one n x (row ∷ rows) = rw (place_one n x rows)

-- ---- places with elements in front

pub later_none : (p : Result ℕ ℕ) → p ≡ later 0 p
later_none (Ok j) = rw zero-add
later_none (Err j) = rw zero-add

pub later_next : (i : ℕ) (p : Result ℕ ℕ) → later i (next_place p) ≡ later (i + 1) p
unfolding next_place
later_next i (Ok j) = ap Ok (omega arith)
later_next i (Err j) = ap Err (omega arith)
