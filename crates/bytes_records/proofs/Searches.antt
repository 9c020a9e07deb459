-- What a search over the rows of a table has found at each turn, by the lent part that is the row.
use mathlib.Core.Path.{◌≡◌, refl, sym, ap, ◌∙◌}
use mathlib.Core.Bool.{Bool, true, false}
use mathlib.Core.List.{List, [], ◌∷◌, ◌++◌}
use Prim.Native.Nat.{ℕ, ◌+◌, ◌-◌, ◌*◌, ◌≤◌, ◌<◌}
use native.Mathlib.Nat.{add-zero}
use native.Mathlib.Omega.{arith}
use lib.Dec.{ltb}
use lib.ListN.{length, take, drop, get_or, length-take, length-drop, drop_of_length-le}
use lib.Seq.{take-take, take-add, drop_at, drop-drop}
use borrow.Author.Tests.{ltb-true, ltb-false, eqb-true}
use borrow.Rule.Slice.PartMut.{mid_of}
use Rattle.std.specs.Prelude.{if◌then◌else◌}
use Rattle.spec_lists.proofs.ListLaws.{and_left}
use Rattle.spec_lists.specs.Order.{lex_less}
use Rattle.bytes_records.specs.Positions.{first_index}
use Rattle.bytes_records.specs.PositionsLaws.{first_index_le, first_passes}
use Rattle.bytes_records.specs.Table.{HoldsRows}
use Rattle.bytes_records.specs.TableLaws.{rows_fit, row_at_lem, row_cons}
use Rattle.bytes_records.specs.Keys.{order_of}
use Rattle.bytes_records.specs.Search.{first_row_number, is_pair, Rising, Starts, next_place, place_of, later}
use Rattle.bytes_records.specs.SearchLaws.{rising_at, later_none, later_next}
use Rattle.bytes_records.proofs.Offsets.{end_le}
use Rattle.std.specs.Prelude.{Ok, Err}
use Rattle.std.specs.declared.cmp.Ordering.TheVariants.{Less, Equal, Greater}

-- the lent part that is the row's first eight bytes
pub row_head_is : {w n : ℕ} {l : List ℕ} (m : List (List ℕ)) (t : HoldsRows w n l m) (i : ℕ) → i < n → 8 ≤ w
    → mid_of (i * w) (i * w + 8 - i * w) l ≡ take 8 (get_or m i [])
row_head_is {w} {n} {l} m t i below wide =
    let k : i * w + 8 - i * w ≡ 8 = omega arith in
    rw (k, ← row_at_lem t i below, take-take)

-- the lent part that is the eight bytes behind these
pub second_is : {w n : ℕ} {l : List ℕ} (m : List (List ℕ)) (t : HoldsRows w n l m) (i : ℕ) → i < n → 16 ≤ w
    → mid_of (i * w + 8) (i * w + 8 + 8 - (i * w + 8)) l ≡ take 8 (drop 8 (get_or m i []))
second_is {w} {n} {l} m t i below wide =
    let k : i * w + 8 + 8 - (i * w + 8) ≡ 8 = omega arith in
    let whole : w ≡ 8 + (w - 8) = omega arith in
    let more : 8 ≤ w - 8 = omega arith in
    let front : length (take 8 (drop (i * w) l)) ≡ 8 = simp (length-take, length-drop) (omega (arith, rows_fit t, end_le w i n below)) in
    let row : get_or m i [] ≡ take 8 (drop (i * w) l) ++ take (w - 8) (drop 8 (drop (i * w) l)) = sym (row_at_lem t i below) ∙ ap (λ (j : ℕ). take j (drop (i * w) l)) whole ∙ take-add 8 (w - 8) (drop (i * w) l) in
    rw (k, row, drop_at _ _ 8 front, take-take, drop-drop)

-- ---- two numbers, in rows that rise by the first

module _ (m : List (List ℕ)) (rising : Rising m) (id second : ℕ) where
  pair_id : first_index (is_pair id second) m < length m → first_row_number (get_or m (first_index (is_pair id second) m) []) ≡ id
  pair_id some = eqb-true _ id (and_left _ _ (first_passes (is_pair id second) m [] some))

  module _ (start : ℕ) (starts : Starts id start m) where
    -- the search begins where the id's rows begin
    pub pair_start : start ≤ length m → start ≤ first_index (is_pair id second) m
    pair_start within = go (ltb (first_index (is_pair id second) m) start) refl
      where
        go : (t : Bool) → ltb (first_index (is_pair id second) m) start ≡ t → start ≤ first_index (is_pair id second) m
        go true e =
            let h = ltb-true (first_index (is_pair id second) m) start e in
            absurd (omega (arith, pair_id (omega arith), starts.below (first_index (is_pair id second) m) h))
        go false e = ltb-false (first_index (is_pair id second) m) start e

    -- and ends behind them
    pub pair_gone : (i : ℕ) → start ≤ i → i < length m → i ≤ first_index (is_pair id second) m → (first_row_number (get_or m i []) ≡ id → ⊥) → first_index (is_pair id second) m ≡ length m
    pair_gone i behind below passed other = go (ltb (first_index (is_pair id second) m) (length m)) refl
      where
        go : (t : Bool) → ltb (first_index (is_pair id second) m) (length m) ≡ t → first_index (is_pair id second) m ≡ length m
        go true e =
            let h = ltb-true (first_index (is_pair id second) m) (length m) e in
            absurd (other (omega (arith, pair_id h, starts.from i behind below, rising_at m rising i (first_index (is_pair id second) m) passed h)))
        go false e = omega (arith, ltb-false (first_index (is_pair id second) m) (length m) e, first_index_le (is_pair id second) m)

-- ---- the place of a key

-- which test decided how a key stands to another
module _ (a b : List ℕ) where
  below_tests : order_of a b ≡ Less → (lex_less b a ≡ false) × (lex_less a b ≡ true)
  unfolding order_of
  below_tests e = go (lex_less b a) (lex_less a b) e
    where
      go : (s t : Bool) → (if s then Greater else if t then Less else Equal) ≡ Less → (s ≡ false) × (t ≡ true)
      go true t e = let z : ◌≡◌ {A = ℕ} 0 1 = cc in absurd (omega arith)
      go false true e = (refl, refl)
      go false false e = let z : ◌≡◌ {A = ℕ} 0 1 = cc in absurd (omega arith)

  same_tests : order_of a b ≡ Equal → (lex_less b a ≡ false) × (lex_less a b ≡ false)
  unfolding order_of
  same_tests e = go (lex_less b a) (lex_less a b) e
    where
      go : (s t : Bool) → (if s then Greater else if t then Less else Equal) ≡ Equal → (s ≡ false) × (t ≡ false)
      go true t e = let z : ◌≡◌ {A = ℕ} 0 1 = cc in absurd (omega arith)
      go false true e = let z : ◌≡◌ {A = ℕ} 0 1 = cc in absurd (omega arith)
      go false false e = (refl, refl)

  above_tests : order_of a b ≡ Greater → lex_less b a ≡ true
  unfolding order_of
  above_tests e = go (lex_less b a) (lex_less a b) e
    where
      go : (s t : Bool) → (if s then Greater else if t then Less else Equal) ≡ Greater → s ≡ true
      go true t e = refl
      go false true e = let z : ◌≡◌ {A = ℕ} 0 1 = cc in absurd (omega arith)
      go false false e = let z : ◌≡◌ {A = ℕ} 0 1 = cc in absurd (omega arith)

module _ (key : List ℕ → List ℕ) (k : List ℕ) where
  -- every row before position i is below the key
  pub Placed : ℕ → List (List ℕ) → Type 0
  Placed i m = place_of key k m ≡ later i (place_of key k (drop i m))

  pub placed_none : (m : List (List ℕ)) → Placed 0 m
  unfolding Placed
  placed_none m = later_none (place_of key k m)

  module _ {w n : ℕ} {l : List ℕ} (m : List (List ℕ)) (t : HoldsRows w n l m) (i : ℕ) (placed : Placed i m) where
    -- the place from position i on, by the row there
    module _ (below : i < n) where
      here : place_of key k (drop i m) ≡ place_of key k (get_or m i [] ∷ drop (i + 1) m)
      here = ap (place_of key k) (row_cons t i below)

      pub placed_more : order_of (key (get_or m i [])) k ≡ Less → Placed (i + 1) m
      unfolding place_of Placed
      placed_more e =
          let tests = below_tests (key (get_or m i [])) k e in
          let on : place_of key k (drop i m) ≡ next_place (place_of key k (drop (i + 1) m)) = here ∙ rw (tests.0, tests.1) in
          placed ∙ ap (later i) on ∙ later_next i (place_of key k (drop (i + 1) m))

      pub placed_taken : order_of (key (get_or m i [])) k ≡ Equal → place_of key k m ≡ Ok i
      unfolding place_of Placed
      placed_taken e =
          let tests = same_tests (key (get_or m i [])) k e in
          let on : place_of key k (drop i m) ≡ Ok 0 = here ∙ rw (tests.0, tests.1) in
          placed ∙ ap (later i) on ∙ ap Ok (add-zero i)

      pub placed_before : order_of (key (get_or m i [])) k ≡ Greater → place_of key k m ≡ Err i
      unfolding place_of Placed
      placed_before e =
          let on : place_of key k (drop i m) ≡ Err 0 = here ∙ rw (above_tests (key (get_or m i [])) k e) in
          placed ∙ ap (later i) on ∙ ap Err (add-zero i)

    pub placed_all : n ≤ i → i ≤ n → place_of key k m ≡ Err n
    unfolding place_of Placed
    placed_all past within =
        let gone : length m ≤ i = omega (arith, t.counted) in
        placed ∙ ap (λ (rest : List (List ℕ)). later i (place_of key k rest)) (drop_of_length-le m gone) ∙ ap Err (omega arith)
