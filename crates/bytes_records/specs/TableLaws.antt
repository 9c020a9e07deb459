-- Laws of tables: where a row's bytes stand, that a table holds one list of rows only, and when it can be changed.
use Rattle.std.specs.Prelude.{ℕ, ◌+◌, ◌-◌, ◌*◌, ◌/◌, ◌≤◌, ◌<◌, ◌≡◌, refl, true, length, take, drop, get_or}
use Rattle.std.proofs.Common.{sym, ap, ◌∙◌, zero-mul, suc-mul, div-lt_iff_lt-mul, add-one, arith, length-append, length-take, take-append-drop, ext_get_or, take_at, drop_at, drop-cons}
use mathlib.Core.List.{List, [], ◌∷◌, ◌++◌, flatten, append_assoc, map}
use Rattle.std.proofs.lemmas.List.{length-map, length-replicate, replicate-append-replicate}
use Rattle.std.proofs.Math.ListN.{get_or-eq_default}
use borrow.Author.Tests.{le-leb, lt-ltb, eq-eqb}
use Rattle.spec_lists.specs.Lists.{All}
use Rattle.spec_lists.proofs.ListLaws.{all_append, all_take, all_drop}
use Rattle.bytes_records.specs.Moves.{zeros}
use Rattle.bytes_records.specs.Table.{Wide, table_bytes, HoldsRows, can_insert, can_remove, can_replace, can_move}

-- ---- rows one after the other

pub flatten_append : (a b : List (List ℕ)) → flatten (a ++ b) ≡ flatten a ++ flatten b
unfolding flatten
flatten_append [] b = refl
flatten_append (r ∷ a) b = rw (flatten_append a b, append_assoc)

pub flatten_middle : (a : List (List ℕ)) (r : List ℕ) (b : List (List ℕ)) → flatten (a ++ r ∷ b) ≡ flatten a ++ (r ++ flatten b)
unfolding flatten
flatten_middle a r b = flatten_append a (r ∷ b)

pub length_flatten : (w : ℕ) (m : List (List ℕ)) → All (Wide w) m → length (flatten m) ≡ length m * w
unfolding flatten
length_flatten w [] h = sym (zero-mul w)
length_flatten w (r ∷ m) h = omega (arith, length-append r (flatten m), h.0, length_flatten w m h.1, suc-mul (length m) w)

pub wide_middle : (w : ℕ) (a : List (List ℕ)) (r : List ℕ) (b : List (List ℕ)) → All (Wide w) a → length r ≡ w → All (Wide w) b → All (Wide w) (a ++ r ∷ b)
wide_middle w a r b h e k = all_append (Wide w) a (r ∷ b) h (e, k)

-- ---- zeros

pub zeros_split : (a b : ℕ) → a ≤ b → zeros b ≡ zeros a ++ zeros (b - a)
zeros_split a b h =
    let e : b ≡ a + (b - a) = omega arith in
    ap zeros e ∙ sym (replicate-append-replicate a (b - a) 0)

-- ---- what holds rows

-- rows of one width, and zeros behind them, are a table
pub holds : (w n : ℕ) (l : List ℕ) (m : List (List ℕ)) (k : ℕ) → All (Wide w) m → length m ≡ n → l ≡ flatten m ++ zeros k → HoldsRows w n l m
unfolding table_bytes
holds w n l m k wide counted e =
    let rest : length l - length (flatten m) ≡ k = omega (arith, simp (length-append, length-replicate) at (ap length e)) in
    record { wide = wide; counted = counted; bytes = rw rest e }

-- zeros hold no rows
pub holds_none : (w k : ℕ) → HoldsRows w 0 (zeros k) []
unfolding flatten
holds_none w k = holds w 0 (zeros k) [] k tt refl refl

module _ {w n : ℕ} {l : List ℕ} {m : List (List ℕ)} (t : HoldsRows w n l m) where
  pub rows_used : length (flatten m) ≡ n * w
  rows_used = length_flatten w m t.wide ∙ ap (λ (k : ℕ). k * w) t.counted

  -- the rows, and what follows them
  pub rows_padded : l ≡ flatten m ++ zeros (length l - n * w)
  unfolding table_bytes
  rows_padded = rw (← rows_used) t.bytes

  -- the rows fit
  pub rows_fit : n * w ≤ length l
  rows_fit = omega (arith, rows_used, simp length-append at (ap length rows_padded))

  -- a table has room for what it holds
  pub not_too_many : 0 < w → length l / w < n → ⊥
  not_too_many some h =
      let past : length l < n * w = (div-lt_iff_lt-mul some).0 h in
      omega (arith, rows_fit)

  -- the table in two, at a position
  module _ (i : ℕ) (within : i ≤ n) where
    parted : flatten m ≡ flatten (take i m) ++ flatten (drop i m)
    parted = rw (← flatten_append, take-append-drop)

    pub before_length : length (flatten (take i m)) ≡ i * w
    before_length =
        let e : length (take i m) ≡ i = simp length-take (omega (arith, t.counted)) in
        length_flatten w (take i m) (all_take (Wide w) i m t.wide) ∙ ap (λ (k : ℕ). k * w) e

    pub after_length : length (flatten (drop i m)) ≡ n * w - i * w
    after_length = omega (arith, rows_used, before_length, simp length-append at (ap length parted))

    pub rows_split : l ≡ flatten (take i m) ++ (flatten (drop i m) ++ zeros (length l - n * w))
    rows_split = rows_padded ∙ rw (parted, append_assoc)

  -- the row at a position
  module _ (i : ℕ) (below : i < n) where
    pub row_cons : drop i m ≡ get_or m i [] ∷ drop (i + 1) m
    row_cons =
        let h : i < length m = omega (arith, t.counted) in
        rw (add-one, drop-cons m i [])

    pub row_width : length (get_or m i []) ≡ w
    row_width = (rw row_cons at (all_drop (Wide w) i m t.wide)).0

    pub row_bytes : flatten (drop i m) ≡ get_or m i [] ++ flatten (drop (i + 1) m)
    unfolding flatten
    row_bytes = rw row_cons

    pub row_split : l ≡ flatten (take i m) ++ (get_or m i [] ++ (flatten (drop (i + 1) m) ++ zeros (length l - n * w)))
    row_split =
        let within : i ≤ n = omega arith in
        rows_split i within ∙ rw (row_bytes, append_assoc)

    -- where the row's bytes stand
    pub row_at_lem : take w (drop (i * w) l) ≡ get_or m i []
    row_at_lem =
        let within : i ≤ n = omega arith in
        rw (row_split, drop_at _ _ _ (before_length i within), take_at _ _ _ row_width)

  -- there is no row past the last
  pub row_past : (i : ℕ) → n ≤ i → get_or m i [] ≡ []
  row_past i past =
      let h : length m ≤ i = omega (arith, t.counted) in
      get_or-eq_default m [] h

-- a table of the rows of a list has a row for each element
pub holds_length : {A : Type 0} (row : A → List ℕ) {w n : ℕ} {l : List ℕ} (xs : List A) → HoldsRows w n l (map row xs) → length xs ≡ n
holds_length row xs t = sym (length-map xs row) ∙ t.counted

-- a table holds one list of rows only
pub holds_unique : (w n : ℕ) (l : List ℕ) (m m' : List (List ℕ)) → HoldsRows w n l m → HoldsRows w n l m' → m ≡ m'
holds_unique w n l m m' s t =
    ext_get_or [] m m' (s.counted ∙ sym t.counted) (λ i h.
    let below : i < n = omega (arith, s.counted) in
    sym (row_at_lem s i below) ∙ row_at_lem t i below)

-- the rows determine every byte
pub holds_bytes : (w n : ℕ) (l l' : List ℕ) (m : List (List ℕ)) → HoldsRows w n l m → HoldsRows w n l' m → length l ≡ length l' → l ≡ l'
holds_bytes w n l l' m s t e = s.bytes ∙ ap (λ (k : ℕ). table_bytes k m) e ∙ sym t.bytes

-- ---- when a table can be changed

module _ {w n : ℕ} {l : List ℕ} {m : List (List ℕ)} (t : HoldsRows w n l m) (at : ℕ) where
  pub can_remove_lem : at < n → can_remove (length l) w n at ≡ true
  unfolding can_remove
  can_remove_lem h = rw (lt-ltb at n h, le-leb (n * w) (length l) (rows_fit t))

  pub can_replace_lem : (row : List ℕ) → at < n → length row ≡ w → can_replace (length l) w n at row ≡ true
  unfolding can_replace
  can_replace_lem row h e = rw (lt-ltb at n h, eq-eqb (length row) w e, le-leb (n * w) (length l) (rows_fit t))

  pub can_move_lem : (to : ℕ) (row : List ℕ) → at < n → to < n → length row ≡ w → can_move (length l) w n at to row ≡ true
  unfolding can_move
  can_move_lem to row h k e = rw (lt-ltb at n h, lt-ltb to n k, eq-eqb (length row) w e, le-leb (n * w) (length l) (rows_fit t))

  pub can_insert_lem : (row : List ℕ) → at ≤ n → length row ≡ w → n * w + w ≤ length l → can_insert (length l) w n at row ≡ true
  unfolding can_insert
  can_insert_lem row h e room = rw (le-leb at n h, eq-eqb (length row) w e, le-leb (n * w + w) (length l) room)
