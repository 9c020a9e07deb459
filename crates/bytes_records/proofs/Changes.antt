-- What a table holds once one row is inserted, removed or replaced in its lent part; and what a refusal leaves.
use Prim.Native.Nat.{ℕ, ◌+◌, ◌-◌, ◌*◌, ◌≤◌, ◌<◌}
use mathlib.Core.Path.{◌≡◌, refl, sym, ◌∙◌}
use mathlib.Core.Bool.{Bool, true, false, false≢true}
use mathlib.Core.List.{List, [], ◌++◌, flatten, append_assoc, append-nil}
use native.Mathlib.Omega.{arith}
use lib.ListN.{length, take, drop, get_or, length-append, length-take, length-drop, length-replicate, drop_of_length-le}
use lib.Seq.{take_at, drop_at}
use borrow.Rule.Slice.PartMut.{mid_of, put_mid}
use borrow.Author.Tests.{le-leb, lt-leb, lt-ltb, le-ltb, eq-eqb, ne_eqb}
use Rattle.spec_lists.proofs.ListLaws.{all_append, all_take, all_drop}
use Rattle.bytes_records.specs.Positions.{insert_at, remove_at, replace_at}
use Rattle.bytes_records.specs.Table.{Wide, HoldsRows, can_insert, can_remove, can_replace, Changed}
use Rattle.bytes_records.specs.TableLaws.{flatten_append, flatten_middle, wide_middle, zeros_split, holds, before_length, after_length, rows_split, row_width, row_bytes, row_split}
use Rattle.bytes_records.specs.Moves.{zeros, overwrite_rows, push_front, pop_front}
use Rattle.bytes_records.proofs.Parts.{part_is, lent}
use Rattle.bytes_records.proofs.Offsets.{start_le}

-- ---- the rows of the table afterwards

module _ {w n : ℕ} {l : List ℕ} (m : List (List ℕ)) (t : HoldsRows w n l m) where
  module _ (i : ℕ) (below : i < n) where
    row_size : length (get_or m i []) ≡ i * w + w - i * w
    row_size = omega (arith, row_width t i below)

    -- the lent part that is the row at i
    pub row_is : mid_of (i * w) (i * w + w - i * w) l ≡ get_or m i []
    row_is =
        let within : i ≤ n = omega arith in
        part_is l (flatten (take i m)) (get_or m i []) _ _ _ (row_split t i below) (before_length t i within) row_size

  module _ (i : ℕ) (r : List ℕ) (within : i ≤ n) (width : length r ≡ w) (room : n * w + w ≤ length l) where
    insert_split : l ≡ flatten (take i m) ++ ((flatten (drop i m) ++ zeros w) ++ zeros (length l - n * w - w))
    insert_split =
        let h : w ≤ length l - n * w = omega arith in
        rows_split t i within ∙ rw (zeros_split w (length l - n * w), append_assoc)

    insert_size : length (flatten (drop i m) ++ zeros w) ≡ n * w + w - i * w
    insert_size = simp (length-append, length-replicate) (omega (arith, after_length t i within, start_le w within))

    pub insert_holds : (s : List ℕ) → s ≡ push_front r (mid_of (i * w) (n * w + w - i * w) l)
        → HoldsRows w (n + 1) (put_mid (i * w) (n * w + w - i * w) l s) (insert_at i r m)
    insert_holds s e =
        let kept : length (flatten (drop i m)) ≡ length (flatten (drop i m) ++ zeros w) - length r = simp (length-append, length-replicate) (omega arith) in
        let long : length (insert_at i r m) ≡ n + 1 = simp (length-append, length-take, length-drop) (omega (arith, t.counted)) in
        holds w (n + 1) _ (insert_at i r m) (length l - n * w - w)
        (wide_middle w (take i m) r (drop i m) (all_take (Wide w) i m t.wide) width (all_drop (Wide w) i m t.wide))
        long
        (lent l (flatten (take i m)) (flatten (drop i m) ++ zeros w) (zeros (length l - n * w - w)) _ _
        insert_split (before_length t i within) insert_size (push_front r) s e
        ∙ rw (flatten_middle, take_at) (simp append_assoc))

  module _ (i : ℕ) (below : i < n) where
    pub remove_holds : (s : List ℕ) → s ≡ pop_front w (mid_of (i * w) (n * w - i * w) l)
        → HoldsRows w (n - 1) (put_mid (i * w) (n * w - i * w) l s) (remove_at i m)
    remove_holds s e =
        let within : i ≤ n = omega arith in
        let long : length (remove_at i m) ≡ n - 1 = simp (length-append, length-take, length-drop) (omega (arith, t.counted)) in
        let h : w ≤ w + (length l - n * w) = omega arith in
        let k : w + (length l - n * w) - w ≡ length l - n * w = omega arith in
        let width = row_width t i below in
        holds w (n - 1) _ (remove_at i m) (w + (length l - n * w))
        (all_append (Wide w) (take i m) (drop (i + 1) m) (all_take (Wide w) i m t.wide) (all_drop (Wide w) (i + 1) m t.wide))
        long
        (lent l (flatten (take i m)) (flatten (drop i m)) (zeros (length l - n * w)) _ _
        (rows_split t i within) (before_length t i within) (after_length t i within) (pop_front w) s e
        ∙ rw (row_bytes t i below, drop_at, flatten_append, zeros_split w (w + (length l - n * w)), k, append_assoc, append_assoc))

    pub replace_holds : (r : List ℕ) → length r ≡ w → (s : List ℕ) → s ≡ overwrite_rows r (mid_of (i * w) (i * w + w - i * w) l)
        → HoldsRows w n (put_mid (i * w) (i * w + w - i * w) l s) (replace_at i r m)
    replace_holds r width s e =
        let within : i ≤ n = omega arith in
        let long : length (replace_at i r m) ≡ n = simp (length-append, length-take, length-drop) (omega (arith, t.counted)) in
        let covered : length (get_or m i []) ≤ length r = omega (arith, row_width t i below) in
        let gone : drop (length r) (get_or m i []) ≡ [] = drop_of_length-le (get_or m i []) covered in
        holds w n _ (replace_at i r m) (length l - n * w)
        (wide_middle w (take i m) r (drop (i + 1) m) (all_take (Wide w) i m t.wide) width (all_drop (Wide w) (i + 1) m t.wide))
        long
        (lent l (flatten (take i m)) (get_or m i []) (flatten (drop (i + 1) m) ++ zeros (length l - n * w)) _ _
        (row_split t i below) (before_length t i within) (row_size i below) (overwrite_rows r) s e
        ∙ rw (gone, append-nil, flatten_middle, append_assoc, append_assoc))

-- ---- the answer

module _ {w n n' : ℕ} {f : List (List ℕ) → List (List ℕ)} {can : Bool} {l : List ℕ} where
  pub change_refused : can ≡ false → Changed w n n' f can l l false
  change_refused e = record { told = sym e; made = λ h. absurd (false≢true h); kept = λ h. refl }

  pub change_made : {l' : List ℕ} → can ≡ true → ((m : List (List ℕ)) → HoldsRows w n l m → HoldsRows w n' l' (f m)) → Changed w n n' f can l l' true
  change_made e h = record { told = sym e; made = λ k. h; kept = λ k. absurd (false≢true (sym k)) }

module _ (size w n at : ℕ) where
  pub insert_past : (row : List ℕ) → n < at → can_insert size w n at row ≡ false
  unfolding can_insert
  insert_past row h = rw (lt-leb at n h)

  pub insert_other : (row : List ℕ) → at ≤ n → (length row ≡ w → ⊥) → can_insert size w n at row ≡ false
  unfolding can_insert
  insert_other row h e = rw (le-leb at n h, ne_eqb (length row) w e)

  pub insert_full : (row : List ℕ) → at ≤ n → length row ≡ w → size < n * w + w → can_insert size w n at row ≡ false
  unfolding can_insert
  insert_full row h e k = rw (le-leb at n h, eq-eqb (length row) w e, lt-leb (n * w + w) size k)

  pub insert_can : (row : List ℕ) → at ≤ n → length row ≡ w → n * w + w ≤ size → can_insert size w n at row ≡ true
  unfolding can_insert
  insert_can row h e k = rw (le-leb at n h, eq-eqb (length row) w e, le-leb (n * w + w) size k)

  pub remove_past : n ≤ at → can_remove size w n at ≡ false
  unfolding can_remove
  remove_past h = rw (le-ltb at n h)

  pub remove_outside : at < n → size < n * w → can_remove size w n at ≡ false
  unfolding can_remove
  remove_outside h k = rw (lt-ltb at n h, lt-leb (n * w) size k)

  pub remove_can : at < n → n * w ≤ size → can_remove size w n at ≡ true
  unfolding can_remove
  remove_can h k = rw (lt-ltb at n h, le-leb (n * w) size k)

  pub replace_past : (row : List ℕ) → n ≤ at → can_replace size w n at row ≡ false
  unfolding can_replace
  replace_past row h = rw (le-ltb at n h)

  pub replace_other : (row : List ℕ) → at < n → (length row ≡ w → ⊥) → can_replace size w n at row ≡ false
  unfolding can_replace
  replace_other row h e = rw (lt-ltb at n h, ne_eqb (length row) w e)

  pub replace_outside : (row : List ℕ) → at < n → length row ≡ w → size < n * w → can_replace size w n at row ≡ false
  unfolding can_replace
  replace_outside row h e k = rw (lt-ltb at n h, eq-eqb (length row) w e, lt-leb (n * w) size k)

  pub replace_can : (row : List ℕ) → at < n → length row ≡ w → n * w ≤ size → can_replace size w n at row ≡ true
  unfolding can_replace
  replace_can row h e k = rw (lt-ltb at n h, eq-eqb (length row) w e, le-leb (n * w) size k)
