-- What a change of a table's rows gives, for a table that holds rows and has so many places.
use Rattle.std.specs.Prelude.{ℕ, suc, ◌+◌, ◌*◌, ◌≤◌, ◌<◌, ◌≡◌, Bool, true, false, List, leb, eqb, length}
use Rattle.std.proofs.Common.{sym, ◌∙◌, suc-mul, le_of_mul-le-mul_right, lt_of_mul-lt-mul_right, le-mul_of_pos_right, arith, leb-true, leb-false}
use Rattle.std.proofs.lemmas.Bool.{false≢true}
use Rattle.spec_lists.proofs.ListLaws.{and_right, test_cases}
use Rattle.bytes_records.specs.Positions.{insert_at, remove_at, replace_at}
use Rattle.bytes_records.specs.Table.{Wide, HoldsRows, Changed, can_insert, can_remove, can_replace}
use Rattle.bytes_records.specs.TableLaws.{rows_fit, can_insert_lem, can_remove_lem, can_replace_lem}

-- a row that is inserted makes no more rows than there are bytes
pub insert_room : (size w n at : ℕ) (row : List ℕ) → 0 < w → can_insert size w n at row ≡ true → n + 1 ≤ size
unfolding can_insert
insert_room size w n at row some e =
    let room : n * w + w ≤ size = leb-true (n * w + w) size (and_right (eqb (length row) w) _ (and_right (leb at n) _ e)) in
    omega (arith, le-mul_of_pos_right (suc n) some, suc-mul n w)

module _ {w n : ℕ} {l : List ℕ} {rows : List (List ℕ)} (t : HoldsRows w n l rows) where
  -- a table holds no more rows than it has places
  pub rows_few : (capacity : ℕ) → 0 < w → length l ≡ capacity * w → n ≤ capacity
  rows_few capacity some size = le_of_mul-le-mul_right (rw size at (rows_fit t)) some

  module _ (at : ℕ) {exit : List ℕ} {answer : Bool} where
    pub rows_replaced : (row : List ℕ) → at < n → Wide w row → Changed w n n (replace_at at row) (can_replace (length l) w n at row) l exit answer → HoldsRows w n exit (replace_at at row rows)
    rows_replaced row h e c = c.made (c.told ∙ can_replace_lem t at row h e) rows t

    pub rows_removed : {m : ℕ} → at < n → Changed w n m (remove_at at) (can_remove (length l) w n at) l exit answer → HoldsRows w m exit (remove_at at rows)
    rows_removed h c = c.made (c.told ∙ can_remove_lem t at h) rows t

    pub rows_inserted : {m : ℕ} → (row : List ℕ) → answer ≡ true → Changed w n m (insert_at at row) (can_insert (length l) w n at row) l exit answer → HoldsRows w m exit (insert_at at row rows)
    rows_inserted row e c = c.made e rows t

    -- a table that refuses a row which is in order is full
    pub rows_full : {m : ℕ} → (capacity : ℕ) → length l ≡ capacity * w → (row : List ℕ) → at ≤ n → Wide w row → answer ≡ false
        → Changed w n m (insert_at at row) (can_insert (length l) w n at row) l exit answer → capacity < n + 1
    rows_full capacity size row h e f c = test_cases (leb (n * w + w) (length l))
        (λ q. absurd (false≢true (sym f ∙ c.told ∙ can_insert_lem t at row h e (leb-true (n * w + w) (length l) q))))
        (λ q. let past : length l < n * w + w = leb-false (n * w + w) (length l) q in
        let over : capacity * w < suc n * w = omega (arith, suc-mul n w) in
        omega (arith, lt_of_mul-lt-mul_right w over))
