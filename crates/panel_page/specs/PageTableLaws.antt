-- Laws of the answer table: the width of a row, its fields, and the rows of a page one after the other.
use Prim.Native.Nat.{ℕ, zero, suc, ◌+◌, ◌-◌, ◌*◌, ◌^◌, ◌≤◌, ◌<◌}
use Rattle.std.specs.Prelude.{◌≡◌, eqb, length, take, drop, get_or}
use Rattle.std.proofs.Math.Path.{refl}
use Rattle.std.proofs.Common.{sym, ap, ◌∙◌, arith, length-append, length-drop, take_at, drop_at}
use mathlib.Core.List.{List, [], ◌∷◌, ◌++◌, map, flatten, append-nil}
use Rattle.std.proofs.Math.Option.{Option, none, some}
use Rattle.std.proofs.lemmas.List.{length-map, take-append-le, drop-append-le}
use Rattle.spec_lists.specs.Lists.{All}
use Rattle.spec_lists.specs.Bytes.{little_endian, number_of}
use Rattle.spec_lists.proofs.ListLaws.{drop_behind, test_cases}
use Rattle.spec_lists.proofs.BytesLaws.{length_little_endian, number_of_little_endian}
use Rattle.spec_patch.specs.Sizes.{projection_entries}
use Rattle.spec_patch.specs.Encode.{u64}
use Rattle.spec_projection.specs.Projection.{Entry, Projection}
use Rattle.spec_projection.specs.Lookups.{entries_in, entries_of}
use Rattle.spec_projection.specs.Valid.{FitsEntry, Valid}
use Rattle.spec_page.specs.Page.{PageEntry, find_from, page_entry, page_rows}
use Rattle.spec_page.proofs.PageLaws.{page_length}
use Rattle.bytes_records.specs.Moves.{zeros}
use Rattle.bytes_records.specs.MovesLaws.{length_zeros}
use Rattle.bytes_records.specs.Table.{Wide, HoldsRows}
use Rattle.bytes_records.specs.TableLaws.{holds, rows_used, rows_padded, row_at_lem}
use Rattle.panel_rows.specs.Rows as rows
use Rattle.panel_rows.specs.Rows.{mark_width, entry_mark_at, field_at, entry_row, filled_row}
use Rattle.panel_rows.specs.RowsLaws.{length_padded}
use Rattle.panel_page.specs.PageTable.{found_width, position_width, page_mark_at, page_value_at, page_width, answer_row, page_bytes, FitsAnswer}
use Rattle.panel_page.specs.Answering.{page_answer_of, answers_in}

-- ---- rows

pub answer_wide : (a : Option PageEntry) → FitsAnswer a → Wide page_width (answer_row a)
unfolding answer_row
answer_wide none h = length_zeros page_width
answer_wide (some x) h = simp (length-append, length_little_endian) (omega (arith, length_padded x.value h.1.1))

-- the fields before the mark, and what an entry's row has from its mark on
pub answer_filled : (n : ℕ) (e : Entry) → FitsEntry e → filled_row page_width (1 ∷ u64 n) (drop entry_mark_at (entry_row e)) ≡ page_answer_of n e
unfolding filled_row entry_row answer_row
answer_filled n e fits =
    let value = u64 e.mark ++ rows.padded e.value in
    let behind : drop entry_mark_at (entry_row e) ≡ value = drop_behind entry_mark_at (u64 e.collection) (u64 e.key) value (simp (length-append, length_little_endian)) in
    let none_left : page_width - (length (1 ∷ u64 n) + length value) ≡ 0 = simp (length-append, length_little_endian) (omega (arith, length_padded e.value fits.value)) in
    ap (filled_row page_width (1 ∷ u64 n)) behind
    ∙ ap (λ (k : ℕ). (1 ∷ u64 n) ++ (value ++ zeros k)) none_left
    ∙ ap (λ (l : List ℕ). (1 ∷ u64 n) ++ l) (append-nil value)

-- ---- the fields of a row

number_behind : (front rest : List ℕ) (at n x : ℕ) → length front ≡ at → x < 256 ^ n → field_at at n (front ++ (little_endian n x ++ rest)) ≡ x
number_behind front rest at n x long small =
    rw (drop_at front (little_endian n x ++ rest) at long, take_at (little_endian n x) rest n (length_little_endian n x), number_of_little_endian n x small)

pub none_row : field_at 0 found_width (answer_row none) ≡ 0
unfolding answer_row number_of
none_row = refl

module _ (x : PageEntry) (h : FitsAnswer (some x)) where
  pub some_found : field_at 0 found_width (answer_row (some x)) ≡ 1
  unfolding answer_row number_of
  some_found = refl

  pub answer_position : field_at found_width position_width (answer_row (some x)) ≡ x.position
  unfolding answer_row
  answer_position = number_behind (1 ∷ []) (u64 x.mark ++ rows.padded x.value) found_width position_width x.position refl h.0

  pub answer_mark : field_at page_mark_at mark_width (answer_row (some x)) ≡ x.mark
  unfolding answer_row
  answer_mark = number_behind (1 ∷ u64 x.position) (rows.padded x.value) page_mark_at mark_width x.mark (simp length_little_endian) h.1.0

  pub answer_value : drop page_value_at (answer_row (some x)) ≡ rows.padded x.value
  unfolding answer_row
  answer_value = drop_behind page_value_at (1 ∷ u64 x.position) (u64 x.mark) (rows.padded x.value) (simp (length-append, length_little_endian))

-- ---- the rows of a page

-- before the first entry no key is found
pub nothing_found : (c k : ℕ) → answers_in c [] k ≡ zeros page_width
unfolding answers_in answer_row find_from entries_in
nothing_found c k = refl

-- rows that fill a table are all its bytes
pub holds_all : {w n : ℕ} {l : List ℕ} {m : List (List ℕ)} → HoldsRows w n l m → length l ≡ n * w → l ≡ flatten m
holds_all {w} {n} {l} {m} t size =
    let none_left : length l - n * w ≡ 0 = omega arith in
    rows_padded t ∙ ap (λ (k : ℕ). flatten m ++ zeros k) none_left ∙ append-nil (flatten m)

-- each key's row once all entries went by is its answer's
pub page_bytes_lem : (p : Projection) (c : ℕ) (keys : List ℕ) → flatten (map (answers_in c p.entries) keys) ≡ page_bytes p c keys
unfolding page_bytes page_rows page_entry answers_in entries_of
page_bytes_lem p c keys = ap flatten (go keys)
  where
    go : (l : List ℕ) → map (answers_in c p.entries) l ≡ map answer_row (map (page_entry p c) l)
    go [] = refl
    go (k ∷ l) = ap (λ (r : List (List ℕ)). answer_row (page_entry p c k) ∷ r) (go l)

-- ---- the rows of a projection's page

-- what is found of entries that fit, and are few, fits a row
fits_found : (c k n : ℕ) (es : List Entry) → All FitsEntry es → n + length es ≤ projection_entries → FitsAnswer (find_from n k (entries_in c es))
unfolding find_from entries_in
fits_found c k n [] fit few = tt
fits_found c k n (e ∷ es) fit few =
    test_cases (eqb e.collection c)
    (λ t. test_cases (eqb e.key k) (λ u. rw (t, u) (omega arith, (fit.0.mark, fit.0.value))) (λ u. rw (t, u) (fits_found c k (suc n) es fit.1 (omega arith))))
    (λ t. rw t (fits_found c k n es fit.1 (omega arith)))

pub page_fits : (p : Projection) → Valid p → (c k : ℕ) → FitsAnswer (page_entry p c k)
unfolding page_entry entries_of
page_fits p v c k = fits_found c k 0 p.entries v.fit_entries (omega (arith, v.few_entries))

module _ (p : Projection) (v : Valid p) (c : ℕ) where
  rows_wide : (keys : List ℕ) → All (Wide page_width) (map answer_row (page_rows p c keys))
  unfolding page_rows
  rows_wide [] = tt
  rows_wide (k ∷ keys) = (answer_wide (page_entry p c k) (page_fits p v c k), rows_wide keys)

  -- a table of zeros into which they were written holds them
  pub rows_hold : (keys : List ℕ) (k : ℕ) → HoldsRows page_width (length keys) (page_bytes p c keys ++ zeros k) (map answer_row (page_rows p c keys))
  unfolding page_bytes
  rows_hold keys k =
      let rows = page_rows p c keys in
      holds page_width (length keys) (flatten (map answer_row rows) ++ zeros k) (map answer_row rows) k (rows_wide keys) (length-map rows answer_row ∙ page_length p c keys) refl

  pub length_page : (keys : List ℕ) → length (page_bytes p c keys) ≡ length keys * page_width
  unfolding page_bytes
  length_page keys = rows_used (rows_hold keys 0)

  row_is : (keys : List ℕ) (i : ℕ) → i < length keys → get_or (map answer_row (page_rows p c keys)) i [] ≡ answer_row (page_entry p c (get_or keys i 0))
  unfolding page_rows
  row_is [] i h = absurd (omega arith)
  row_is (k ∷ keys) zero h = refl
  row_is (k ∷ keys) (suc i) h = row_is keys i (omega arith)

  -- place i of the table holds the answer of key i, whatever stands behind the rows
  pub page_place : (keys rest : List ℕ) (i : ℕ) → i < length keys → take page_width (drop (i * page_width) (page_bytes p c keys ++ rest)) ≡ answer_row (page_entry p c (get_or keys i 0))
  page_place keys rest i h =
      let bytes = page_bytes p c keys in
      let held = rows_hold keys 0 in
      let inside : i * page_width + page_width ≤ length bytes = omega (arith, length_page keys) in
      let left : page_width ≤ length (drop (i * page_width) bytes) = simp length-drop (omega arith) in
      ap (take page_width) (drop-append-le (i * page_width) bytes rest (omega arith)) ∙ take-append-le page_width (drop (i * page_width) bytes) rest left
      ∙ ap (λ (l : List ℕ). take page_width (drop (i * page_width) l)) (sym (append-nil bytes)) ∙ row_at_lem held i h ∙ row_is keys i h
