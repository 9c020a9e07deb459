-- One row after the other is written over what stands there, and the rest is cleared.
use Prim.Native.Nat.{ℕ, zero, suc, ◌+◌, ◌-◌, ◌*◌, ◌≤◌, ◌<◌}
use mathlib.Core.Path.{◌≡◌, refl, sym, ap, ap₂, ◌∙◌}
use mathlib.Core.List.{List, [], ◌∷◌, ◌++◌, flatten, append-nil, append_assoc}
use native.Mathlib.Nat.{zero-mul, one-mul, suc-mul, add-mul}
use native.Mathlib.Numerals.{add-one}
use native.Mathlib.Omega.{arith}
use borrow.Rule.Slice.PartMut.{mid_of, put_mid}
use lib.ListN.{length, take, drop, length-append, length-drop, take-append-drop}
use lib.Seq.{drop-drop, length-take-le, take-add, take_at, drop_at}
use Rattle.bytes_records.specs.Moves.{zeros}
use Rattle.bytes_records.proofs.Parts.{lent}
use Rattle.bytes_records.specs.Table.{table_bytes}
use Rattle.bytes_records.specs.TableLaws.{flatten_append}
use Rattle.panel_rows.proofs.Copies.{rest_lent}
use Rattle.panel_writing.specs.Writing.{row_at, rows_to}

-- what row i becomes, of what stands there: as long as that
module _ (w : ℕ) (to : List ℕ) (write : ℕ → List ℕ → List ℕ) where
  abbrev pub row : ℕ → List ℕ
  row i = write i (row_at w i to)

  abbrev front : ℕ → List ℕ
  front i = flatten (rows_to row i)

  -- the rows before the i-th are written, and the others are as they were
  pub record RowsWritten (i : ℕ) (table : List ℕ) : Type 0 where
    pub long : length (front i) ≡ i * w
    pub is : table ≡ front i ++ drop (i * w) to

  pub no_rows_written : RowsWritten 0 to
  unfolding rows_to flatten
  no_rows_written = record { long = sym (zero-mul w); is = rw zero-mul }

  next_row : (i : ℕ) → front (i + 1) ≡ front i ++ row i
  unfolding rows_to flatten
  next_row i = rw add-one (flatten_append (rows_to row i) (row i ∷ []) ∙ ap (λ (l : List ℕ). front i ++ l) (append-nil (row i)))

  module _ (i : ℕ) {table : List ℕ} (h : RowsWritten i table) where
    pub same_size : i * w ≤ length to → length table ≡ length to
    same_size fits = ap length h.is ∙ length-append (front i) (drop (i * w) to) ∙ omega (arith, h.long, length-drop (i * w) to)

    -- what writes some rows at once writes them one by one
    abbrev Splits : ℕ → Type 0
    Splits n = (k : ℕ) → 1 ≤ k → k < n → (l : List ℕ) → length l ≡ k * w + w → write i l ≡ write i (take (k * w) l) ++ write (i + k) (drop (k * w) l)

    rows_by_one : (n : ℕ) → Splits n → (m k : ℕ) → k ≡ suc m → k ≤ n → i * w + k * w ≤ length to → front (i + k) ≡ front i ++ write i (take (k * w) (drop (i * w) to))
    rows_by_one n splits zero k e few room =
        let one : i + k ≡ i + 1 = omega arith in
        let wide : k * w ≡ w = ap (λ (j : ℕ). j * w) e ∙ one-mul w in
        ap front one ∙ next_row i ∙ ap (λ (j : ℕ). front i ++ write i (take j (drop (i * w) to))) (sym wide)
    rows_by_one n splits (suc m) k e few room =
        let j = suc m in
        let rest = drop (i * w) to in
        let last : i + k ≡ i + j + 1 = omega arith in
        let size : k * w ≡ j * w + w = ap (λ (n : ℕ). n * w) e ∙ suc-mul j w in
        let there : (i + j) * w ≡ i * w + j * w = add-mul i j w in
        let before = rows_by_one n splits m j refl (omega arith) (omega arith) in
        let l = take (j * w + w) rest in
        let long : length l ≡ j * w + w = length-take-le (j * w + w) rest (omega (arith, length-drop (i * w) to)) in
        let whole : l ≡ take (j * w) rest ++ take w (drop (j * w) rest) = take-add (j * w) w rest in
        let some : length (take (j * w) rest) ≡ j * w = length-take-le (j * w) rest (omega (arith, length-drop (i * w) to)) in
        let head : take (j * w) l ≡ take (j * w) rest = ap (take (j * w)) whole ∙ take_at (take (j * w) rest) (take w (drop (j * w) rest)) (j * w) some in
        let tail : drop (j * w) l ≡ row_at w (i + j) to = ap (drop (j * w)) whole ∙ drop_at (take (j * w) rest) (take w (drop (j * w) rest)) (j * w) some
        ∙ ap (take w) (drop-drop (j * w) (i * w) to ∙ ap (λ (n : ℕ). drop n to) (sym there)) in
        let split : write i l ≡ write i (take (j * w) rest) ++ row (i + j) = splits j (omega arith) (omega arith) l long ∙ ap₂ (λ (a b : List ℕ). write i a ++ write (i + j) b) head tail in
        ap front last ∙ next_row (i + j) ∙ ap (λ (l : List ℕ). l ++ row (i + j)) before ∙ append_assoc (front i) (write i (take (j * w) rest)) (row (i + j))
        ∙ ap (λ (l : List ℕ). front i ++ l) (sym split) ∙ ap (λ (n : ℕ). front i ++ write i (take n rest)) (sym size)

    -- n rows are written at once
    pub run_written : (n : ℕ) → 1 ≤ n → ((l : List ℕ) → length (write i l) ≡ length l) → Splits n → i * w + n * w ≤ length to
        → {part : List ℕ} → part ≡ write i (mid_of (i * w) (i * w + n * w - i * w) table) → RowsWritten (i + n) (put_mid (i * w) (i * w + n * w - i * w) table part)
    run_written n some keeps splits room {part} e =
        let old = take (n * w) (drop (i * w) to) in
        let rest = drop (n * w) (drop (i * w) to) in
        let wide : length old ≡ n * w = length-take-le (n * w) (drop (i * w) to) (omega (arith, length-drop (i * w) to)) in
        let next : (i + n) * w ≡ i * w + n * w = add-mul i n w in
        let size : length old ≡ i * w + n * w - i * w = omega arith in
        let more : front (i + n) ≡ front i ++ write i old = rows_by_one n splits (n - 1) n (omega arith) (omega arith) room in
        let split : table ≡ front i ++ (old ++ rest) = h.is ∙ ap (λ (l : List ℕ). front i ++ l) (sym (take-append-drop (n * w) (drop (i * w) to))) in
        record {
          long = ap length more ∙ length-append (front i) (write i old) ∙ omega (arith, keeps old, h.long);
          is = lent table (front i) old rest (i * w) (i * w + n * w - i * w) split h.long size (write i) part e
              ∙ sym (append_assoc (front i) (write i old) rest)
              ∙ ap₂ (λ (a b : List ℕ). a ++ b) (sym more) (drop-drop (n * w) (i * w) to ∙ ap (λ (n : ℕ). drop n to) (sym next));
        }

    pub rest_cleared : i * w ≤ length to → {rest : List ℕ} → rest ≡ zeros (length (mid_of (i * w) (length table - i * w) table))
        → put_mid (i * w) (length table - i * w) table rest ≡ table_bytes (length to) (rows_to row i)
    unfolding table_bytes
    rest_cleared fits e =
        let left : length (drop (i * w) to) ≡ length to - length (front i) = length-drop (i * w) to ∙ omega (arith, h.long) in
        rest_lent table (front i) (drop (i * w) to) (i * w) (λ l. zeros (length l)) h.is h.long e ∙ ap (λ (n : ℕ). front i ++ zeros n) left
