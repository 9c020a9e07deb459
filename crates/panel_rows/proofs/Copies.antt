-- What a row is when its key and its value are copied into it, one behind the other, and the rest is cleared.
use Prim.Native.Nat.{ℕ, ◌+◌, ◌-◌, ◌≤◌, ◌<◌}
use mathlib.Core.Path.{◌≡◌, refl, sym, ap, ◌∙◌}
use mathlib.Core.Bool.{true, false}
use mathlib.Core.List.{List, [], ◌++◌, append-nil, append_assoc}
use native.Mathlib.Omega.{arith}
use borrow.Author.Tests.{le-leb, lt-leb}
use borrow.Rule.Slice.PartMut.{mid_of, put_mid}
use lib.Dec.{leb}
use lib.ListN.{length, drop, length-append, length-drop}
use Rattle.bytes_records.specs.Moves.{zeros, overwrite_rows}
use Rattle.bytes_records.proofs.Parts.{lent}
use Rattle.panel_rows.specs.Rows.{filled_row, written_row}
use Rattle.panel_rows.specs.RowsLaws.{written_filled, written_left}

-- what stands from a position on is lent, and comes back as what f makes of it
pub rest_lent : (xs a s : List ℕ) (from : ℕ) (f : List ℕ → List ℕ) {ys : List ℕ} → xs ≡ a ++ s → length a ≡ from
    → ys ≡ f (mid_of from (length xs - from) xs) → put_mid from (length xs - from) xs ys ≡ a ++ f s
rest_lent xs a s from f {ys} split front e =
    let size : length s ≡ length xs - from = omega (arith, simp length-append at (ap length split)) in
    lent xs a s [] from (length xs - from) (split ∙ ap (λ (l : List ℕ). a ++ l) (sym (append-nil s))) front size f ys e
    ∙ ap (λ (l : List ℕ). a ++ l) (append-nil (f s))

module _ (key value row : List ℕ) where
  -- a row that has no place for both
  pub row_left : length row < length key + length value → (false ≡ leb (length key + length value) (length row)) × (row ≡ written_row key value row)
  row_left over = (sym (lt-leb (length key + length value) (length row) over), sym (written_left key value row over))

  -- a row that has one
  module _ {one part : List ℕ} (room : length key + length value ≤ length row) (first : one ≡ overwrite_rows key row)
      (second : part ≡ overwrite_rows value (mid_of (length key) (length one - length key) one)) where
    abbrev both : List ℕ
    both = put_mid (length key) (length one - length key) one part

    both_is : both ≡ key ++ value ++ drop (length value) (drop (length key) row)
    both_is =
        rest_lent one key (drop (length key) row) (length key) (overwrite_rows value) first refl second
        ∙ sym (append_assoc key value (drop (length value) (drop (length key) row)))

    abbrev end : ℕ
    end = length key + length value

    pub row_made : {rest : List ℕ} → rest ≡ zeros (length (mid_of end (length both - end) both)) → (true ≡ leb end (length row)) × (put_mid end (length both - end) both rest ≡ written_row key value row)
    unfolding filled_row
    row_made third =
        let left : length (drop (length value) (drop (length key) row)) ≡ length row - end = simp length-drop (omega arith) in (
          sym (le-leb end (length row) room),
          rest_lent both (key ++ value) (drop (length value) (drop (length key) row)) end (λ l. zeros (length l)) both_is (length-append key value) third
              ∙ append_assoc key value _ ∙ ap (λ (n : ℕ). key ++ (value ++ zeros n)) left ∙ sym (written_filled key value row room),
        )
