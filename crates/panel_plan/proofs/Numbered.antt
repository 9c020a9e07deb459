-- Rows that are numbered, one behind another.
use Prim.Native.Nat.{ℕ, suc, ◌+◌, ◌*◌, ◌≤◌, ◌<◌}
use mathlib.Core.Path.{◌≡◌, refl, sym, ap, ap₂, ◌∙◌, subst}
use mathlib.Core.Bool.{Bool}
use mathlib.Core.List.{List, [], ◌∷◌, ◌++◌, append_assoc, append-nil}
use native.Mathlib.Nat.{suc-mul, mul-le-mul_right}
use native.Mathlib.Numerals.{add-one}
use native.Mathlib.Omega.{arith}
use lib.ListN.{length, take, drop, get_or, length-append, length-drop, drop_of_length-le}
use lib.Seq.{take_at, length-take-le, take-length}
use Rattle.spec_lists.proofs.BytesLaws.{length_little_endian}
use Rattle.spec_patch.specs.Encode.{u64}
use Rattle.bytes_records.specs.Moves as moves
use Rattle.bytes_wire.specs.Write.{overwrite}
use Rattle.bytes_wire.proofs.WriteLaws.{has_room_lem, overwrite_in_place}
use Rattle.bytes_records.specs.Positions.{insert_at}
use Rattle.bytes_records.specs.Table.{HoldsRows, Changed, can_insert}
use Rattle.bytes_records.specs.TableLaws.{row_cons, row_width, can_insert_lem}
use Rattle.panel_plan.specs.PlanRows.{source_width}
use Rattle.panel_plan.specs.NumberedRows.{numbered_row, numbered_rows}

-- the front of a row, and the number over what stood behind it
pub number_written : (old row : List ℕ) (front i : ℕ) {copied written : List ℕ} → front ≤ length old → length row ≡ front + source_width
    → copied ≡ moves.overwrite_rows (take front old) row → written ≡ overwrite copied front (u64 i) → written ≡ numbered_row front i old
unfolding numbered_row
number_written old row front i {copied} wide size e f =
    let part = take front old in
    let long : length part ≡ front = length-take-le front old wide in
    let whole : length copied ≡ front + source_width = ap length e ∙ length-append part (drop (length part) row) ∙ omega (arith, length-drop (length part) row) in
    let none : length copied ≤ front + source_width = omega arith in
    f ∙ overwrite_in_place copied front (u64 i) 8 (length_little_endian 8 i) (has_room_lem copied front 8 (omega arith))
    ∙ ap₂ (λ (x y : List ℕ). x ++ u64 i ++ y) (ap (take front) e ∙ take_at part (drop (length part) row) front long) (drop_of_length-le copied none)
    ∙ append-nil (part ++ u64 i)

length_numbered : (front i : ℕ) (row : List ℕ) → front ≤ length row → length (numbered_row front i row) ≡ front + source_width
unfolding numbered_row
length_numbered front i row h = length-append (take front row) (u64 i) ∙ omega (arith, length-take-le front row h, length_little_endian 8 i)

-- the first i rows are numbered: with the others they are all
pub record Numbering (front i : ℕ) (to : List ℕ) (rows : List (List ℕ)) : Type 0 where
  pub made : List (List ℕ)
  pub held : HoldsRows (front + source_width) i to made
  pub same : made ++ numbered_rows front i (drop i rows) ≡ numbered_rows front 0 rows

module _ {front : ℕ} {rows : List (List ℕ)} where
  pub numbering_start : {to : List ℕ} → HoldsRows (front + source_width) 0 to [] → Numbering front 0 to rows
  numbering_start h = record { made = []; held = h; same = refl }

  module _ {w n : ℕ} {from : List ℕ} (t : HoldsRows w n from rows) where
    pub numbering_more : {i : ℕ} {to exit part row : List ℕ} {b : Bool} → i < n → front ≤ w → n * (front + source_width) ≤ length to → part ≡ get_or rows i [] → row ≡ numbered_row front i part
        → Changed (front + source_width) i (i + 1) (insert_at i row) (can_insert (length to) (front + source_width) i i row) to exit b → Numbering front i to rows → Numbering front (i + 1) exit rows
    unfolding numbered_rows
    numbering_more {i} {to} {exit} {part} {row} below wide room is has c s =
        let own : row ≡ numbered_row front i (get_or rows i []) = has ∙ ap (numbered_row front i) is in
        let long : length row ≡ front + source_width = ap length own ∙ length_numbered front i (get_or rows i []) (omega (arith, row_width t i below)) in
        let more : suc i * (front + source_width) ≤ n * (front + source_width) = mul-le-mul_right (front + source_width) below in
        let can = can_insert_lem s.held i row (omega arith) long (omega (arith, suc-mul i (front + source_width))) in
        let all : length s.made ≤ i = omega (arith, s.held.counted) in
        let last : insert_at i row s.made ≡ s.made ++ row ∷ [] = ap₂ (λ x y. x ++ row ∷ y) (ap (λ m. take m s.made) (sym s.held.counted) ∙ take-length s.made) (drop_of_length-le s.made all) in
        record {
          made = s.made ++ row ∷ [];
          held = subst (HoldsRows (front + source_width) (i + 1) exit) last (c.made (c.told ∙ can) s.made s.held);
          same =
              append_assoc s.made (row ∷ []) (numbered_rows front (i + 1) (drop (i + 1) rows))
              ∙ ap (λ (r : List ℕ). s.made ++ r ∷ numbered_rows front (i + 1) (drop (i + 1) rows)) own
              ∙ ap (λ (k : ℕ). s.made ++ numbered_row front i (get_or rows i []) ∷ numbered_rows front k (drop (i + 1) rows)) (add-one i)
              ∙ ap (λ (l : List (List ℕ)). s.made ++ numbered_rows front i l) (sym (row_cons t i below))
              ∙ s.same;
        }

    pub numbering_end : {i : ℕ} {to : List ℕ} → i ≡ n → Numbering front i to rows → HoldsRows (front + source_width) n to (numbered_rows front 0 rows)
    unfolding numbered_rows
    numbering_end {i} {to} is s =
        let past : length rows ≤ i = omega (arith, t.counted) in
        let whole : s.made ≡ numbered_rows front 0 rows = sym (append-nil s.made) ∙ ap (λ l. s.made ++ numbered_rows front i l) (sym (drop_of_length-le rows past)) ∙ s.same in
        subst (λ k. HoldsRows (front + source_width) k to (numbered_rows front 0 rows)) is (subst (HoldsRows (front + source_width) i to) whole s.held)
