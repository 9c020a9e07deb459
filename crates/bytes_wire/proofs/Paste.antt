-- A loop that overwrites byte by byte: after i turns the first i bytes are in place.
use Prim.Native.Nat.{ℕ, ◌+◌, ◌≤◌, ◌<◌}
use mathlib.Core.Path.{◌≡◌, refl, sym, ap, ◌∙◌}
use mathlib.Core.List.{List}
use native.Mathlib.Numerals.{add-one}
use native.Mathlib.Omega.{arith}
use lib.ListN.{length, get_or, set}
use lib.Seq.{paste, paste-suc, take-length}
use Rattle.bytes_wire.specs.Write.{overwrite}
use Rattle.bytes_wire.proofs.WriteLaws.{has_room_lem, overwrite_in_place}

module _ (l : List ℕ) (at : ℕ) (bs : List ℕ) (room : at + length bs ≤ length l) where
  -- the byte at index i is written
  pub paste_turn : (i : ℕ) → i < length bs → (out : List ℕ) (b : ℕ) → out ≡ paste l at bs i → b ≡ get_or bs i 0 → set out (at + i) b ≡ paste l at bs (i + 1)
  paste_turn i more out b e f =
      ap (λ (o : List ℕ). set o (at + i) b) e
      ∙ ap (set (paste l at bs i) (at + i)) f
      ∙ paste-suc l at bs i 0 (omega arith) more
      ∙ ap (paste l at bs) (sym (add-one i))

  pub paste_finished : (out : List ℕ) (i : ℕ) → i ≡ length bs → out ≡ paste l at bs i → out ≡ overwrite l at bs
  paste_finished out i all e =
      e ∙ ap (paste l at bs) all ∙ rw (take-length bs) (sym (overwrite_in_place l at bs (length bs) refl (has_room_lem l at (length bs) room)))
