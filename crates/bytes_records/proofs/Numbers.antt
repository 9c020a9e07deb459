-- What the loop that reads a number has read at each turn, and the library's number of eight bytes.
use mathlib.Core.Path.{◌≡◌, sym, ap, ◌∙◌}
use mathlib.Core.List.{List, [], ◌∷◌}
use Prim.Native.Nat.{ℕ, suc, ◌+◌, ◌-◌, ◌*◌, ◌^◌, ◌≤◌, ◌<◌}
use native.Mathlib.Omega.{arith}
use lib.ListN.{length, drop, get_or, length-drop}
use lib.Seq.{drop-cons, drop-length}
use Rattle.std.specs.Int.{w64, from_le_bytes}
use Rattle.std.specs.Array.{IsFirstChunk}
use Rattle.std.proofs.lemmas.List.{take_all}
use Rattle.spec_lists.specs.Bytes.{Bytes, number_of}
use Rattle.spec_lists.proofs.BytesLaws.{bytes_drop, number_of_lt}

-- no byte is read
pub number_start : (l : List ℕ) → 0 ≡ number_of (drop (length l) l)
unfolding number_of
number_start l = rw drop-length

-- one more byte in front
pub number_turn : (l : List ℕ) (i x b : ℕ) → 0 < i → i ≤ length l → x ≡ number_of (drop i l) → b ≡ get_or l (i - 1) 0 → x * 256 + b ≡ number_of (drop (i - 1) l)
unfolding number_of
number_turn l i x b some within read byte =
    let next : suc (i - 1) ≡ i = omega arith in
    let below : i - 1 < length l = omega arith in
    let front : number_of (drop (i - 1) l) ≡ get_or l (i - 1) 0 + 256 * number_of (drop (suc (i - 1)) l) = rw (drop-cons l (i - 1) 0) in
    let rest : number_of (drop (suc (i - 1)) l) ≡ number_of (drop i l) = ap (λ (k : ℕ). number_of (drop k l)) next in
    omega arith

pub number_end : (l : List ℕ) (i x : ℕ) → i ≤ 0 → x ≡ number_of (drop i l) → x ≡ number_of l
number_end l i x none read =
    let e : i ≡ 0 = omega arith in
    read ∙ ap (λ (k : ℕ). number_of (drop k l)) e

-- what is read of eight bytes leaves room for one more
pub rest_small : (l : List ℕ) (i : ℕ) → Bytes l → length l ≤ 8 → 0 < i → number_of (drop i l) < 2 ^ 56
rest_small l i h short some = number_of_lt 7 (drop i l) (bytes_drop i l h) (simp length-drop (omega arith))

eight_number : (bs : List ℕ) → length bs ≡ 8 → from_le_bytes w64 bs ≡ number_of bs
unfolding number_of
eight_number (a ∷ b ∷ c ∷ d ∷ e ∷ f ∷ g ∷ h ∷ []) q = omega arith
eight_number bs q = absurd (omega arith)

-- eight bytes that are all there are
pub whole_number : (l : List ℕ) {bs : List ℕ} → length l ≤ 8 → IsFirstChunk l bs 8 → from_le_bytes w64 bs ≡ number_of l
whole_number l {bs} short chunk =
    let whole : bs ≡ l = chunk.same ∙ take_all 8 l short in
    let long : length bs ≡ 8 = omega (arith, ap length whole, short, chunk.enough) in
    eight_number bs long ∙ ap number_of whole
