-- Bytes below 0x80 from one position to another: none, fewer, those of two rows, one, and those whose highest bits a number has.
use Prim.Native.Nat.{ℕ, zero, suc, ◌+◌, ◌*◌, ◌^◌, ◌≤◌, ◌<◌}
use mathlib.Core.Path.{◌≡◌, refl, sym, ap₂, ◌∙◌}
use mathlib.Core.List.{List}
use native.Mathlib.Decide.{dec_lt}
use native.Mathlib.Nat.{add_comm, add_assoc, mul_comm, suc-mul}
use native.Mathlib.Omega.{arith}
use lib.Bits.{bit_and, and_block}
use lib.ListN.{length, get_or}
use lib.Pow.{pow_pos}
use Rattle.bytes_utf8.specs.Characters.{AsciiBetween, high_bits, TellsAscii}
use Rattle.bytes_utf8.proofs.TableLaws.{high_ascii}

pub ascii_none : {text : List ℕ} {from : ℕ} → from ≤ length text → AsciiBetween text from from
ascii_none h = record { ascends = omega arith; within = h; ascii = λ k l g. absurd (omega arith) }

pub ascii_fewer : {text : List ℕ} {from i : ℕ} (to : ℕ) → AsciiBetween text from i → from ≤ to → to ≤ i → AsciiBetween text from to
ascii_fewer to a l h = record { ascends = l; within = omega (arith, a.within); ascii = λ k f u. a.ascii k f (omega arith) }

pub ascii_joined : {text : List ℕ} {from i to : ℕ} → AsciiBetween text from i → AsciiBetween text i to → AsciiBetween text from to
ascii_joined {text} {from} {i} {to} a b =
    record { ascends = omega (arith, a.ascends, b.ascends); within = b.within; ascii = λ k l u. go k l u (dec_lt k i) }
  where
    go : (k : ℕ) → from ≤ k → k < to → Dec (k < i) → get_or text k 0 < 0x80
    go k l u (yes v) = a.ascii k l v
    go k l u (no v) = b.ascii k (omega arith) u

pub ascii_one : {text : List ℕ} {at : ℕ} → at < length text → get_or text at 0 < 0x80 → AsciiBetween text at (at + 1)
ascii_one {text} {at} h b =
    record { ascends = omega arith; within = omega arith; ascii = λ k l u. let e : k ≡ at = omega arith in rw e b }

-- ---- the highest bits of a number

pub tells_byte : (text : List ℕ) (at : ℕ) → at < length text → get_or text at 0 < 256 → TellsAscii text at 1 (get_or text at 0)
tells_byte text at h l e = ascii_one h (high_ascii (get_or text at 0) l e)

none_of : (a m : ℕ) → 0 < m → a * m ≡ 0 → a ≡ 0
none_of zero m l e = refl
none_of (suc a) m l e = absurd (omega (arith, suc-mul a m))

-- twice as many bytes
pub tells_more : (text : List ℕ) (at n k x y : ℕ) → high_bits n < 2 ^ k → high_bits (n + n) ≡ high_bits n * 2 ^ k + high_bits n → x < 2 ^ k
    → TellsAscii text at n x → TellsAscii text (at + n) n y → TellsAscii text at (n + n) (x + 2 ^ k * y)
tells_more text at n k x y l e u low high t =
    let sum : x + 2 ^ k * y ≡ y * 2 ^ k + x = rw (mul_comm (2 ^ k) y) (add_comm x (y * 2 ^ k)) in
    let z : bit_and y (high_bits n) * 2 ^ k + bit_and x (high_bits n) ≡ 0 =
    sym (and_block k y (high_bits n) x (high_bits n) u l) ∙ sym (ap₂ bit_and sum e) ∙ t in
    rw (← add_assoc) (ascii_joined (low (omega arith)) (high (none_of _ (2 ^ k) (pow_pos k) (omega arith))))

-- eight bytes as the library reads them as a number
module _ (text : List ℕ) (fits : (i : ℕ) → get_or text i 0 < 256) where
  abbrev byte : ℕ → ℕ
  byte at = get_or text at 0

  abbrev pair : ℕ → ℕ
  pair at = byte at + 0x100 * byte (at + 1)

  abbrev quad : ℕ → ℕ
  quad at = pair at + 0x10000 * pair (at + 2)

  abbrev word : ℕ → ℕ
  word at = quad at + 0x100000000 * quad (at + 4)

  small_pair : (at : ℕ) → pair at < 0x10000
  small_pair at = omega (arith, fits at, fits (at + 1))

  tells_pair : (at : ℕ) → at + 2 ≤ length text → TellsAscii text at 2 (pair at)
  tells_pair at h =
      tells_more text at 1 8 (byte at) (byte (at + 1)) (omega arith) refl (fits at) (tells_byte text at (omega arith) (fits at)) (tells_byte text (at + 1) (omega arith) (fits (at + 1)))

  tells_quad : (at : ℕ) → at + 4 ≤ length text → TellsAscii text at 4 (quad at)
  tells_quad at h =
      tells_more text at 2 16 (pair at) (pair (at + 2)) (omega arith) refl (small_pair at) (tells_pair at (omega arith)) (tells_pair (at + 2) (omega arith))

  pub tells_word : (at : ℕ) → at + 8 ≤ length text → {x : ℕ}
      → x ≡ byte at + byte (at + 1) * 256 + byte (at + 2) * 65536 + byte (at + 3) * 16777216 + byte (at + 4) * 4294967296 + byte (at + 5) * 1099511627776 + byte (at + 6) * 281474976710656 + byte (at + 7) * 72057594037927936
      → TellsAscii text at 8 x
  tells_word at h {x} e =
      let third : at + 2 + 1 ≡ at + 3 = omega arith in
      let seventh : at + 4 + 2 + 1 ≡ at + 7 = omega arith in
      let sixth : at + 4 + 2 ≡ at + 6 = omega arith in
      let fifth : at + 4 + 1 ≡ at + 5 = omega arith in
      let same : x ≡ word at = rw (third, seventh, sixth, fifth) (omega (arith, e)) in
      let small : quad at < 0x100000000 = omega (arith, small_pair at, small_pair (at + 2)) in
      rw same (tells_more text at 4 32 (quad at) (quad (at + 4)) (omega arith) refl small (tells_quad at (omega arith)) (tells_quad (at + 4) (omega arith)))
