-- Fields stored one behind another: what stands in the output after each.
use Prim.Native.Nat.{ℕ, ◌+◌, ◌%◌, ◌<◌, ◌≤◌}
use mathlib.Core.Path.{◌≡◌, ap, ap₂, ◌∙◌}
use mathlib.Core.List.{List, [], ◌∷◌, ◌++◌}
use native.Mathlib.Omega.{arith}
use lib.ListN.{length, length-append}
use Rattle.spec_lists.specs.Bytes.{little_endian}
use Rattle.spec_lists.proofs.BytesLaws.{length_little_endian}
use Rattle.bytes_wire.specs.Write.{overwrite}
use Rattle.bytes_wire.proofs.WriteLaws.{overwrite_append}
use Rattle.projection_patch.specs.Widths.{past_key}

-- the output is as it was but for the n bytes from index at on
pub record StoredBytes (l : List ℕ) (at n : ℕ) (bs out : List ℕ) : Type 0 where
  pub long : length bs ≡ n
  pub is : out ≡ overwrite l at bs

pub stored_first : (l : List ℕ) (at n : ℕ) (bs : List ℕ) {out : List ℕ} → length bs ≡ n → out ≡ overwrite l at bs → StoredBytes l at n bs out
stored_first l at n bs long e = record { long = long; is = e }

pub first_number : (l : List ℕ) (at n x : ℕ) {out : List ℕ} → out ≡ overwrite l at (little_endian n x) → StoredBytes l at n (little_endian n x) out
first_number l at n x e = stored_first l at n (little_endian n x) (length_little_endian n x) e

module _ {l : List ℕ} {at n : ℕ} {a m : List ℕ} (stored : StoredBytes l at n a m) where
  pub next : (k : ℕ) (b : List ℕ) {out : List ℕ} → length b ≡ k → at + (n + k) ≤ length l → out ≡ overwrite m (at + n) b → StoredBytes l at (n + k) (a ++ b) out
  next k b long room e = record {
    long = length-append a b ∙ ap₂ (λ (x y : ℕ). x + y) stored.long long;
    is = e ∙ ap (λ (o : List ℕ). overwrite o (at + n) b) stored.is ∙ overwrite_append l at a b n stored.long (omega arith);
  }

  pub next_number : (k x : ℕ) {out : List ℕ} → at + (n + k) ≤ length l → out ≡ overwrite m (at + n) (little_endian k x) → StoredBytes l at (n + k) (a ++ little_endian k x) out
  next_number k x room e = next k (little_endian k x) (length_little_endian k x) room e

-- a byte is its own only byte
pub one_byte : (x : ℕ) → x < 256 → little_endian 1 x ≡ x ∷ []
unfolding little_endian
one_byte x small =
    let same : x % 256 ≡ x = omega arith in
    ap (λ (b : ℕ). b ∷ []) same

-- a tag and two numbers
pub length_entry : (tag a b : ℕ) → length (tag ∷ little_endian 8 a ++ little_endian 8 b) ≡ past_key
length_entry tag a b = simp (length-append, length_little_endian)
