-- The ten digits, and the bytes that stand for them.
use Rattle.std.specs.Prelude.{ℕ, ◌+◌, ◌≤◌, ◌<◌, ◌≡◌, true, leb}
use Rattle.std.proofs.Common.{arith, leb-true, le-leb}
use Rattle.spec_lists.proofs.ListLaws.{and_left, and_right}
use Rattle.spec_decimal.specs.Decimal.{digit, is_digit}

pub digit_is_digit : (d : ℕ) → d < 10 → is_digit (digit d) ≡ true
digit_is_digit d h = rw (le-leb 48 (48 + d) (omega arith), le-leb (48 + d) 57 (omega arith))

pub is_digit_range : (b : ℕ) → is_digit b ≡ true → (48 ≤ b) × (b ≤ 57)
is_digit_range b e = (leb-true 48 b (and_left (leb 48 b) (leb b 57) e), leb-true b 57 (and_right (leb 48 b) (leb b 57) e))
