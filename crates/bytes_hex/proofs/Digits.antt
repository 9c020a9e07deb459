-- The bytes that are digits, and those below, between and above them.
use Prim.Native.Nat.{ℕ, ◌-◌, ◌≤◌, ◌<◌}
use mathlib.Core.Path.{◌≡◌}
use mathlib.Core.Bool.{true, false}
use native.Mathlib.Omega.{arith}
use borrow.Author.Tests.{le-leb, lt-leb}
use Rattle.bytes_hex.specs.Decoding.{is_hex_digit, hex_value}

module _ (b : ℕ) where
  pub below_figures : b < 48 → (is_hex_digit b ≡ false) × (hex_value b ≡ 0)
  unfolding is_hex_digit hex_value
  below_figures h = (rw (lt-leb 48 b h, lt-leb 97 b (omega arith)), rw (lt-leb 48 b h, lt-leb 97 b (omega arith)))

  pub figure : 48 ≤ b → b ≤ 57 → (is_hex_digit b ≡ true) × (hex_value b ≡ b - 48)
  unfolding is_hex_digit hex_value
  figure h k = (rw (le-leb 48 b h, le-leb b 57 k), rw (le-leb 48 b h, le-leb b 57 k))

  pub amid : 57 < b → b < 97 → (is_hex_digit b ≡ false) × (hex_value b ≡ 0)
  unfolding is_hex_digit hex_value
  amid h k = (rw (le-leb 48 b (omega arith), lt-leb b 57 h, lt-leb 97 b k), rw (le-leb 48 b (omega arith), lt-leb b 57 h, lt-leb 97 b k))

  pub letter : 97 ≤ b → b ≤ 102 → (is_hex_digit b ≡ true) × (hex_value b ≡ b - 87)
  unfolding is_hex_digit hex_value
  letter h k =
      (rw (le-leb 48 b (omega arith), lt-leb b 57 (omega arith), le-leb 97 b h, le-leb b 102 k), rw (le-leb 48 b (omega arith), lt-leb b 57 (omega arith), le-leb 97 b h, le-leb b 102 k))

  pub above_letters : 102 < b → (is_hex_digit b ≡ false) × (hex_value b ≡ 0)
  unfolding is_hex_digit hex_value
  above_letters h =
      (rw (le-leb 48 b (omega arith), lt-leb b 57 (omega arith), le-leb 97 b (omega arith), lt-leb b 102 h), rw (le-leb 48 b (omega arith), lt-leb b 57 (omega arith), le-leb 97 b (omega arith), lt-leb b 102 h))
