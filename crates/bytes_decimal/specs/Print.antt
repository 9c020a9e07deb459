-- The digits of a number in an array.
use Rattle.std.specs.Prelude.{ℕ, ◌+◌, ◌≡◌, ◌++◌, length, replicate}
use Rattle.spec_decimal.specs.Decimal.{decimal}
use Rattle.bytes_decimal.specs.declared.Digits.{Digits}

-- a u64 has no more digits
abbrev pub most_digits : ℕ
most_digits = 20

-- zeros, and the digits behind them up to the end
pub record HoldsDigits (n : ℕ) (d : Digits) : Type 0 where
  pub bytes : d.bytes ≡ replicate d.start 0 ++ decimal n
  pub place : d.start + length (decimal n) ≡ most_digits
