-- The steps of reading.
use Rattle.std.specs.Prelude.{ℕ, ◌+◌, ◌-◌, ◌*◌, ◌^◌, ◌&&◌, List, ltb, if◌then◌else◌}
use Rattle.std.proofs.Math.Option.{Option, none, some}
use Rattle.spec_lists.specs.Lists.{all}
use Rattle.spec_decimal.specs.Decimal.{is_digit, number_with}

-- the number n with one digit more after its own, if it is a u64
unfoldable pub with_digit : ℕ → ℕ → Option ℕ
with_digit n b = if is_digit b && ltb (10 * n + (b - 48)) (2 ^ 64) then some (10 * n + (b - 48)) else none

-- the number n with further digits after its own, if it is a u64
unfoldable pub read_digits : ℕ → List ℕ → Option ℕ
read_digits n bs = if all is_digit bs && ltb (number_with n bs) (2 ^ 64) then some (number_with n bs) else none
