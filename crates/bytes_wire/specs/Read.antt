-- What reading a number answers: 01, 'Canonical bytes': all numbers are little-endian.
use Rattle.std.specs.Prelude.{ℕ, List, leb, ℤ, length, take, if◌then◌else◌}
use Rattle.std.proofs.Math.Option.{Option, none, some, map}
use Rattle.std.specs.Int.{w64}
use Rattle.std.proofs.Common.{to_z}
use Rattle.spec_lists.specs.Bytes.{number_of}

-- the number that the first n bytes spell, if there are n
unfoldable pub first_number : ℕ → List ℕ → Option ℕ
first_number n bs = if leb n (length bs) then some (number_of (take n bs)) else none

-- the i64 whose two's complement is in the first eight bytes
unfoldable pub first_signed : List ℕ → Option ℤ
first_signed bs = map (to_z w64) (first_number 8 bs)
