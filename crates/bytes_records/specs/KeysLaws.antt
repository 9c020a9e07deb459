-- Laws of keys: rows that begin with the bytes of numbers.
use Rattle.std.specs.Prelude.{ℕ, ◌^◌, ◌<◌, ◌≡◌, List, ◌∷◌, ◌++◌}
use Rattle.std.proofs.Common.{take_at, drop_at}
use Rattle.spec_lists.specs.Bytes.{little_endian}
use Rattle.spec_lists.proofs.BytesLaws.{length_little_endian, number_of_little_endian}
use Rattle.bytes_records.specs.Keys.{leading_numbers}

-- the numbers that a row begins with
pub leading_number : (n x : ℕ) (sizes row : List ℕ) → x < 256 ^ n → leading_numbers (n ∷ sizes) (little_endian n x ++ row) ≡ x ∷ leading_numbers sizes row
unfolding leading_numbers
leading_number n x sizes row h =
    rw (take_at _ _ _ (length_little_endian n x), drop_at _ _ _ (length_little_endian n x), number_of_little_endian n x h)
