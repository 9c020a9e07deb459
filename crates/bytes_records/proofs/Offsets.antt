-- Where rows stand in a table, and what the tests of a count say: products of two variables, stated once for `omega`.
use Prim.Native.Nat.{ℕ, ◌+◌, ◌*◌, ◌/◌, ◌≤◌, ◌<◌}
use native.Mathlib.Nat.{suc-mul, mul-le-mul_right, le-div_iff_mul-le, div-lt_iff_lt-mul}
use native.Mathlib.Omega.{arith}

pub start_le : (w : ℕ) {i n : ℕ} → i ≤ n → i * w ≤ n * w
start_le w h = mul-le-mul_right w h

pub end_le : (w i n : ℕ) → i < n → i * w + w ≤ n * w
end_le w i n h = rw suc-mul at (mul-le-mul_right w h)

module _ (size w n : ℕ) (some : 0 < w) where
  pub fits : n ≤ size / w → n * w ≤ size
  fits h = (le-div_iff_mul-le some).0 h

  pub fits_not : size / w < n → size < n * w
  fits_not h = (div-lt_iff_lt-mul some).0 h

  pub room : n < size / w → n * w + w ≤ size
  room h = rw suc-mul at ((le-div_iff_mul-le some).0 h)

  pub room_not : size / w ≤ n → size < n * w + w
  room_not h =
      let k : size / w < n + 1 = omega arith in
      omega (arith, (div-lt_iff_lt-mul some).0 k)
