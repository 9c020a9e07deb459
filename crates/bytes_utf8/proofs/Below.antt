-- A test that antt computes at every number below a bound.
use Prim.Native.Nat.{ℕ, zero, suc, ◌<◌}
use mathlib.Core.Path.{◌≡◌}
use mathlib.Core.Bool.{Bool, true, ◌&&◌}
use native.Mathlib.Decide.{dec_lt}
use native.Mathlib.Omega.{arith}
use Rattle.spec_lists.proofs.ListLaws.{and_left, and_right}

-- the test passes at each number below n
abbrev pub all_below : (ℕ → Bool) → ℕ → Bool
all_below test zero = true
all_below test (suc n) = test n && all_below test n

pub pass : (test : ℕ → Bool) (n : ℕ) → all_below test n ≡ true → (k : ℕ) → k < n → test k ≡ true
pass test zero e k h = absurd (omega arith)
pass test (suc n) e k h = go (dec_lt k n) (pass test n (and_right (test n) (all_below test n) e) k)
  where
    go : Dec (k < n) → (k < n → test k ≡ true) → test k ≡ true
    go (yes l) earlier = earlier l
    go (no l) earlier = let same : k ≡ n = omega arith in rw same (and_left (test n) (all_below test n) e)
