-- Two's complement at 64 bits: -1 - z, by which a number below 0 is read and written.
use Rattle.std.specs.Prelude.{ℕ, zero, suc, ◌^◌, ◌<◌, ◌≡◌, refl, true, false, ℤ, pos, negsuc, ◌-ℤ◌}
use Rattle.std.proofs.Common.{ap, ◌∙◌, arith, ltb-true, le-ltb, SFits, to_z, of_z, to_z-of_z}
use Rattle.std.specs.Int.Signed.{lt_z}
use Rattle.std.specs.Int.{w64}
use Rattle.std.proofs.Math.Facts.{to_z_pos}

-- -1 - z, as the code computes it
abbrev pub flip : ℤ → ℤ
flip z = negsuc 0 -ℤ z

pub flip_pos : (n : ℕ) → flip (pos n) ≡ negsuc n
flip_pos zero = refl
flip_pos (suc n) = ap negsuc (omega arith)

flip_negsuc : (k : ℕ) → flip (negsuc k) ≡ pos k
flip_negsuc k = rw (le-ltb (suc k) 1 (omega arith)) (ap pos (omega arith))

-- what is known of a number below 0
pub record Below (z : ℤ) : Type 0 where
  pub k : ℕ
  pub is : z ≡ negsuc k
  pub small : k < 2 ^ 63
  pub flipped : flip (to_z w64 (of_z w64 z)) ≡ pos k
  pub stored : to_z w64 (of_z w64 (flip (to_z w64 (of_z w64 z)))) ≡ pos k

pub below : (z : ℤ) → SFits w64 z → lt_z z (pos 0) ≡ true → Below z
below (pos n) f e = absurd (omega (arith, ltb-true n 0 e))
below (negsuc k) f e =
    let flipped : flip (to_z w64 (of_z w64 (negsuc k))) ≡ pos k = ap flip (to_z-of_z f) ∙ flip_negsuc k in
    record {
      k = k;
      is = refl;
      small = f.sfits;
      flipped = flipped;
      stored = ap (λ (y : ℤ). to_z w64 (of_z w64 y)) flipped ∙ to_z_pos w64 f.sfits;
    }

-- what is known of any other number
pub record AtLeast (z : ℤ) : Type 0 where
  pub n : ℕ
  pub small : n < 2 ^ 63
  pub is : z ≡ pos n

pub at_least : (z : ℤ) → SFits w64 z → lt_z z (pos 0) ≡ false → AtLeast z
at_least (pos n) f e = record { n = n; small = f.sfits; is = refl }
at_least (negsuc k) f e = absurd (let e' : true ≡ false = e in let z : ◌≡◌ {A = ℕ} 0 1 = cc in omega arith)
