-- A number with its sign: what is printed of a number below 0 and of any other.
use Prim.Native.Nat.{ℕ, suc, ◌+◌}
use mathlib.Core.Path.{◌≡◌, sym, ap, ◌∙◌}
use mathlib.Core.List.{◌∷◌}
use native.Mathlib.Omega.{arith}
use mir.Syntax.{w64}
use mir.Val.{SFits, to_z, of_z}
use mir.Facts.{to_z-of_z}
use lib.IntN.{ℤ, nat_abs}
use Rattle.bytes_wire.proofs.Complement.{flip, Below, AtLeast}
use Rattle.spec_decimal.specs.Decimal.{decimal, signed_decimal}

-- the magnitude as the code computes it, of a number below 0 and of any other
pub signed_below : (z : ℤ) → Below z → signed_decimal z ≡ 45 ∷ decimal (nat_abs (to_z w64 (of_z w64 (flip (to_z w64 (of_z w64 z))))) + 1)
unfolding signed_decimal
signed_below z b =
    let more : nat_abs (to_z w64 (of_z w64 (flip (to_z w64 (of_z w64 z))))) + 1 ≡ suc b.k = ap (λ (y : ℤ). nat_abs y + 1) b.stored ∙ omega arith in
    ap signed_decimal b.is ∙ ap (λ (n : ℕ). 45 ∷ decimal n) (sym more)

pub signed_at_least : (z : ℤ) → SFits w64 z → AtLeast z → signed_decimal z ≡ decimal (nat_abs (to_z w64 (of_z w64 z)))
unfolding signed_decimal
signed_at_least z f b = ap signed_decimal b.is ∙ ap decimal (sym (ap nat_abs (to_z-of_z f ∙ b.is)))
