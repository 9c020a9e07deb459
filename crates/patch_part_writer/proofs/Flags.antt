-- A test of the contrary.
use mathlib.Core.Path.{◌≡◌, refl, sym}
use mathlib.Core.Bool.{Bool, true, false, not}

pub fails : (b : Bool) → not b ≡ true → b ≡ false
fails true e = sym e
fails false e = refl

pub not_false_holds : (b : Bool) → not b ≡ false → b ≡ true
not_false_holds true e = refl
not_false_holds false e = sym e
