-- The line of a creation, by the answer that tells it.
use Prim.Native.Nat.{ℕ}
use mathlib.Core.Path.{◌≡◌, refl}
use mathlib.Core.List.{[], ◌∷◌}
use native.Mathlib.Omega.{arith}
use Rattle.spec_session.specs.Session.{Creation, made, refused, too_many_anchors, creation_number}
use Rattle.spec_decimal.specs.Decimal.{decimal}
use Rattle.spec_listing.specs.Listing.{fields}
use Rattle.spec_replay.specs.Answers.{creation_line}
use Rattle.session_creation.specs.declared.CreationRefusal.{CreationRefusal}
use Rattle.std.specs.Prelude.{Ok, Err}
use Rattle.script_answers.specs.CreationAnswers.{creation_to}

pub made_line : (c : Creation) → Ok tt ≡ creation_to c → 83 ∷ fields (decimal 0 ∷ []) ≡ creation_line c
unfolding creation_to creation_line
made_line (made s) is = refl
made_line (refused r) is = absurd (let z : ◌≡◌ {A = ℕ} 0 1 = cc in omega arith)

pub creation_refused : (c : Creation) (f : CreationRefusal) → Err f ≡ creation_to c → 83 ∷ fields (decimal (creation_number too_many_anchors) ∷ []) ≡ creation_line c
unfolding creation_to creation_line
creation_refused (made s) f is = absurd (let z : ◌≡◌ {A = ℕ} 0 1 = cc in omega arith)
creation_refused (refused too_many_anchors) f is = refl
