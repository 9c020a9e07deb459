-- The line of a set-up of senders, by the answer that tells it.
use Rattle.std.specs.Prelude.{Ok, Err}
use Prim.Native.Nat.{ℕ}
use mathlib.Core.Path.{◌≡◌, refl}
use mathlib.Core.List.{[], ◌∷◌}
use native.Mathlib.Omega.{arith}
use Rattle.spec_turns.specs.Turns as model
use Rattle.spec_turns.specs.Turns.{SetUp, wrong_sender_count, set_up_number}
use Rattle.spec_decimal.specs.Decimal.{decimal}
use Rattle.spec_listing.specs.Listing.{fields}
use Rattle.spec_replay.specs.Answers.{set_up_line}
use Rattle.session_turns.specs.declared.SetUpRefusal.{SetUpRefusal}
use Rattle.session_turns.specs.Meaning.{set_up_to, set_up_answered}

pub set_up_line_lem : (s : SetUp) → Ok tt ≡ set_up_answered (set_up_to s) → 74 ∷ fields (decimal 0 ∷ []) ≡ set_up_line s
unfolding set_up_to set_up_line
set_up_line_lem (model.made t) is = refl
set_up_line_lem (model.refused wrong_sender_count) is = absurd (let z : ◌≡◌ {A = ℕ} 0 1 = cc in omega arith)

pub no_set_up_line : (s : SetUp) (f : SetUpRefusal) → Err f ≡ set_up_answered (set_up_to s) → 74 ∷ fields (decimal (set_up_number wrong_sender_count) ∷ []) ≡ set_up_line s
unfolding set_up_to set_up_line
no_set_up_line (model.made t) f is = absurd (let z : ◌≡◌ {A = ℕ} 0 1 = cc in omega arith)
no_set_up_line (model.refused wrong_sender_count) f is = refl
