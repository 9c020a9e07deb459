-- The struct of a replay's turns tells them, and what a call leaves is stored alike.
use Rattle.std.specs.Prelude.{ℕ, zero, suc, ◌≤◌, ◌<◌, ◌≡◌, Bool, List, [], ◌∷◌, ◌++◌, replicate}
use Rattle.std.proofs.Math.Path.{refl, sym, ap}
use Rattle.std.proofs.Common.{◌∙◌, arith}
use Rattle.std.proofs.Math.Bool.{false}
use Rattle.std.proofs.Math.Option.{Option, none, some}
use Rattle.std.proofs.Math.ListN.{length, drop, length-take, length-replicate}
use Rattle.spec_lists.specs.Options.{optional_to}
use Rattle.spec_turns.specs.Turns.{Turns, senders, most_senders}
use Rattle.session_turns.specs.declared.SenderTurns.{SenderTurns}
use Rattle.session_turns.specs.Meaning.{turns_of, turns_to, fresh_turns}
use Rattle.session_turns.specs.MeaningLaws.{told_next}
use Rattle.script_calls.specs.TurnsHeld.{held_turns, TurnsHeld}

-- ---- there are senders, or none

pub turns_there : (s : SenderTurns) (o : Option Turns) → TurnsHeld s o → 0 < s.senders → (t : Turns) × (o ≡ some t) × TurnsHeld s (some t)
unfolding held_turns fresh_turns
turns_there s (some t) h more = (t, refl, h)
turns_there s none h more = absurd (let z : s.senders ≡ 0 = ap (λ (x : SenderTurns). x.senders) h.are in omega arith)

pub turns_nowhere : (s : SenderTurns) (o : Option Turns) → TurnsHeld s o → s.senders ≤ 0 → o ≡ none
unfolding held_turns fresh_turns turns_to
turns_nowhere s none h few = refl
turns_nowhere s (some t) h few = absurd (let z : s.senders ≡ senders t = ap (λ (x : SenderTurns). x.senders) h.are in omega (arith, h.few.0))

-- ---- the turns after a call

drop_front : (n : ℕ) (m l : List Bool) → length m ≡ n → drop n (m ++ l) ≡ l
drop_front zero [] l e = refl
drop_front zero (x ∷ m) l e = absurd (omega arith)
drop_front (suc n) [] l e = absurd (omega arith)
drop_front (suc n) (x ∷ m) l e = drop_front n m l (omega arith)

module _ (s : SenderTurns) (t : Turns) (h : TurnsHeld s (some t)) where
  -- the struct tells them
  pub told_turns : turns_of s ≡ t
  unfolding held_turns turns_of fresh_turns
  told_turns =
      let fresh : length (replicate most_senders false) ≡ most_senders = length-replicate most_senders false in
      ap turns_of h.are ∙ told_next (fresh_turns (senders t)) t (omega (arith, h.few.1, fresh, length-take (senders t) (replicate most_senders false)))

  -- what a call leaves, of as many senders
  pub held_next : (n : Turns) → senders n ≡ senders t → TurnsHeld (turns_to s n) (some n)
  unfolding held_turns turns_to fresh_turns
  held_next n e = record {
    are =
        ap (λ (x : SenderTurns). turns_to x n) h.are
        ∙ (λ i. record { senders = sym e i; waiting = n.waiting ++ behind i; last = optional_to n.last });
    few = (omega (arith, h.few.0), omega (arith, h.few.1));
  }
    where
      behind : drop (senders t) (t.waiting ++ drop (senders t) (replicate most_senders false)) ≡ drop (senders n) (replicate most_senders false)
      behind = drop_front (senders t) t.waiting (drop (senders t) (replicate most_senders false)) refl ∙ ap (λ (k : ℕ). drop k (replicate most_senders false)) (sym e)
