-- What each call of the code leaves, and that the struct after a call tells the turns after it.
use Rattle.std.specs.Prelude.{ℕ, zero, suc, ◌+◌, ◌-◌, ◌≤◌, ◌<◌, min, ◌≡◌, refl, Bool, List, [], ◌∷◌, ◌++◌, leb, get_or, drop, set, replicate}
use Rattle.std.proofs.Math.Path.{sym, ap}
use Rattle.std.proofs.Common.{◌∙◌, arith, le-leb, leb-true, leb-false, take-append-drop, take_all, take_at}
use Rattle.std.proofs.Math.Bool.{true, false}
use Rattle.std.specs.Prelude as code
use Rattle.std.proofs.Math.Option.{Option, none, some}
use Rattle.spec_lists.specs.Options.{optional_of, optional_to}
use Rattle.std.proofs.lemmas.Bool.{lt-leb}
use Rattle.std.proofs.Math.ListN.{length, take, length-take}
use Rattle.std.proofs.lemmas.List.{length-replicate, replicate-append-replicate, set-append_left}
use Rattle.std.proofs.Math.Seq.{get_or-take}
use Rattle.spec_lists.proofs.ListLaws.{test_cases}
use Rattle.spec_session.specs.Session.{Cursor}
use Rattle.spec_turns.specs.Turns as model
use Rattle.spec_turns.specs.Turns.{most_senders, new_turns, set_up, wrong_sender_count, register, refuse_register, start_waiting, turn, turn_for, spend_turn, next_sender, first_waiting, first_asked, number_after}
use Rattle.spec_turns.proofs.CircleLaws.{waits_within}
use Rattle.spec_turns.proofs.TurnsLaws.{named_waits}
use Rattle.session_turns.specs.declared.SenderTurns.{SenderTurns}
use Rattle.session_turns.specs.declared.SetUpRefusal.TheVariants.{WrongSenderCount}
use Rattle.session_turns.specs.declared.RegisterRefusal.{RegisterRefusal}
use Rattle.session_turns.specs.declared.RegisterRefusal.TheVariants.{UnknownSender, AlreadyWaiting}
use Rattle.session_turns.specs.declared.Registration.{Registration}
use Rattle.session_turns.specs.declared.Turn.{Turn}
use Rattle.session_turns.specs.declared.TurnTaken.{TurnTaken}
use Rattle.session_turns.specs.Meaning.{turns_of, turns_to, fresh_turns, set_up_to, registration_to, turn_taken_to, Registers, TakesTurn}

-- ---- a struct and the turns that it tells

same_sender : (s : code.Option ℕ) → s ≡ optional_to (optional_of s)
same_sender code.None = refl
same_sender (code.Some s) = refl

-- a struct is what its own turns come to
same_turns : (t : SenderTurns) → t ≡ turns_to t (turns_of t)
unfolding turns_of turns_to
same_turns t = λ i. record { senders = t.senders; waiting = sym (take-append-drop t.senders t.waiting) i; last = same_sender t.last i }

-- a sender's flag changed
unfoldable pub flagged : SenderTurns → ℕ → Bool → code.Option ℕ → SenderTurns
flagged t s b last = record { senders = t.senders; waiting = set t.waiting s b; last = last }

abbrev registration : code.Result (Unit {0}) RegisterRefusal → SenderTurns → Registration
registration answer turns = record { answer = answer; turns = turns }

abbrev taken : code.Option Turn → SenderTurns → TurnTaken
taken answer turns = record { answer = answer; turns = turns }

-- a list ends before more than it has
take_min : (n : ℕ) (l : List Bool) (k : ℕ) → length l ≤ k → take (min n k) l ≡ take n l
take_min n l k h =
    test_cases (leb n k)
    (λ e. let m : min n k ≡ n = omega (arith, leb-true n k e) in rw m)
    (λ e. let m : min n k ≡ k = omega (arith, leb-false n k e) in rw m (take_all k l h ∙ sym (take_all n l (omega (arith, leb-false n k e)))))

module _ (t : SenderTurns) (whole : length t.waiting ≡ most_senders) where
  told_senders : model.senders (turns_of t) ≡ min t.senders most_senders
  unfolding turns_of
  told_senders = length-take t.senders t.waiting ∙ ap (min t.senders) whole

  module _ (s : ℕ) (within : s < min t.senders most_senders) where
    told_waits : model.waits (turns_of t) s ≡ get_or t.waiting s false
    unfolding turns_of
    told_waits = get_or-take t.senders t.waiting s false (omega arith)

    -- the flag is changed among those of the senders
    told_flagged : (b : Bool) (last : code.Option ℕ) → flagged t s b last ≡ turns_to t (record { waiting = set (turns_of t).waiting s b; last = optional_of last })
    unfolding flagged turns_of turns_to
    told_flagged b last = λ i. record { senders = t.senders; waiting = changed i; last = same_sender last i }
      where
        own : s < length (take t.senders t.waiting)
        own = omega (arith, length-take t.senders t.waiting, whole)

        changed : set t.waiting s b ≡ set (take t.senders t.waiting) s b ++ drop t.senders t.waiting
        changed = ap (λ l. set l s b) (sym (take-append-drop t.senders t.waiting)) ∙ set-append_left (take t.senders t.waiting) (drop t.senders t.waiting) s b own

  -- ---- registering

  pub registers_unknown : (s : ℕ) → min t.senders most_senders ≤ s → Registers t s (record { answer = code.Err UnknownSender; turns = t })
  unfolding registration_to register refuse_register
  registers_unknown s out = rw (le-leb (model.senders (turns_of t)) s (omega (arith, told_senders))) (ap (registration (code.Err UnknownSender)) (same_turns t))

  pub registers_twice : (s : ℕ) → s < min t.senders most_senders → get_or t.waiting s false ≡ true → Registers t s (record { answer = code.Err AlreadyWaiting; turns = t })
  unfolding registration_to register refuse_register
  registers_twice s within h =
      rw (lt-leb (model.senders (turns_of t)) s (omega (arith, told_senders)), told_waits s within ∙ h) (ap (registration (code.Err AlreadyWaiting)) (same_turns t))

  pub registers_fresh : (s : ℕ) → s < min t.senders most_senders → get_or t.waiting s false ≡ false → Registers t s (record { answer = code.Ok tt; turns = flagged t s true t.last })
  unfolding registration_to register start_waiting turns_of
  registers_fresh s within h =
      rw (lt-leb (model.senders (turns_of t)) s (omega (arith, told_senders)), told_waits s within ∙ h) (ap (registration (code.Ok tt)) (told_flagged s within true t.last))

  -- ---- the turn call

  pub takes_none : (c : Cursor) → next_sender (turns_of t) ≡ none → TakesTurn t c (record { answer = code.None; turns = t })
  unfolding turn_taken_to turn turn_for
  takes_none c e = rw e (ap (taken code.None) (same_turns t))

  -- what the code goes through is the circle of the turns that the struct tells
  pub searched : (n from : ℕ) → n ≡ min t.senders most_senders → from ≡ first_asked n (optional_of t.last)
      → first_waiting (take n t.waiting) (length (take n t.waiting)) from ≡ next_sender (turns_of t)
  unfolding next_sender turns_of
  searched n from e f =
      let flags : take n t.waiting ≡ take t.senders t.waiting = ap (λ k. take k t.waiting) e ∙ take_min t.senders t.waiting most_senders (omega (arith, whole)) in
      let count : n ≡ length (take t.senders t.waiting) = e ∙ sym told_senders in
      rw (flags, f, count)

  -- whoever is named has a flag
  pub named_within : (s : ℕ) → next_sender (turns_of t) ≡ some s → s < min t.senders most_senders
  named_within s e = omega (arith, waits_within (turns_of t).waiting s (named_waits (turns_of t) s e), told_senders)

  pub takes_turn : (c : Cursor) (s : ℕ) → next_sender (turns_of t) ≡ some s → TakesTurn t c (record { answer = code.Some (record { sender = s; number = number_after c }); turns = flagged t s false (code.Some s) })
  unfolding turn_taken_to turn turn_for spend_turn
  takes_turn c s e = rw e (ap (taken (code.Some (record { sender = s; number = number_after c }))) (told_flagged s (named_within s e) false (code.Some s)))

-- ---- set-up

-- so many flags and those behind them are all flags
split_replicate : (n m : ℕ) (b : Bool) → n ≤ m → replicate m b ≡ replicate n b ++ drop n (replicate m b)
split_replicate n m b h =
    let parts : replicate m b ≡ replicate n b ++ replicate (m - n) b = let e : n + (m - n) ≡ m = omega arith in sym (replicate-append-replicate n (m - n) b ∙ ap (λ k. replicate k b) e) in
    sym (take-append-drop n (replicate m b)) ∙ ap (λ l. l ++ drop n (replicate m b)) (ap (take n) parts ∙ take_at (replicate n b) (replicate (m - n) b) n (length-replicate n b))

pub sets_up : (n : ℕ) → 1 ≤ n → n ≤ most_senders → code.Ok (fresh_turns n) ≡ set_up_to (set_up n)
unfolding set_up_to set_up new_turns fresh_turns turns_to
sets_up n low high =
    rw (le-leb 1 n low, le-leb n most_senders high, length-replicate n false) (λ i. code.Ok (record { senders = n; waiting = split_replicate n most_senders false high i; last = code.None }))

pub refuses_none : (n : ℕ) → n < 1 → code.Err WrongSenderCount ≡ set_up_to (set_up n)
unfolding set_up_to set_up
refuses_none n h = rw (lt-leb 1 n h)

pub refuses_many : (n : ℕ) → most_senders < n → code.Err WrongSenderCount ≡ set_up_to (set_up n)
unfolding set_up_to set_up
refuses_many n h = rw (le-leb 1 n (omega arith), lt-leb n most_senders h)

-- ---- the next call

take_over : (n : ℕ) (w m : List Bool) → length m ≡ length (take n w) → take n (m ++ drop n w) ≡ m
take_over zero w [] e = refl
take_over zero w (x ∷ m) e = absurd (omega arith)
take_over (suc n) [] [] e = refl
take_over (suc n) [] (x ∷ m) e = absurd (omega arith)
take_over (suc n) (y ∷ w) [] e = absurd (omega arith)
take_over (suc n) (y ∷ w) (x ∷ m) e = ap (λ l. x ∷ l) (take_over n w m (omega arith))

sender_back : (o : Option ℕ) → optional_of (optional_to o) ≡ o
sender_back none = refl
sender_back (some s) = refl

-- the struct after a call tells the turns after it
pub told_next : (t : SenderTurns) (m : model.Turns) → model.senders m ≡ model.senders (turns_of t) → turns_of (turns_to t m) ≡ m
unfolding turns_of turns_to
told_next t m e = λ i. record { waiting = take_over t.senders t.waiting m.waiting e i; last = sender_back m.last i }
