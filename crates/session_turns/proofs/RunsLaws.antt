-- Both claims on turns for the code's calls.
use Rattle.std.specs.Prelude.{ℕ, ◌*◌, ◌≤◌, ◌≡◌, refl, true, List, [], ◌∷◌, map, length, take, Option}
use Rattle.std.proofs.Common.{sym, ap, ◌∙◌, arith}
use Rattle.std.proofs.lemmas.List.{length-map}
use Rattle.spec_turns.specs.Turns as model
use Rattle.spec_turns.specs.Turns.{senders, waits, register, turn}
use Rattle.spec_turns.specs.Calls.{Call, registers, turn_call, answers, times_named, registers_again}
use Rattle.spec_turns.proofs.TurnsLaws.{register_senders, turn_senders}
use Rattle.spec_turns.proofs.Fairness.{named_in_one_circle, named_in_each_circle}
use Rattle.session_turns.specs.declared.SenderTurns.{SenderTurns}
use Rattle.session_turns.specs.declared.Turn.{Turn}
use Rattle.session_turns.specs.Meaning.{turns_of, registration_to, turn_answer_to, turn_taken_to}
use Rattle.session_turns.specs.MeaningLaws.{told_next}
use Rattle.session_turns.specs.Runs.{Runs, turn_answer_of}

pub answer_back : (a : model.TurnAnswer) → turn_answer_of (turn_answer_to a) ≡ a
answer_back model.nobody = refl
answer_back (model.turn_of s n) = refl

-- the turn calls answer what the definition answers
pub runs_answers : (t : SenderTurns) (calls : List Call) (given : List (Option Turn)) → Runs t calls given → map turn_answer_of given ≡ answers (turns_of t) calls
unfolding answers registration_to turn_taken_to
runs_answers t [] [] h = refl
runs_answers t [] (a ∷ given) h = absurd h
runs_answers t (registers s ∷ calls) given h =
    let next : turns_of h.0.turns ≡ (register (turns_of t) s).next = ap (λ r. turns_of r.turns) h.1 ∙ told_next t (register (turns_of t) s).next (register_senders (turns_of t) s) in
    runs_answers h.0.turns calls given h.2 ∙ ap (λ m. answers m calls) next
runs_answers t (turn_call c ∷ calls) [] h = absurd h
runs_answers t (turn_call c ∷ calls) (a ∷ given) h =
    let next : turns_of h.0.turns ≡ (turn (turns_of t) c).next = ap (λ r. turns_of r.turns) h.1 ∙ told_next t (turn (turns_of t) c).next (turn_senders (turns_of t) c) in
    let first : turn_answer_of a ≡ (turn (turns_of t) c).answer = ap turn_answer_of (sym h.2) ∙ ap (λ r. turn_answer_of r.answer) h.1 ∙ answer_back (turn (turns_of t) c).answer in
    let later : map turn_answer_of given ≡ answers (turn (turns_of t) c).next calls = runs_answers h.0.turns calls given h.3 ∙ ap (λ m. answers m calls) next in
    cc

-- every list of calls has a run
pub some_run : (t : SenderTurns) (calls : List Call) → (given : List (Option Turn)) × Runs t calls given
some_run t [] = ([], tt)
some_run t (registers s ∷ calls) =
    let r = registration_to t (register (turns_of t) s) in
    let later = some_run r.turns calls in
    (later.0, (r, refl, later.1))
some_run t (turn_call c ∷ calls) =
    let r = turn_taken_to t (turn (turns_of t) c) in
    let later = some_run r.turns calls in
    (r.answer ∷ later.0, (r, refl, refl, later.1))

module _ (t : SenderTurns) (s : ℕ) (calls : List Call) (given : List (Option Turn)) (runs : Runs t calls given) (waiting : waits (turns_of t) s ≡ true) where
  -- as many answers as turn calls
  long : length given ≡ length (answers (turns_of t) calls)
  long = sym (length-map given turn_answer_of) ∙ ap length (runs_answers t calls given runs)

  -- Whoever waits is named within as many turn calls as there are senders.
  pub code_names_in_one_circle : senders (turns_of t) ≤ length given → 1 ≤ times_named s (take (senders (turns_of t)) (map turn_answer_of given))
  code_names_in_one_circle h = rw (runs_answers t calls given runs) (named_in_one_circle (turns_of t) s calls waiting (omega (arith, h, long)))

  -- A waiting sender that registers again between each of its turns and the next turn call is named at least k times in k circles.
  pub code_names_in_each_circle : (k : ℕ) → registers_again s (turns_of t) calls ≡ true → k * senders (turns_of t) ≤ length given → k ≤ times_named s (take (k * senders (turns_of t)) (map turn_answer_of given))
  code_names_in_each_circle k again h =
      rw (runs_answers t calls given runs) (named_in_each_circle k (turns_of t) s calls waiting again (omega (arith, h, long)))
