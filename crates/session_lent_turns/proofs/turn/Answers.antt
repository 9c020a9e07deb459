-- `turn` meets its contract.
use Rattle.std.specs.Prelude.{Some}
use mathlib.Core.Path.{refl, ap, ◌∙◌}
use Rattle.spec_turns.specs.Turns as model
use Rattle.session_lifecycle.specs.Meaning.{cursor_of}
use Rattle.session_turns.specs.Meaning.{turn_taken_to, turns_of}
use Rattle.session_turns.specs.declared.SenderTurns.{SenderTurns}
use Rattle.session_turns.specs.declared.TurnTaken.{TurnTaken}
use Rattle.session_lent_turns.specs.LentTurns.{turn_left}
use borrow.Author.Rules.{rules}
use Rattle.session_lent_turns.proofs.turn.Goals as goal

pub returns-then-numbers-ne-NUMBERS : goal.returns-then-numbers-ne-NUMBERS
returns-then-numbers-ne-NUMBERS c = record { other = λ no. (refl, refl); eleven = λ yes. absurd (c.if-numbers-ne-NUMBERS.true yes) }

pub returns : goal.returns
returns c =
    let done = c.turn-done.ensures ∙ ap (λ (t : SenderTurns). turn_taken_to t (model.turn (turns_of t) (cursor_of c.args.cursor))) c.turns_in-before_it.ensures in
    record {
      other = λ no. absurd (no c.if-numbers-ne-NUMBERS.false);
      eleven = λ yes. (ap (λ (m : TurnTaken). Some m.answer) done, c.keep_turn.ensures ∙ ap (λ (m : TurnTaken). turn_left c.args.numbers.now m.answer m.turns) done);
    }
