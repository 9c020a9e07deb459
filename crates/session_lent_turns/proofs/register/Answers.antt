-- `register` meets its contract.
use Rattle.std.specs.Prelude.{Some}
use mathlib.Core.Path.{refl, ap, ◌∙◌}
use Rattle.spec_turns.specs.Turns as model
use Rattle.session_turns.specs.Meaning.{registration_to, turns_of}
use Rattle.session_turns.specs.declared.SenderTurns.{SenderTurns}
use Rattle.session_turns.specs.declared.Registration.{Registration}
use Rattle.session_lent_turns.specs.LentTurns.{register_left}
use borrow.Author.Rules.{rules}
use Rattle.session_lent_turns.proofs.register.Goals as goal

pub returns-then-numbers-ne-NUMBERS : goal.returns-then-numbers-ne-NUMBERS
returns-then-numbers-ne-NUMBERS c = record { other = λ no. (refl, refl); eleven = λ yes. absurd (c.if-numbers-ne-NUMBERS.true yes) }

pub returns : goal.returns
returns c =
    let done = c.register-done.ensures ∙ ap (λ (t : SenderTurns). registration_to t (model.register (turns_of t) c.args.sender)) c.turns_in-before_it.ensures in
    record {
      other = λ no. absurd (no c.if-numbers-ne-NUMBERS.false);
      eleven = λ yes. (ap (λ (m : Registration). Some m.answer) done, c.keep_registration.ensures ∙ ap (λ (m : Registration). register_left c.args.numbers.now m.answer m.turns) done);
    }
