-- `set_up` meets its contract.
use Rattle.std.specs.Prelude.{refl, Result, Some}
use Rattle.std.proofs.Common.{sym, ap, ◌∙◌}
use Rattle.session_turns.specs.declared.SenderTurns.{SenderTurns}
use Rattle.session_turns.specs.declared.SetUpRefusal.{SetUpRefusal}
use Rattle.session_lent_turns.specs.LentTurns.{set_up_left}
use Rattle.session_turns.specs.Meaning.{set_up_answered}
use borrow.Author.Rules.{rules}
use Rattle.session_lent_turns.proofs.set_up.Goals as goal

pub returns-then-numbers-ne-NUMBERS : goal.returns-then-numbers-ne-NUMBERS
returns-then-numbers-ne-NUMBERS c = record { other = λ no. (refl, refl); eleven = λ yes. absurd (c.if-numbers-ne-NUMBERS.true yes) }

pub returns-in-Ok : goal.returns-in-Ok
returns-in-Ok c =
    let made = sym c.in-Ok.is ∙ c.new.ensures in
    record {
      other = λ no. absurd (no c.if-numbers-ne-NUMBERS.false);
      eleven = λ yes. (ap (λ (m : Result SenderTurns SetUpRefusal). Some (set_up_answered m)) made, c.store_turns.ensures ∙ ap (set_up_left c.args.numbers.now) made);
    }

pub returns-in-Err : goal.returns-in-Err
returns-in-Err c =
    let made = sym c.in-Err.is ∙ c.new.ensures in
    record {
      other = λ no. absurd (no c.if-numbers-ne-NUMBERS.false);
      eleven = λ yes. (ap (λ (m : Result SenderTurns SetUpRefusal). Some (set_up_answered m)) made, ap (set_up_left c.args.numbers.now) made);
    }
