-- `keep_turn` meets its contract.
use mathlib.Core.Path.{sym, ap, ◌∙◌}
use Rattle.session_turns.specs.declared.Turn.{Turn}
use Rattle.std.specs.Prelude.{Option}
use Rattle.session_lent_turns.specs.LentTurns.{turn_left}
use borrow.Author.Rules.{rules}
use Rattle.session_lent_turns.proofs.keep_turn.Goals as goal

pub returns-in-Some : goal.returns-in-Some
returns-in-Some c =
    c.store_turns.ensures ∙ ap (λ (x : Option Turn). turn_left c.args.numbers.now x c.args.turns) (sym c.in-Some.is)
