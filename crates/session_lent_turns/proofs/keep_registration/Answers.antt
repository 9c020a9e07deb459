-- `keep_registration` meets its contract.
use mathlib.Core.Path.{sym, ap, ◌∙◌}
use Rattle.session_turns.specs.declared.RegisterRefusal.{RegisterRefusal}
use Rattle.std.specs.Prelude.{Result}
use Rattle.session_lent_turns.specs.LentTurns.{register_left}
use borrow.Author.Rules.{rules}
use Rattle.session_lent_turns.proofs.keep_registration.Goals as goal

pub returns-in-Ok : goal.returns-in-Ok
returns-in-Ok c =
    c.store_turns.ensures ∙ ap (λ (x : Result (Unit {0}) RegisterRefusal). register_left c.args.numbers.now x c.args.turns) (sym c.in-Ok.is)
