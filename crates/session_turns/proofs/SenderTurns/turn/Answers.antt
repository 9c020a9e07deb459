-- `SenderTurns::turn` meets its contract.
use mathlib.Core.Path.{sym, ap, ◌∙◌}
use native.Mathlib.Omega.{arith}
use borrow.Author.Rules.{rules}
use Rattle.spec_lists.specs.Options.{optional_of}
use Rattle.session_turns.specs.MeaningLaws.{flagged, named_within, takes_none, takes_turn}
use Rattle.session_turns.proofs.SenderTurns.turn.Goals as goal

pub bounds-turns-sender : goal.bounds-turns-sender
bounds-turns-sender c =
    let found = sym c.next_sender.ensures ∙ ap optional_of c.in-Some.is in
    omega (arith, named_within c.args.self (search rules) _ found)

pub returns-in_default : goal.returns-in_default
returns-in_default c =
    takes_none c.args.self (search rules) _ (sym c.next_sender.ensures ∙ ap optional_of c.in_default.is)

pub returns : goal.returns
unfolding flagged
returns c =
    let found = sym c.next_sender.ensures ∙ ap optional_of c.in-Some.is in
    rw c.number_after-number.ensures (takes_turn c.args.self (search rules) _ _ found)
