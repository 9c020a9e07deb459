-- `turn_to` meets its contract.
use mathlib.Core.Path.{sym, ap}
use Rattle.c_exports.specs.Turns.{turn_to}
use borrow.Author.Rules.{rules}
use Rattle.c_exports.proofs.turns.turn_to.Goals as goal

pub returns-in-None : goal.returns-in-None
returns-in-None c = ap turn_to (sym c.in-None.is)

pub returns-in-Some : goal.returns-in-Some
returns-in-Some c = ap turn_to (sym c.in-Some.is)
