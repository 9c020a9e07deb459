-- `lent_turn_told` meets its contract.
use mathlib.Core.Path.{sym, ap}
use Rattle.c_exports.specs.Turns.{lent_turn_told}
use borrow.Author.Rules.{rules}
use Rattle.c_exports.proofs.turns.lent_turn_told.Goals as goal

pub returns-in-None : goal.returns-in-None
returns-in-None c = ap lent_turn_told (sym c.in-None.is)
