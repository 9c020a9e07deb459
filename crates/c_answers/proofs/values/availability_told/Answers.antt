-- `availability_told` meets its contract.
use mathlib.Core.Path.{sym, ap, ◌∙◌}
use Rattle.c_answers.specs.Values.{availability_told}
use borrow.Author.Rules.{rules}
use Rattle.c_answers.proofs.values.availability_told.Goals as goal

pub returns-in-Some : goal.returns-in-Some
returns-in-Some c =
    (λ i. record { disposition = 0; found = c.bit.ensures i; mark = c.in-Some.node.mark; availability = c.in-Some.node.availability }) ∙ ap availability_told (sym c.in-Some.is)

pub returns-in-None : goal.returns-in-None
returns-in-None c = ap availability_told (sym c.in-None.is)
