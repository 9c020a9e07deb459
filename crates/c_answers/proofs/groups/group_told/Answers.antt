-- `group_told` meets its contract.
use Prim.Native.Nat.{ℕ}
use mathlib.Core.Path.{sym, ap, ◌∙◌}
use Rattle.c_answers.specs.GroupNumbers.{group_to, group_told}
use borrow.Author.Rules.{rules}
use Rattle.c_answers.proofs.groups.group_told.Goals as goal

pub returns-in-Some : goal.returns-in-Some
returns-in-Some c = c.group_to.ensures ∙ ap (λ (n : ℕ). group_to n c.in-Some.group) c.half_number.ensures ∙ ap group_told (sym c.in-Some.is)

pub returns-in-None : goal.returns-in-None
returns-in-None c = c.no_group.ensures ∙ ap group_told (sym c.in-None.is)
