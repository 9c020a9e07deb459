-- `checked_at` meets its contract.
use mathlib.Core.Path.{sym, ap, ◌∙◌}
use Rattle.check_set.specs.declared.check_set.CheckPlace.{CheckPlace}
use Rattle.c_answers.specs.Sets.{checked_at}
use borrow.Author.Rules.{rules}
use Rattle.c_answers.proofs.sets.checked_at.Goals as goal

pub returns-in-Patch : goal.returns-in-Patch
returns-in-Patch c =
    c.checked_in.ensures ∙ ap (λ (p : CheckPlace). checked_at p c.args.logical c.args.written) (sym c.in-Patch.is)

pub returns-in-Set : goal.returns-in-Set
returns-in-Set c =
    c.checked_in-in-Set.ensures ∙ ap (λ (p : CheckPlace). checked_at p c.args.logical c.args.written) (sym c.in-Set.is)
