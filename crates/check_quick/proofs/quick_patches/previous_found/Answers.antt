-- `check_quick::quick_patches::previous_found` meets its contract.
use mathlib.Core.Path.{ap, ◌∙◌}
use Rattle.check_findings.specs.Found.{is_found}
use Rattle.check_quick.specs.Quick.{previous_found}
use borrow.Author.Rules.{rules}
use Rattle.check_quick.proofs.quick_patches.previous_found.Goals as goal

pub returns-in-None : goal.returns-in-None
unfolding previous_found
returns-in-None c = rw c.in-None.is

pub returns-in-Some : goal.returns-in-Some
unfolding previous_found
returns-in-Some c = c.pair_found.ensures ∙ ap is_found c.pair_findings.ensures ∙ rw c.in-Some.is
