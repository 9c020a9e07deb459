-- `find::neighbour_key` meets its contract.
use mathlib.Core.Path.{sym, ap, ◌∙◌}
use borrow.Author.Rules.{rules}
use Rattle.projection_patch.specs.Meaning.{before_of}
use Rattle.panel_entries.specs.Places.{neighbour_key}
use Rattle.panel_entries.proofs.find.neighbour_key.Goals as goal

pub returns-in-None : goal.returns-in-None
unfolding neighbour_key
returns-in-None c = sym (ap (λ b. neighbour_key (before_of b)) c.in-None.is)

pub returns-in-Some : goal.returns-in-Some
unfolding neighbour_key
returns-in-Some c = c.raw.ensures ∙ sym (ap (λ b. neighbour_key (before_of b)) c.in-Some.is)
