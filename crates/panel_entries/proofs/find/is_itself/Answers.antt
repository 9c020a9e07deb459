-- `find::is_itself` meets its contract: a named neighbour is compared with the key.
use mathlib.Core.Path.{sym, ap, ◌∙◌}
use borrow.Author.Rules.{rules}
use lib.Dec.{eqb}
use Rattle.projection_patch.specs.Meaning.{before_of}
use Rattle.panel_entries.specs.Places.{is_itself}
use Rattle.panel_entries.proofs.find.is_itself.Goals as goal

pub returns-in-None : goal.returns-in-None
unfolding is_itself
returns-in-None c = sym (ap (λ b. is_itself c.args.key (before_of b)) c.in-None.is)

pub returns-in-Some : goal.returns-in-Some
unfolding is_itself
returns-in-Some c =
    ap (λ n. eqb n c.args.key) c.raw.ensures ∙ sym (ap (λ b. is_itself c.args.key (before_of b)) c.in-Some.is)
