-- `places::change_place` meets its contract: each call does the change of its case.
use mathlib.Core.Path.{sym, ap, ◌∙◌}
use mathlib.Core.Bool.{Bool}
use borrow.Author.Rules.{rules}
use Rattle.panel_page.specs.Shown.{place_after}
use Rattle.panel_page.proofs.places.change_place.Goals as goal

pub returns-then-ending : goal.returns-then-ending
returns-then-ending c = c.clear_empty.ensures ∙ ap (λ (b : Bool). place_after b c.args.place.now) (sym c.if-ending.true)
