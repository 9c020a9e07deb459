-- `geysertray_page_row` meets its contract: the row is taken apart, and told.
use mathlib.Core.Path.{ap, ◌∙◌}
use Rattle.c_answers.specs.Values.{place_told}
use borrow.Author.Rules.{rules}
use Rattle.c_exports.proofs.views.geysertray_page_row.Goals as goal

pub returns : goal.returns
returns c = λ a fits row. c.place_told.ensures ∙ ap place_told (c.read-place.ensures a fits row)
