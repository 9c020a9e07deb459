-- `stored_availability` meets its contract: the mark behind the node, and the byte behind both.
use mathlib.Core.Path.{ap, ◌∙◌}
use mathlib.Core.Bool.{true}
use borrow.Author.Rules.{rules}
use Rattle.panel_rows.specs.Rows.{availability_mark_in, availability_in}
use Rattle.panel_rows.specs.RowsLaws.{availability_mark_lem, availability_byte_lem}
use Rattle.panel_rows.specs.Lookup.{availability_lookup}
use Rattle.panel_lookups.proofs.stored_availability.Goals as goal

pub returns : goal.returns
unfolding availability_lookup
returns c = λ a fits e.
    let mark = c.availability_mark.ensures ∙ ap availability_mark_in e ∙ availability_mark_lem a fits in
    let byte = c.availability_byte.ensures ∙ ap availability_in e ∙ availability_byte_lem a in
    λ i. record { found = true; mark = mark i; availability = byte i }
