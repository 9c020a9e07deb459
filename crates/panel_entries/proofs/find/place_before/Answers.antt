-- `find::place_before` meets its contract: the test and the number tell the neighbour.
use mathlib.Core.Path.{ap, ◌∙◌}
use borrow.Author.Rules.{rules}
use Rattle.panel_entries.specs.Places.{place_before}
use Rattle.panel_entries.specs.PlacesLaws.{neighbour_is}
use Rattle.panel_entries.proofs.find.place_before.Goals as goal

pub returns : goal.returns
returns c =
    record { first = (λ es fit grouped t. c.seek_place.ensures.first es fit grouped t ∙ ap (λ b. place_before c.args.collection b es) (neighbour_is c.has_neighbour.ensures c.neighbour_key.ensures)); within = c.seek_place.ensures.within }
