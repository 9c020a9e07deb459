-- `find::place_before_other` meets its contract: the entry itself is no neighbour.
use mathlib.Core.Path.{sym, ap, ◌∙◌}
use borrow.Author.Rules.{rules}
use Rattle.panel_entries.specs.Places.{place_before, PositionWithin, place_before_other}
use Rattle.panel_entries.specs.PlacesLaws.{neighbour_is}
use Rattle.panel_entries.proofs.find.place_before_other.Goals as goal

pub returns-then-is_itself : goal.returns-then-is_itself
unfolding place_before_other PositionWithin
returns-then-is_itself c = record { first = (λ es fit grouped t. rw (sym c.is_itself.ensures ∙ c.if-is_itself.true)); within = search rules }

pub returns : goal.returns
unfolding place_before_other
returns c =
    let named = neighbour_is c.has_neighbour.ensures c.neighbour_key.ensures in record {
      first = (λ es fit grouped t.
          rw (sym c.is_itself.ensures ∙ c.if-is_itself.false) (c.seek_place.ensures.first es fit grouped t ∙ ap (λ b. place_before c.args.collection b es) named));
      within = c.seek_place.ensures.within;
    }
