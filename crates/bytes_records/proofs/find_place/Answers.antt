-- `bytes_records::find_place` meets its contract: a second number of no bytes decides nothing.
use mathlib.Core.Path.{◌∙◌}
use Rattle.bytes_records.specs.SearchLaws.{place_one}
use Rattle.bytes_records.proofs.find_place.Goals as goal

pub returns : goal.returns
returns c = record { first = (λ m t. c.find_pair_place.ensures.first m t ∙ place_one 8 _ m); within = c.find_pair_place.ensures.within }
