-- What was written is a part of the buffer.
use Rattle.std.proofs.Common.{rules, refl}
use Rattle.listing_panel.specs.WrittenLaws.{wrote_within}
use Rattle.listing_input.proofs.list_input.Goals as goal

pub slice_bounds-write_all-end : goal.slice_bounds-write_all-end
slice_bounds-write_all-end g c = search (rules, wrote_within c.in-Ok.ensures c.in-Ok.len refl)
