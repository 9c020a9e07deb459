-- `padded_ids` meets its contract: as many as there is room for are copied over zeros.
use Rattle.active_projection_target_catalog.proofs.CatalogLaws.{padded_copied}
use Rattle.active_projection_target_catalog.proofs.catalog.padded_ids.Goals as goal

pub returns : goal.returns
returns c = padded_copied c.args.ids.now c.copy_from_slice.new.self c.min-count.result c.min-count.ensures c.copy_from_slice.ensures.after
