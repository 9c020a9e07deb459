use Rattle.active_projection_target_catalog.specs.Catalog.{catalog_with}
use Rattle.active_projection_target_catalog.proofs.catalog.ActiveProjectionTargetCatalog.from_snapshot.Goals as goal

pub returns : goal.returns
unfolding catalog_with
returns c = rw (c.padded_ids.ensures, c.padded_ids-2.ensures)
