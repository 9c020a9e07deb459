-- `no_availability` meets its contract.
use mathlib.Core.Path.{refl}
use Rattle.panel_rows.specs.Lookup.{availability_lookup}
use Rattle.panel_lookups.proofs.no_availability.Goals as goal

pub returns : goal.returns
unfolding availability_lookup
returns c = refl
