-- `projection_patch::read_values::text_of` meets its contract: the part is lent where it stands in the set.
use mathlib.Core.Path.{refl}
use Rattle.projection_patch.proofs.Texts.{lent_by}
use Rattle.projection_patch.proofs.read_values.text_of.Goals as goal

pub returns : goal.returns
returns c = rw c.unwrap_or.ensures (lent_by c.args.set.now c.args.a c.args.b _ refl c.get.result c.get.ensures.lookup.0)
