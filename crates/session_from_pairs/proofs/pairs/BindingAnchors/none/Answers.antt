-- `BindingAnchors::none` meets its contract.
use Rattle.std.proofs.Common.{refl}
use Rattle.session_from_pairs.specs.Pairs.{no_pairs}
use Rattle.session_from_pairs.proofs.pairs.BindingAnchors.none.Goals as goal

pub returns : goal.returns
unfolding no_pairs
returns c = refl
