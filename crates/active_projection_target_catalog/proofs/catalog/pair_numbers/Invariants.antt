use Prim.Native.Nat.{◌*◌}
use mathlib.Core.Path.{◌≡◌}
use mathlib.Core.List.{flat_map}
use lib.ListN.{length, take}
use Rattle.spec_patch.specs.Sizes.{anchors}
use Rattle.active_projection_target_catalog.specs.Catalog.{pair_numbers}
use Rattle.active_projection_target_catalog.proofs.catalog.pair_numbers.Given as goal

abbrev pub invariant-loop-i : goal.invariant-loop-i
invariant-loop-i l = (length l.numbers ≡ 2 * anchors) × (take (2 * l.i) l.numbers ≡ flat_map pair_numbers (take l.i l.fn.pairs))
