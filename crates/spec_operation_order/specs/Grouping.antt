-- Operations grouped by target, as a supplier does who works off one collection after the other.
use Rattle.std.specs.Prelude.{Bool, true, not, ◌&&◌}
use mathlib.Core.List.{List, [], ◌∷◌, flat_map}
use Rattle.spec_lists.specs.Lists.{all, any}
use Rattle.spec_patch.specs.Patch.{Operation}
use Rattle.spec_projection.specs.Effects.{Target, target_of}
use Rattle.spec_operation_order.specs.FreeOrder.{is_same_target, operations_on}

-- all operations on the first target, then all on the second, and so on
unfoldable pub grouped_by : List Target → List Operation → List Operation
grouped_by ts os = flat_map (λ (t : Target). operations_on t os) ts

-- a target is one of these
unfoldable pub is_among : List Target → Target → Bool
is_among ts t = any (is_same_target t) ts

-- no target stands twice
unfoldable pub distinct : List Target → Bool
distinct [] = true
distinct (t ∷ ts) = not (is_among ts t) && distinct ts

-- no operation is on any other target
unfoldable pub covers : List Target → List Operation → Bool
covers ts os = all (λ (o : Operation). is_among ts (target_of o)) os
