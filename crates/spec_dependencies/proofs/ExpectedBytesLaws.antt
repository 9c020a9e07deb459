-- How many keys a set within its bytes can expect.
use Rattle.std.specs.Prelude.{ℕ, ◌+◌, ◌*◌, ◌≤◌, length}
use Rattle.std.proofs.Common.{arith, length-append}
use mathlib.Core.List.{List, [], ◌∷◌, flat_map}
use Rattle.spec_lists.proofs.ListLaws.{flat_map_append}
use Rattle.spec_patch.specs.Edition.{Edition}
use Rattle.spec_patch.specs.Encode.{encode_operation, encode_counted, encode_patch, encode}
use Rattle.spec_patch.specs.Patch.{Patch, Operation}
use Rattle.spec_projection.specs.Apply.{operations_of}
use Rattle.spec_dependencies.specs.Expectations.{expectations}
use Rattle.spec_dependencies.proofs.CountLaws.{expectations_bytes}

operations_bytes : (os : List Operation) → 13 * length (flat_map expectations os) ≤ length (flat_map encode_operation os)
unfolding flat_map
operations_bytes [] = omega arith
operations_bytes (o ∷ os) = simp length-append (omega (arith, expectations_bytes o, operations_bytes os))

patches_bytes : (ps : List Patch) → 13 * length (flat_map expectations (operations_of ps)) ≤ length (flat_map encode_patch ps)
unfolding flat_map operations_of encode_patch encode_counted
patches_bytes [] = omega arith
patches_bytes (p ∷ ps) = simp (flat_map_append, length-append) (omega (arith, operations_bytes p.operations, patches_bytes ps))

-- so a set within its 32,768 bytes expects at most 2,520 keys
pub expected_bytes : (ed : Edition) (ps : List Patch) → 13 * length (flat_map expectations (operations_of ps)) ≤ length (encode ed ps)
unfolding encode encode_counted
expected_bytes ed ps = simp length-append (omega (arith, patches_bytes ps))
