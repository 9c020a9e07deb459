-- A set by value for a patch list. The texts that are lent beside it are the canonical bytes of its operations, one behind the other.
use Rattle.std.specs.Prelude.{ℕ, ◌+◌, ◌-◌, length, replicate}
use mathlib.Core.List.{List, [], ◌∷◌, ◌++◌, map, flat_map}
use Rattle.std.proofs.Math.Option.{none}
use Rattle.spec_patch.specs.Sizes.{set_patches}
use Rattle.spec_patch.specs.Patch as model
use Rattle.spec_patch.specs.Encode.{encode_operation}
use Rattle.projection_patch.specs.Meaning.{node_to, key_to, operation_to, envelope_to}
use Rattle.projection_patch.specs.declared.patch.ProjectionPatch.{ProjectionPatch}
use Rattle.projection_patch.specs.declared.patch.OperationPlace.{OperationPlace}
use Rattle.projection_patch.specs.declared.patch.ProjectionPatchSet.{ProjectionPatchSet}
use Rattle.projection_patch.specs.declared.patch.ProjectionPatchValue.{ProjectionPatchValue}
use Rattle.projection_patch.specs.declared.patch.ProjectionPatchValue.TheVariants.{Quad, SignedScalar, UnsignedScalar, Text, Score}
use Rattle.projection_patch.specs.declared.patch.ProjectionPatchOperation.{ProjectionPatchOperation}
use Rattle.projection_patch.specs.declared.patch.ProjectionPatchOperation.TheVariants.{SetBindingValue, SetNodeAvailability, CollectionInsert, CollectionUpdate, CollectionRemove, CollectionMove}
use Rattle.patch_writer.specs.Set.{set_places}

-- the same value, and the same operation, where its text stands so much later
abbrev pub shift_value : ℕ → ProjectionPatchValue → ProjectionPatchValue
shift_value at (Quad q) = Quad q
shift_value at (SignedScalar z) = SignedScalar z
shift_value at (UnsignedScalar x) = UnsignedScalar x
shift_value at (Text start len) = Text (at + start) len
shift_value at (Score n) = Score n

abbrev pub shift : ℕ → ProjectionPatchOperation → ProjectionPatchOperation
shift at (SetBindingValue t v) = SetBindingValue t (shift_value at v)
shift at (SetNodeAvailability n a) = SetNodeAvailability n a
shift at (CollectionInsert c k b v) = CollectionInsert c k b (shift_value at v)
shift at (CollectionUpdate c k v) = CollectionUpdate c k (shift_value at v)
shift at (CollectionRemove c k) = CollectionRemove c k
shift at (CollectionMove c k b) = CollectionMove c k b

-- the operations, the bytes of the first of them from a position of the texts on
unfoldable pub places_from : ℕ → List model.Operation → List OperationPlace
places_from at [] = []
places_from at (o ∷ os) =
    let size = length (encode_operation o) in
    record { operation = shift at (operation_to size o) } ∷ places_from (at + size) os

abbrev pub operations_for : List model.Patch → List model.Operation
operations_for ps = flat_map (λ (p : model.Patch). p.operations) ps

abbrev pub texts_for : List model.Patch → List ℕ
texts_for ps = flat_map encode_operation (operations_for ps)

abbrev pub head_for : model.Patch → ProjectionPatch
head_for p = record { envelope = envelope_to p.envelope; operation_count = length p.operations }

-- what stands in a place that is not used
abbrev pub no_head : ProjectionPatch
no_head = head_for (record { envelope = record { id = 0; stream = 0; document = 0; surface = none; previous = 0; revision = 0; epoch = 0; sequence = 0 }; operations = [] })

abbrev pub no_place : OperationPlace
no_place = record { operation = CollectionRemove (node_to 0) (key_to 0) }

abbrev pub places_for : List model.Patch → List OperationPlace
places_for ps = places_from 0 (operations_for ps)

abbrev pub spare_heads : List model.Patch → List ProjectionPatch
spare_heads ps = replicate (set_patches - length ps) no_head

abbrev pub spare_places : List model.Patch → List OperationPlace
spare_places ps = replicate (set_places - length (operations_for ps)) no_place

unfoldable pub set_for : List model.Patch → ProjectionPatchSet
set_for ps = record { patch_count = length ps; patches = map head_for ps ++ spare_heads ps; operations = places_for ps ++ spare_places ps }
