-- How many bytes each part of a patch list takes, by the text lengths that it states; and where its texts stand.
use Rattle.std.specs.Prelude as code
use Rattle.projection_patch.specs.declared.contract_primitives.StaticSurfaceId.{StaticSurfaceId}
use Rattle.projection_patch.specs.declared.contract_primitives.CollectionKey.{CollectionKey}
use Rattle.std.specs.Prelude.{ℕ, ◌+◌, ◌≤◌, List, length}
use Rattle.spec_patch.specs.Sizes.{text_bytes}
use Rattle.projection_patch.specs.Widths.{tagged_bytes, past_slot, past_key}
use Rattle.projection_patch.specs.declared.patch.ProjectionPatch.{ProjectionPatch}
use Rattle.projection_patch.specs.declared.patch.ProjectionPatchValue.{ProjectionPatchValue}
use Rattle.projection_patch.specs.declared.patch.ProjectionPatchValue.TheVariants.{Quad, SignedScalar, UnsignedScalar, Text, Score}
use Rattle.projection_patch.specs.declared.patch.ProjectionPatchOperation.{ProjectionPatchOperation}
use Rattle.projection_patch.specs.declared.patch.ProjectionPatchOperation.TheVariants.{SetBindingValue, SetNodeAvailability, CollectionInsert, CollectionUpdate, CollectionRemove, CollectionMove}
use Rattle.patch_part_writer.specs.declared.extent.TextPlace.{TextPlace}

-- an optional number is byte 0, or 1 and the number
abbrev pub before_size : code.Option CollectionKey → ℕ
before_size code.None = 1
before_size (code.Some k) = tagged_bytes

abbrev pub surface_size : code.Option StaticSurfaceId → ℕ
surface_size code.None = 1
surface_size (code.Some s) = tagged_bytes

-- a patch's envelope and its operation count
abbrev pub head_size : ProjectionPatch → ℕ
head_size p = 60 + surface_size p.envelope.surface_id

-- a kind, and what follows it
abbrev pub value_size : ProjectionPatchValue → ℕ
value_size (Quad q) = 2
value_size (SignedScalar z) = tagged_bytes
value_size (UnsignedScalar x) = tagged_bytes
value_size (Text start len) = 5 + len
value_size (Score n) = 2

abbrev pub operation_size : ProjectionPatchOperation → ℕ
operation_size (SetBindingValue t v) = past_slot + value_size v
operation_size (SetNodeAvailability n a) = 10
operation_size (CollectionInsert c k b v) = past_key + (before_size b + value_size v)
operation_size (CollectionUpdate c k v) = past_key + value_size v
operation_size (CollectionRemove c k) = past_key
operation_size (CollectionMove c k b) = past_key + before_size b

-- where a value's text stands; other values have the empty text at 0
abbrev pub value_text : ProjectionPatchValue → TextPlace
value_text (Quad q) = record { start = 0; len = 0 }
value_text (SignedScalar z) = record { start = 0; len = 0 }
value_text (UnsignedScalar x) = record { start = 0; len = 0 }
value_text (Text start len) = record { start = start; len = len }
value_text (Score n) = record { start = 0; len = 0 }

abbrev pub operation_text : ProjectionPatchOperation → TextPlace
operation_text (SetBindingValue t v) = value_text v
operation_text (SetNodeAvailability n a) = record { start = 0; len = 0 }
operation_text (CollectionInsert c k b v) = value_text v
operation_text (CollectionUpdate c k v) = value_text v
operation_text (CollectionRemove c k) = record { start = 0; len = 0 }
operation_text (CollectionMove c k b) = record { start = 0; len = 0 }

-- a text that stands within the texts, and keeps its capacity
pub record WithinTexts (texts : List ℕ) (t : TextPlace) : Type 0 where
  pub inside : t.start + t.len ≤ length texts
  pub short : t.len ≤ text_bytes
