-- The bytes of a part of a patch list are as many as its extent says, where its text stands within the texts.
use Rattle.std.specs.Prelude as code
use Rattle.projection_patch.specs.declared.contract_primitives.StaticSurfaceId.{StaticSurfaceId}
use Rattle.projection_patch.specs.declared.contract_primitives.CollectionKey.{CollectionKey}
use Rattle.std.specs.Prelude.{ℕ, ◌+◌, ◌≤◌, ◌≡◌, refl, List, ◌++◌, length, take, drop}
use Rattle.std.proofs.Common.{arith, length-append, length-drop, length-take-le}
use Rattle.spec_lists.proofs.BytesLaws.{length_little_endian}
use Rattle.spec_patch.specs.Sizes.{text_bytes}
use Rattle.spec_patch.specs.Edition.{Edition, letters}
use Rattle.spec_patch.specs.Encode.{u32, encode_optional, encode_text, kind_of, value_body, encode_value, encode_operation, encode_envelope, heading}
use Rattle.projection_patch.specs.Widths.{tagged_bytes}
use Rattle.projection_patch.specs.Meaning.{before_of, surface_of, value_of, operation_of, envelope_of}
use Rattle.projection_patch.specs.declared.patch.ProjectionPatch.{ProjectionPatch}
use Rattle.projection_patch.specs.declared.patch.ProjectionPatchValue.{ProjectionPatchValue}
use Rattle.projection_patch.specs.declared.patch.ProjectionPatchValue.TheVariants.{Quad, SignedScalar, UnsignedScalar, Text, Score}
use Rattle.projection_patch.specs.declared.patch.ProjectionPatchOperation.{ProjectionPatchOperation}
use Rattle.projection_patch.specs.declared.patch.ProjectionPatchOperation.TheVariants.{SetBindingValue, SetNodeAvailability, CollectionInsert, CollectionUpdate, CollectionRemove, CollectionMove}
use Rattle.patch_part_writer.specs.Extent.{before_size, surface_size, head_size, value_size, operation_size, value_text, operation_text}

pub length_before : (b : code.Option CollectionKey) → length (encode_optional (before_of b)) ≡ before_size b
unfolding encode_optional
length_before code.None = refl
length_before (code.Some k) = simp length_little_endian

pub length_surface : (s : code.Option StaticSurfaceId) → length (encode_optional (surface_of s)) ≡ surface_size s
unfolding encode_optional
length_surface code.None = refl
length_surface (code.Some s) = simp length_little_endian

pub length_heading : (ed : Edition) (count : ℕ) → length (heading ed ++ u32 count) ≡ 35
unfolding heading letters
length_heading ed count = simp (length-append, length_little_endian)

pub length_head : (p : ProjectionPatch) → length (encode_envelope (envelope_of p.envelope) ++ u32 p.operation_count) ≡ head_size p
unfolding encode_envelope
length_head p = simp (length-append, length_little_endian) (omega (arith, length_surface p.envelope.surface_id))

-- the text of a place within the texts has the length that is stated
pub length_text : (texts : List ℕ) (start len : ℕ) → start + len ≤ length texts → length (take len (drop start texts)) ≡ len
length_text texts start len inside = length-take-le len (drop start texts) (omega (arith, length-drop start texts))

pub length_value : (texts : List ℕ) (v : ProjectionPatchValue) → (value_text v).start + (value_text v).len ≤ length texts → length (encode_value (value_of texts v)) ≡ value_size v
unfolding encode_value kind_of value_body encode_text
length_value texts (Quad q) inside = refl
length_value texts (SignedScalar z) inside = simp length_little_endian
length_value texts (UnsignedScalar x) inside = simp length_little_endian
length_value texts (Text start len) inside =
    let t = take len (drop start texts) in
    omega (arith, length-append (u32 (length t)) t, length_little_endian 4 (length t), length_text texts start len inside)
length_value texts (Score n) inside = refl

pub length_operation : (texts : List ℕ) (o : ProjectionPatchOperation) → (operation_text o).start + (operation_text o).len ≤ length texts → length (encode_operation (operation_of texts o)) ≡ operation_size o
unfolding encode_operation
length_operation texts (SetBindingValue t v) inside = simp (length-append, length_little_endian) (omega (arith, length_value texts v inside))
length_operation texts (SetNodeAvailability n a) inside = simp (length-append, length_little_endian)
length_operation texts (CollectionInsert c k b v) inside = simp (length-append, length_little_endian) (omega (arith, length_before b, length_value texts v inside))
length_operation texts (CollectionUpdate c k v) inside = simp (length-append, length_little_endian) (omega (arith, length_value texts v inside))
length_operation texts (CollectionRemove c k) inside = simp (length-append, length_little_endian)
length_operation texts (CollectionMove c k b) inside = simp (length-append, length_little_endian) (omega (arith, length_before b))

-- what an operation takes at most
pub before_small : (b : code.Option CollectionKey) → before_size b ≤ tagged_bytes
before_small code.None = omega arith
before_small (code.Some k) = omega arith

pub surface_small : (s : code.Option StaticSurfaceId) → surface_size s ≤ tagged_bytes
surface_small code.None = omega arith
surface_small (code.Some s) = omega arith

pub value_small : (v : ProjectionPatchValue) → (value_text v).len ≤ text_bytes → value_size v ≤ 5 + text_bytes
value_small (Quad q) short = omega arith
value_small (SignedScalar z) short = omega arith
value_small (UnsignedScalar x) short = omega arith
value_small (Text start len) short = omega arith
value_small (Score n) short = omega arith

pub operation_small : (o : ProjectionPatchOperation) → (operation_text o).len ≤ text_bytes → operation_size o ≤ 31 + text_bytes
operation_small (SetBindingValue t v) short = omega (arith, value_small v short)
operation_small (SetNodeAvailability n a) short = omega arith
operation_small (CollectionInsert c k b v) short = omega (arith, before_small b, value_small v short)
operation_small (CollectionUpdate c k v) short = omega (arith, value_small v short)
operation_small (CollectionRemove c k) short = omega arith
operation_small (CollectionMove c k b) short = omega (arith, before_small b)
