-- Every definition that the bytes of a set are told by, opened at once: a proof that computes with sets says `unfolding opened_sets`.
use mathlib.Core.List
use Rattle.spec_lists.specs.Order
use Rattle.spec_lists.specs.Bytes
use Rattle.spec_text.specs.Scalars
use Rattle.spec_patch.specs.Edition
use Rattle.spec_patch.specs.Encode
use Rattle.spec_patch.specs.Fits
use Rattle.spec_patch.specs.Reader
use Rattle.spec_patch.specs.Read
use Rattle.spec_patch.specs.Write

unfoldable pub opened_sets : Unit {0}
unfolding
    mathlib.Core.List.flat_map
    Rattle.spec_lists.specs.Order.lex_less
    Rattle.spec_lists.specs.Order.upsert
    Rattle.spec_lists.specs.Order.sort_unique
    Rattle.spec_lists.specs.Order.lookup
    Rattle.spec_lists.specs.Bytes.little_endian
    Rattle.spec_lists.specs.Bytes.number_of
    Rattle.spec_text.specs.Scalars.encode_scalar
    Rattle.spec_text.specs.Scalars.encode_scalars
    Rattle.spec_patch.specs.Edition.edition_digit
    Rattle.spec_patch.specs.Edition.letters
    Rattle.spec_patch.specs.Edition.added_kinds
    Rattle.spec_patch.specs.Edition.kinds
    Rattle.spec_patch.specs.Edition.has_kind
    Rattle.spec_patch.specs.Encode.encode_optional
    Rattle.spec_patch.specs.Encode.quad_byte
    Rattle.spec_patch.specs.Encode.availability_byte
    Rattle.spec_patch.specs.Encode.encode_text
    Rattle.spec_patch.specs.Encode.kind_of
    Rattle.spec_patch.specs.Encode.value_body
    Rattle.spec_patch.specs.Encode.encode_value
    Rattle.spec_patch.specs.Encode.encode_operation
    Rattle.spec_patch.specs.Encode.encode_envelope
    Rattle.spec_patch.specs.Encode.encode_counted
    Rattle.spec_patch.specs.Encode.encode_patch
    Rattle.spec_patch.specs.Encode.heading
    Rattle.spec_patch.specs.Encode.encode
    Rattle.spec_patch.specs.Fits.OptionalU64
    Rattle.spec_patch.specs.Fits.InRangeValue
    Rattle.spec_patch.specs.Fits.OperationHolds
    Rattle.spec_patch.specs.Fits.StorableBy
    Rattle.spec_patch.specs.Reader.fault_number
    Rattle.spec_patch.specs.Reader.many
    Rattle.spec_patch.specs.Reader.literal
    Rattle.spec_patch.specs.Read.optional_after
    Rattle.spec_patch.specs.Read.read_optional
    Rattle.spec_patch.specs.Read.quad_after
    Rattle.spec_patch.specs.Read.read_quad
    Rattle.spec_patch.specs.Read.availability_after
    Rattle.spec_patch.specs.Read.read_availability
    Rattle.spec_patch.specs.Read.read_text_by
    Rattle.spec_patch.specs.Read.value_after
    Rattle.spec_patch.specs.Read.in_edition
    Rattle.spec_patch.specs.Read.read_value_by
    Rattle.spec_patch.specs.Read.operation_after
    Rattle.spec_patch.specs.Read.read_operation_by
    Rattle.spec_patch.specs.Read.read_envelope
    Rattle.spec_patch.specs.Read.read_patch
    Rattle.spec_patch.specs.Read.read_patches
    Rattle.spec_patch.specs.Read.ended
    Rattle.spec_patch.specs.Read.read_set
    Rattle.spec_patch.specs.Write.write_number
    Rattle.spec_patch.specs.Write.value_passes
    Rattle.spec_patch.specs.Write.all_values
    Rattle.spec_patch.specs.Write.short_enough
    Rattle.spec_patch.specs.Write.within_capacities
    Rattle.spec_patch.specs.Write.allowed_value
    Rattle.spec_patch.specs.Write.well_formed
    Rattle.spec_patch.specs.Write.few_enough
    Rattle.spec_patch.specs.Write.write
opened_sets = tt
