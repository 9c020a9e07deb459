-- How a projection's records are stored: one row of bytes each, of one width for each table: the fields of its key, its mark, and its value. A
-- value is its canonical bytes, padded with zeros to the longest. Beside them each collection's length has a row.
use Rattle.std.specs.Prelude.{ℕ, ◌+◌, ◌-◌, ◌*◌, List, [], ◌∷◌, ◌++◌, leb, length, take, drop, get_or, if◌then◌else◌}
use Rattle.spec_lists.specs.Bytes.{number_of}
use Rattle.spec_patch.specs.Sizes.{text_bytes, projection_bindings, projection_availabilities, projection_entries}
use Rattle.spec_patch.specs.Patch.{Value}
use Rattle.spec_patch.specs.Encode.{u32, u64, encode_value, availability_byte}
use Rattle.spec_projection.specs.Projection.{Binding, NodeAvailability, Entry}
use Rattle.spec_lengths.specs.Lengths.{CollectionLength}
use Rattle.bytes_records.specs.Moves.{zeros}

-- ---- widths and offsets

-- a node's, a collection's or a key's id, and a slot
abbrev pub id_width : ℕ
id_width = 8

abbrev pub slot_width : ℕ
slot_width = 4

-- the id of the patch that last gave the value
abbrev pub mark_width : ℕ
mark_width = 8

-- the longest value: a kind, a length and a text
abbrev pub value_width : ℕ
value_width = 5 + text_bytes

-- a binding: a node, a slot, a mark and a value
abbrev pub binding_slot_at : ℕ
binding_slot_at = id_width

abbrev pub binding_mark_at : ℕ
binding_mark_at = binding_slot_at + slot_width

abbrev pub binding_value_at : ℕ
binding_value_at = binding_mark_at + mark_width

abbrev pub binding_width : ℕ
binding_width = binding_value_at + value_width

-- an availability: a node, a mark and a byte
abbrev pub availability_mark_at : ℕ
availability_mark_at = id_width

abbrev pub availability_at : ℕ
availability_at = availability_mark_at + mark_width

abbrev pub availability_width : ℕ
availability_width = availability_at + 1

-- an entry: a collection, a key, a mark and a value
abbrev pub entry_key_at : ℕ
entry_key_at = id_width

abbrev pub entry_mark_at : ℕ
entry_mark_at = entry_key_at + id_width

abbrev pub entry_value_at : ℕ
entry_value_at = entry_mark_at + mark_width

abbrev pub entry_width : ℕ
entry_width = entry_value_at + value_width

-- a number of entries
abbrev pub count_width : ℕ
count_width = 8

-- a length: a collection and its number of entries
abbrev pub length_at : ℕ
length_at = id_width

abbrev pub length_width : ℕ
length_width = length_at + count_width

-- the tables of a panel, in bytes; no more collections have a length than there are entries
abbrev pub binding_bytes : ℕ
binding_bytes = projection_bindings * binding_width

abbrev pub availability_bytes : ℕ
availability_bytes = projection_availabilities * availability_width

abbrev pub entry_bytes : ℕ
entry_bytes = projection_entries * entry_width

abbrev pub length_bytes : ℕ
length_bytes = projection_entries * length_width

-- ---- rows

-- a value's canonical bytes, and zeros behind them
unfoldable pub padded : Value → List ℕ
padded v = encode_value v ++ zeros (value_width - length (encode_value v))

unfoldable pub binding_row : Binding → List ℕ
binding_row b = u64 b.node ++ (u32 b.slot ++ (u64 b.mark ++ padded b.value))

unfoldable pub availability_row : NodeAvailability → List ℕ
availability_row a = u64 a.node ++ (u64 a.mark ++ (availability_byte a.availability ∷ []))

unfoldable pub entry_row : Entry → List ℕ
entry_row e = u64 e.collection ++ (u64 e.key ++ (u64 e.mark ++ padded e.value))

unfoldable pub length_row : CollectionLength → List ℕ
length_row x = u64 x.collection ++ u64 x.length

-- ---- what the fields of any bytes are

-- the number that so many bytes from an offset on spell, or as many of them as there are
abbrev pub field_at : (at size : ℕ) → List ℕ → ℕ
field_at at size row = number_of (take size (drop at row))

abbrev pub node_in : List ℕ → ℕ
node_in = field_at 0 id_width

abbrev pub slot_in : List ℕ → ℕ
slot_in = field_at binding_slot_at slot_width

abbrev pub collection_in : List ℕ → ℕ
collection_in = field_at 0 id_width

abbrev pub key_in : List ℕ → ℕ
key_in = field_at entry_key_at id_width

-- the mark of a binding, of an availability and of an entry
abbrev pub binding_mark_in : List ℕ → ℕ
binding_mark_in = field_at binding_mark_at mark_width

abbrev pub availability_mark_in : List ℕ → ℕ
availability_mark_in = field_at availability_mark_at mark_width

abbrev pub entry_mark_in : List ℕ → ℕ
entry_mark_in = field_at entry_mark_at mark_width

-- the byte of an availability, or 0
abbrev pub availability_in : List ℕ → ℕ
availability_in row = get_or row availability_at 0

-- the sizes of the fields that bindings and availabilities are ordered by
abbrev pub binding_fields : List ℕ
binding_fields = id_width ∷ slot_width ∷ []

abbrev pub availability_fields : List ℕ
availability_fields = id_width ∷ []

-- ---- rows that are written

-- the fields before the value, its bytes, and zeros behind them
unfoldable pub filled_row : (width : ℕ) (key value : List ℕ) → List ℕ
filled_row width key value = key ++ (value ++ zeros (width - (length key + length value)))

-- the row filled; one that has no place for both is left as it is
unfoldable pub written_row : (key value : List ℕ) → List ℕ → List ℕ
written_row key value row = if leb (length key + length value) (length row) then filled_row (length row) key value else row
