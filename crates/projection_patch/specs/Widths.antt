-- How many bytes the fields of canonical bytes take, and how many of an operation stand before a field.
use Rattle.std.specs.Prelude.{ℕ, ◌+◌}

abbrev pub tag_bytes : ℕ
tag_bytes = 1

abbrev pub id_bytes : ℕ
id_bytes = 8

abbrev pub slot_bytes : ℕ
slot_bytes = 4

abbrev pub two_ids : ℕ
two_ids = id_bytes + id_bytes

abbrev pub three_ids : ℕ
three_ids = two_ids + id_bytes

-- a tag and a number behind it: a kind and an id, an optional id that is there, or a value that is a number
abbrev pub tagged_bytes : ℕ
tagged_bytes = tag_bytes + id_bytes

-- an operation up to the slot behind its node, and up to the key behind its collection
abbrev pub past_slot : ℕ
past_slot = tagged_bytes + slot_bytes

abbrev pub past_key : ℕ
past_key = tagged_bytes + id_bytes

-- an insertion up to its neighbour, where it has none and where it has one
abbrev pub past_no_neighbour : ℕ
past_no_neighbour = past_key + tag_bytes

abbrev pub past_neighbour : ℕ
past_neighbour = past_key + tagged_bytes
