-- The rows of a table of lengths, read by their places.
use Rattle.std.specs.Prelude.{ℕ, ◌+◌, ◌*◌, List}
use Rattle.spec_lengths.specs.Lengths.{CollectionLength, length_record}
use Rattle.panel_rows.specs.Rows.{id_width, count_width, length_at, length_width, field_at}

-- the collection of a row
abbrev pub collection_at : ℕ → List ℕ → ℕ
collection_at i table = field_at (i * length_width) id_width table

-- its length; 0 behind the last row
abbrev pub entries_at : ℕ → List ℕ → ℕ
entries_at i table = field_at (i * length_width + length_at) count_width table

-- what stands behind the last row
abbrev pub no_length : CollectionLength
no_length = length_record 0 0
