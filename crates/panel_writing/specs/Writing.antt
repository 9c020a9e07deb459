-- The bytes that a plan's rows are written as, from any bytes of the plan, of the table before the batch and of the set.
use Rattle.std.specs.Prelude.{ℕ, zero, suc, ◌+◌, ◌-◌, ◌*◌, ◌≤◌, ◌<◌, max, ◌≡◌, Bool, false, ◌&&◌, List, [], ◌∷◌, ◌++◌, ltb, leb, eqb, length, take, drop, if◌then◌else◌}
use Rattle.spec_patch.specs.Sizes.{projection_availabilities, projection_entries}
use Rattle.spec_patch.specs.Patch.{Value}
use Rattle.spec_patch.specs.Edition.{Edition}
use Rattle.spec_patch.specs.Reader.{Result, read, refused}
use Rattle.spec_patch.specs.Read.{read_value_by}
use Rattle.bytes_records.specs.Moves.{zeros, overwrite_rows}
use Rattle.bytes_records.specs.Table.{table_bytes}
use Rattle.panel_rows.specs.Rows.{value_width, availability_width, availability_bytes, field_at, written_row}
use Rattle.panel_plan.specs.PlanRows.{source_width}

-- row i of a table of rows so wide
abbrev pub row_at : (width i : ℕ) → List ℕ → List ℕ
row_at width i table = take width (drop (i * width) table)

-- the bytes of a value that was read from a position of a set on
abbrev pub bytes_read : List ℕ → ℕ → Result Value → List ℕ
bytes_read set at (read v rest) = drop at (take (length set - length rest) set)
bytes_read set at (refused fault) = []

-- the bytes of the value that begins at a position of a set
unfoldable pub value_bytes : Edition → List ℕ → ℕ → List ℕ
value_bytes ed set at = bytes_read set at (read_value_by false ed (drop at set))

-- what becomes of a row of the new table by its source, or of some rows by the source of the first: rows of the table before the batch from
-- that one on, as they are; or the ids and the mark, and a value of the set
unfoldable pub source_row : Edition → (key : ℕ) (front from set : List ℕ) → ℕ → List ℕ → List ℕ
source_row ed key front from set n old =
    if ltb n projection_entries then overwrite_rows (take (length old) (drop (n * (key + value_width)) from)) old else written_row front (value_bytes ed set (n - projection_entries)) old

-- the same by the plan's row
unfoldable pub planned_row : Edition → (key : ℕ) (row from set old : List ℕ) → List ℕ
planned_row ed key row from set old = source_row ed key (take key row) from set (field_at key source_width row) old

-- n rows of a plan, from the i-th on, that one copy writes: their sources follow each other in the table before the batch
abbrev pub RowRun : (key : ℕ) (plan : List ℕ) (i source n : ℕ) → Type 0
RowRun key plan i source n = (k : ℕ) → 1 ≤ k → k < n → (field_at key source_width (row_at (key + source_width) (i + k) plan) ≡ source + k) × (source + k < projection_entries)

-- row i of the new table
unfoldable pub new_row : Edition → (key : ℕ) (plan from set to : List ℕ) → ℕ → List ℕ
new_row ed key plan from set to i = planned_row ed key (row_at (key + source_width) i plan) from set (row_at (key + value_width) i to)

-- the first n rows
unfoldable pub rows_to : (ℕ → List ℕ) → ℕ → List (List ℕ)
rows_to row zero = []
rows_to row (suc n) = rows_to row n ++ (row n ∷ [])

-- ---- the new table

-- it is a table of so many places, and has one for each row and for each that was used
unfoldable pub can_write : (key capacity count used : ℕ) → List ℕ → Bool
can_write key capacity count used to = leb count capacity && (leb used capacity && eqb (length to) (capacity * (key + value_width)))

-- the bytes of the places that are used now, or were
abbrev pub used_bytes : (key count used : ℕ) → ℕ
used_bytes key count used = max count used * (key + value_width)

-- the rows, 0 in every place that was used and is used no more, and the rest as it was; another table is left as it is
unfoldable pub written_table : Edition → (key capacity count used : ℕ) (plan from set to : List ℕ) → List ℕ
written_table ed key capacity count used plan from set to =
    if can_write key capacity count used to
    then table_bytes (used_bytes key count used) (rows_to (new_row ed key plan from set (take (used_bytes key count used) to)) count) ++ drop (used_bytes key count used) to
    else to

-- nothing stands behind so many rows of such a width
abbrev pub ClearBehind : (used width : ℕ) → List ℕ → Type 0
ClearBehind used width to = drop (used * width) to ≡ zeros (length to - used * width)

-- ---- a table that is copied

-- both are tables of the availabilities, and have a place for each row and for each that was used
unfoldable pub can_copy : (count used : ℕ) (plan to : List ℕ) → Bool
can_copy count used plan to = leb count projection_availabilities && (leb used projection_availabilities && (eqb (length plan) availability_bytes && eqb (length to) availability_bytes))

-- the places that are used now, or were, and the rest as it was; another table is left as it is
unfoldable pub copied_table : (count used : ℕ) (plan to : List ℕ) → List ℕ
copied_table count used plan to = if can_copy count used plan to then take (max count used * availability_width) plan ++ drop (max count used * availability_width) to else to
