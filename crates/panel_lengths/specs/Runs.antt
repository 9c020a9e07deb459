-- How often each collection stands in a list that has equal ones side by side, as rows of a plan have them.
use Rattle.std.specs.Prelude.{ℕ, zero, suc, ◌*◌, max, Bool, ◌&&◌, List, [], ◌∷◌, ◌++◌, map, leb, eqb, length, drop, if◌then◌else◌}
use Rattle.spec_patch.specs.Sizes.{projection_entries}
use Rattle.spec_lengths.specs.Lengths.{CollectionLength, length_record}
use Rattle.bytes_records.specs.Table.{table_bytes}
use Rattle.panel_rows.specs.Rows.{id_width, length_width, length_bytes, length_row, field_at}
use Rattle.panel_plan.specs.PlanRows.{planned_entry_width}

-- one more of a collection, in front of those that are counted
unfoldable pub count_one : ℕ → List CollectionLength → List CollectionLength
count_one c [] = length_record c 1 ∷ []
count_one c (x ∷ xs) = if eqb x.collection c then length_record c (suc x.length) ∷ xs else length_record c 1 ∷ x ∷ xs

-- a length for each run of one collection
unfoldable pub runs : List ℕ → List CollectionLength
runs [] = []
runs (c ∷ cs) = count_one c (runs cs)

-- how many of a list's first ones are that collection
unfoldable pub leading : ℕ → List ℕ → ℕ
leading c [] = 0
leading c (d ∷ ds) = if eqb d c then suc (leading c ds) else 0

-- the collections of so many rows of a plan, from one on
unfoldable pub collections_from : (from count : ℕ) → List ℕ → List ℕ
collections_from i zero plan = []
collections_from i (suc n) plan = field_at (i * planned_entry_width) id_width plan ∷ collections_from (suc i) n plan

-- ---- the table that is written

-- there is a place for each row and for each that was used, and the table is that of the lengths
unfoldable pub can_write_lengths : (count used : ℕ) → List ℕ → Bool
can_write_lengths count used to = leb count projection_entries && (leb used projection_entries && eqb (length to) length_bytes)

-- the lengths of the rows' runs, 0 in the other places of as many rows and of those that were used, and the rest as it was; another table is
-- left as it is
unfoldable pub written_lengths : (count used : ℕ) (plan to : List ℕ) → List ℕ
written_lengths count used plan to =
    if can_write_lengths count used to
    then table_bytes (max count used * length_width) (map length_row (runs (collections_from 0 count plan))) ++ drop (max count used * length_width) to
    else to
