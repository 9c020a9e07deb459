-- A list of findings put into a table, one after the other.
use Rattle.std.specs.Prelude.{ℕ, List, [], ◌∷◌}
use Rattle.spec_checks.specs.Finding.{Finding}
use Rattle.check_table.specs.FindingTable.{inserted_count, inserted_numbers}

-- how many records there are then, and the whole list of numbers
unfoldable pub inserted_all : List Finding → ℕ → List ℕ → ℕ × List ℕ
inserted_all [] count ns = (count, ns)
inserted_all (f ∷ fs) count ns = inserted_all fs (inserted_count f count ns) (inserted_numbers f count ns)
