-- The first fields of a line.
use Rattle.std.specs.Prelude.{ℕ, List, [], ◌∷◌, ◌++◌}
use Rattle.bytes_printer.specs.Prints.{spaced_field}

-- fields with a tab before each, where the line goes on
unfoldable pub open_fields : List (List ℕ) → List ℕ
open_fields [] = []
open_fields (f ∷ fs) = spaced_field f ++ open_fields fs
