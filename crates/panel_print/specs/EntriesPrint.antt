-- The print of the entries of one collection, row by row.
use Rattle.std.specs.Prelude.{ℕ}
use mathlib.Core.List.{List, [], ◌∷◌, flat_map}
use Rattle.spec_projection.specs.Projection.{Entry}
use Rattle.spec_projection.specs.Lookups.{KeyedValue, entries_in}
use Rattle.spec_panel_print.specs.Print.{entry_lines, line_octets}

-- the bytes of an entry's lines
unfoldable pub entry_print : KeyedValue → List ℕ
entry_print e = flat_map line_octets (entry_lines e)

-- what a row adds to the print of a collection: its entry's lines if it is one of the collection
unfoldable pub row_print : ℕ → Entry → List ℕ
row_print c e = flat_map entry_print (entries_in c (e ∷ []))
