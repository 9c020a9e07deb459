-- The entries of one collection among those of all: how many a row counts for, and the one at a position.
use Rattle.std.specs.Prelude.{ℕ, ◌≡◌, List, [], ◌∷◌, map, length, get_or}
use Rattle.std.proofs.Math.Option.{Option, none, some}
use Rattle.std.proofs.Math.ListN.{get_elem?}
use Rattle.spec_projection.specs.Projection.{Entry}
use Rattle.spec_projection.specs.Lookups.{KeyedValue, keyed_value, entries_in}
use Rattle.spec_projection.specs.Valid.{FitsEntry}
use Rattle.panel_rows.specs.Rows.{entry_row}
use Rattle.panel_rows.specs.Lookup.{no_value, found_value}
use Rattle.panel_lookups.specs.declared.positions.EntryLookup.{EntryLookup}
use Rattle.std.specs.Prelude as code
use Rattle.std.specs.Prelude.{Some, None}

-- 1 for an entry of the collection, 0 for another
abbrev pub counts_for : ℕ → Entry → ℕ
counts_for c e = length (entries_in c (e ∷ []))

-- the row at a position is that of the collection's n-th entry
pub record NthAt (c n : ℕ) (es : List Entry) (i : ℕ) : Type 0 where
  pub entry : Entry
  pub fits : FitsEntry entry
  pub row : get_or (map entry_row es) i [] ≡ entry_row entry
  pub is : get_elem? (entries_in c es) n ≡ some (keyed_value entry)

abbrev pub Nth : ℕ → ℕ → List Entry → code.Option ℕ → Type 0
Nth c n es (Some i) = NthAt c n es i
Nth c n es None = get_elem? (entries_in c es) n ≡ none

-- a key, and its value with the mark, or every field zero
unfoldable pub entry_lookup : Option KeyedValue → EntryLookup
entry_lookup none = record { key = 0; value = no_value }
entry_lookup (some x) = record { key = x.key; value = found_value x.mark x.value }
