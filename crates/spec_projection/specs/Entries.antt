-- The stored entries of all collections: one found, inserted, replaced or removed. 01, 'Projection'.
use Rattle.std.specs.Prelude.{ℕ, Bool, true, ◌&&◌, List, ltb, eqb}
use Rattle.std.proofs.Math.Option.{Option, none, some}
use Rattle.spec_lists.specs.Lists.{any}
use Rattle.spec_projection.specs.Projection.{Entry}
use Rattle.spec_projection.specs.FirstMatch.{insert_before_first, replace_first, remove_first}

-- the entry of that collection and key
unfoldable pub is_entry : ℕ → ℕ → Entry → Bool
is_entry c k e = eqb e.collection c && eqb e.key k

-- an entry of a later collection
unfoldable pub is_later : ℕ → Entry → Bool
is_later c e = ltb c e.collection

-- the collection has the key
unfoldable pub contains : ℕ → ℕ → List Entry → Bool
contains c k es = any (is_entry c k) es

-- the collection has the neighbour, if one is named
unfoldable pub contains_neighbour : ℕ → Option ℕ → List Entry → Bool
contains_neighbour c none es = true
contains_neighbour c (some k) es = contains c k es

-- last of its collection: before the first entry of a later one
unfoldable pub insert_last : Entry → List Entry → List Entry
insert_last e es = insert_before_first (is_later e.collection) e es

-- before the neighbour, the entry of that key in its collection
unfoldable pub insert_before : ℕ → Entry → List Entry → List Entry
insert_before k e es = insert_before_first (is_entry e.collection k) e es

-- before the neighbour, or last
unfoldable pub insert_entry : Option ℕ → Entry → List Entry → List Entry
insert_entry none e es = insert_last e es
insert_entry (some k) e es = insert_before k e es

-- in the place of the entry of its collection and key
unfoldable pub replace_entry : Entry → List Entry → List Entry
replace_entry e es = replace_first (is_entry e.collection e.key) e es

-- without the entry of that collection and key
unfoldable pub remove_entry : ℕ → ℕ → List Entry → List Entry
remove_entry c k es = remove_first (is_entry c k) es
