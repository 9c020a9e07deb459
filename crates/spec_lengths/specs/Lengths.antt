-- Each collection's length, kept with the collection: 02, Job 3. A collection without entries has no row, and reads 0.
use Rattle.std.specs.Prelude.{ℕ, zero, suc, ◌+◌, ◌-◌, ◌≤◌, List, [], ◌∷◌, map, eqb, length, if◌then◌else◌}
use Rattle.std.proofs.Math.Option
use Rattle.std.proofs.Math.Option.{Option}
use Rattle.spec_lists.specs.Lists.{or_zero}
use Rattle.spec_lists.specs.Order.{upsert, sort_unique, lookup}
use Rattle.spec_patch.specs.Fits.{U64}
use Rattle.spec_patch.specs.Patch.{Operation, set_binding, set_availability, insert, update, remove, move}
use Rattle.spec_projection.specs.Projection.{Entry, Projection}
use Rattle.spec_projection.specs.Lookups.{entries_in}
use Rattle.spec_projection.specs.Apply.{ReplayStep}

-- a collection, and how many entries it has
pub record CollectionLength : Type 0 where
  pub collection : ℕ
  pub length : ℕ

abbrev pub length_record : ℕ → ℕ → CollectionLength
length_record c n = record { collection = c; length = n }

-- lengths by collection
unfoldable pub length_key : CollectionLength → List ℕ
length_key x = x.collection ∷ []

-- the collections that have entries, ascending
unfoldable pub collections_in : List Entry → List ℕ
collections_in es = sort_unique (λ (c : ℕ). c ∷ []) (map (λ (e : Entry). e.collection) es)

-- each of them with its number of entries
unfoldable pub lengths_in : List Entry → List CollectionLength
lengths_in es = map (λ (c : ℕ). length_record c (length (entries_in c es))) (collections_in es)

-- what is stored beside a projection's lists
unfoldable pub collection_lengths : Projection → List CollectionLength
collection_lengths p = lengths_in p.entries

-- ---- one length told, and one set

-- a collection's stored length, or none
unfoldable pub length_found : ℕ → List CollectionLength → Option ℕ
length_found c l = Option.map (λ (x : CollectionLength). x.length) (lookup length_key (c ∷ []) l)

-- a collection's length: 0 where none is stored
unfoldable pub length_of : ℕ → List CollectionLength → ℕ
length_of c l = or_zero (length_found c l)

-- without a collection's row
unfoldable pub without_length : ℕ → List CollectionLength → List CollectionLength
without_length c [] = []
without_length c (x ∷ xs) = if eqb x.collection c then without_length c xs else x ∷ without_length c xs

-- a collection's length set; at 0 it has no row
unfoldable pub with_length : ℕ → ℕ → List CollectionLength → List CollectionLength
with_length c zero l = without_length c l
with_length c (suc n) l = upsert length_key (length_record c (suc n)) l

-- ---- after an operation that applies

-- an insert counts one more, a removal one less, and nothing else counts
unfoldable pub lengths_after : Operation → List CollectionLength → List CollectionLength
lengths_after (set_binding node slot v) l = l
lengths_after (set_availability node a) l = l
lengths_after (insert c k before v) l = with_length c (length_of c l + 1) l
lengths_after (update c k v) l = l
lengths_after (remove c k) l = with_length c (length_of c l - 1) l
lengths_after (move c k before) l = l

-- after steps that all apply
unfoldable pub lengths_after_steps : List ReplayStep → List CollectionLength → List CollectionLength
lengths_after_steps [] l = l
lengths_after_steps (s ∷ ss) l = lengths_after_steps ss (lengths_after s.operation l)

-- ---- what a row may hold

-- a collection is a u64, and so is a length, which is never 0
pub record FitsLength (x : CollectionLength) : Type 0 where
  pub collection : U64 x.collection
  pub length : U64 x.length
  pub some : 1 ≤ x.length
