-- A state stores at most one projection, and a projection is stored by exactly one state.
use Rattle.std.specs.Prelude.{ℕ, ◌-◌, ◌*◌, ◌≤◌, ◌≡◌, refl}
use Rattle.std.proofs.Common.{sym, ◌∙◌, subst, arith, length-append}
use Rattle.std.proofs.Math.Path.{ap}
use mathlib.Core.List.{List, [], ◌∷◌, map, flatten, cons≢nil, head-eq_of_cons-eq, tail-eq_of_cons-eq}
use Rattle.std.proofs.Math.Nat.{mul-le-mul_right}
use Rattle.std.proofs.Math.ListN.{length}
use Rattle.std.proofs.lemmas.List.{length-replicate, length-map}
use Rattle.spec_lists.specs.Lists.{All}
use Rattle.spec_patch.specs.Sizes.{projection_bindings, projection_availabilities, projection_entries}
use Rattle.spec_lists.specs.Order.{sort_unique}
use Rattle.spec_projection.specs.Projection.{Entry, Projection, empty}
use Rattle.spec_projection.specs.Valid.{FitsBinding, FitsNodeAvailability, FitsEntry, Valid}
use Rattle.spec_projection.proofs.ValidLaws.{empty_valid}
use Rattle.spec_projection.proofs.Determined.{projection_equal}
use Rattle.spec_lengths.specs.Lengths.{collections_in, lengths_in, collection_lengths, FitsLength}
use Rattle.spec_lengths.proofs.LengthsLaws.{few_lengths, lengths_fit}
use Rattle.bytes_records.specs.Moves.{zeros}
use Rattle.bytes_records.specs.Table.{Wide, table_bytes, HoldsRows}
use Rattle.bytes_records.specs.TableLaws.{length_flatten, holds, holds_none, holds_unique, holds_bytes}
use Rattle.panel_rows.specs.Rows.{binding_width, availability_width, entry_width, length_width, binding_bytes, availability_bytes, entry_bytes, length_bytes, binding_row, availability_row, entry_row, length_row}
use Rattle.panel_rows.specs.RowsLaws.{binding_wide, availability_wide, entry_wide, length_wide, binding_tells, availability_tells, entry_tells, length_tells}
use Rattle.local_projection_state.specs.Stores.{Stored, StoredTables, StoredLengths, Stores, stored_state}
use Rattle.local_projection_state.specs.declared.LocalProjectionState.{LocalProjectionState}

-- ---- one table

module _ {A : Type 0} (row : A → List ℕ) (Fits : A → Type 0) (width : ℕ) (wide : (a : A) → Fits a → Wide width (row a)) (tells : (a b : A) → Fits a → Fits b → row a ≡ row b → a ≡ b) where
  -- rows of elements that fit are as wide as the table's
  pub all_wide : (l : List A) → All Fits l → All (Wide width) (map row l)
  all_wide [] h = tt
  all_wide (a ∷ l) h = (wide a h.0, all_wide l h.1)

  -- rows tell their elements
  rows_tell : (l m : List A) → All Fits l → All Fits m → map row l ≡ map row m → l ≡ m
  rows_tell [] [] g h e = refl
  rows_tell [] (b ∷ m) g h e = absurd (cons≢nil (sym e))
  rows_tell (a ∷ l) [] g h e = absurd (cons≢nil e)
  rows_tell (a ∷ l) (b ∷ m) g h e =
      let first = tells a b g.0 h.0 (head-eq_of_cons-eq e) in
      let others = rows_tell l m g.1 h.1 (tail-eq_of_cons-eq e) in
      cc

  one_list : (capacity count : ℕ) (table : List ℕ) (l m : List A) → All Fits l → All Fits m
      → Stored row width capacity count table l → Stored row width capacity count table m → l ≡ m
  one_list capacity count table l m g h s t = rows_tell l m g h (holds_unique width count table (map row l) (map row m) s.rows t.rows)

  pub table_stored : (capacity : ℕ) (l : List A) → All Fits l → length l ≤ capacity → Stored row width capacity (length l) (table_bytes (capacity * width) (map row l)) l
  unfolding table_bytes
  table_stored capacity l g few =
      let rows = map row l in
      let used : length (flatten rows) ≡ length l * width = length_flatten width rows (all_wide l g) ∙ ap (λ (n : ℕ). n * width) (length-map l row) in
      let room : length l * width ≤ capacity * width = mul-le-mul_right width few in
      let whole : length (table_bytes (capacity * width) rows) ≡ capacity * width = simp (length-append, length-replicate) (omega arith) in
      record {
        size = whole;
        rows = holds width (length l) (table_bytes (capacity * width) rows) rows (capacity * width - length (flatten rows)) (all_wide l g) (length-map l row) refl;
      }

-- the rows determine the count and every byte
module _ {A : Type 0} (row : A → List ℕ) (width capacity : ℕ) {n m : ℕ} {t u : List ℕ} {l : List A} (s : Stored row width capacity n t l) (v : Stored row width capacity m u l) where
  one_count : n ≡ m
  one_count = sym s.rows.counted ∙ v.rows.counted

  one_table : t ≡ u
  one_table = holds_bytes width m t u (map row l) (subst (λ (k : ℕ). HoldsRows width k t (map row l)) one_count s.rows) v.rows (s.size ∙ sym v.size)

-- ---- the three tables

-- a state stores at most one projection
pub one_projection : (s : LocalProjectionState) (p q : Projection) → Stores s p → Stores s q → p ≡ q
one_projection s p q g' h' =
    let g = g'.tables in
    let h = h'.tables in
    projection_equal p q
    (one_list binding_row FitsBinding binding_width binding_wide binding_tells _ _ _ p.bindings q.bindings g.valid.fit_bindings h.valid.fit_bindings g.bindings h.bindings)
    (one_list availability_row FitsNodeAvailability availability_width availability_wide availability_tells _ _ _ p.availabilities q.availabilities g.valid.fit_availabilities h.valid.fit_availabilities g.availabilities h.availabilities)
    (one_list entry_row FitsEntry entry_width entry_wide entry_tells _ _ _ p.entries q.entries g.valid.fit_entries h.valid.fit_entries g.entries h.entries)

-- two states that store a projection are one
pub one_state : (p : Projection) (s t : LocalProjectionState) → Stores s p → Stores t p → s ≡ t
one_state p s t g' h' =
    let g = g'.tables in
    let h = h'.tables in
    let lengths = one_table length_row length_width projection_entries g'.lengths h'.lengths in
    let bindings = one_table binding_row binding_width projection_bindings g.bindings h.bindings in
    let availabilities = one_table availability_row availability_width projection_availabilities g.availabilities h.availabilities in
    let entries = one_table entry_row entry_width projection_entries g.entries h.entries in
    λ i. record {
      counts = record {
        bindings = one_count binding_row binding_width projection_bindings g.bindings h.bindings i;
        availabilities = one_count availability_row availability_width projection_availabilities g.availabilities h.availabilities i;
        entries = one_count entry_row entry_width projection_entries g.entries h.entries i;
      };
      bindings = bindings i;
      availability = availabilities i;
      entries = entries i;
      lengths = lengths i;
    }

-- the lengths of the collections of entries that a projection may have
pub lengths_stored : (es : List Entry) → All FitsEntry es → length es ≤ projection_entries → StoredLengths (table_bytes length_bytes (map length_row (lengths_in es))) (lengths_in es)
lengths_stored es fit few = table_stored length_row FitsLength length_width length_wide length_tells projection_entries (lengths_in es) (lengths_fit es fit few) (omega (arith, few_lengths es))

-- and there is one
pub some_state : (p : Projection) → Valid p → Stores (stored_state p) p
unfolding stored_state collection_lengths
some_state p v = record {
  tables = record {
    bindings = table_stored binding_row FitsBinding binding_width binding_wide binding_tells projection_bindings p.bindings v.fit_bindings v.few_bindings;
    availabilities = table_stored availability_row FitsNodeAvailability availability_width availability_wide availability_tells projection_availabilities p.availabilities v.fit_availabilities v.few_availabilities;
    entries = table_stored entry_row FitsEntry entry_width entry_wide entry_tells projection_entries p.entries v.fit_entries v.few_entries;
    valid = v;
  };
  lengths = lengths_stored p.entries v.fit_entries v.few_entries;
}

-- ---- the empty projection

none_stored : {A : Type 0} (row : A → List ℕ) (width capacity : ℕ) → Stored row width capacity 0 (zeros (capacity * width)) []
none_stored row width capacity = record { size = length-replicate (capacity * width) 0; rows = holds_none width (capacity * width) }

empty_tables : StoredTables (record { bindings = 0; availabilities = 0; entries = 0 })
    (zeros binding_bytes) (zeros availability_bytes) (zeros entry_bytes) empty
unfolding empty
empty_tables = record {
  bindings = none_stored binding_row binding_width projection_bindings;
  availabilities = none_stored availability_row availability_width projection_availabilities;
  entries = none_stored entry_row entry_width projection_entries;
  valid = empty_valid;
}

pub empty_stored : Stores (record { counts = record { bindings = 0; availabilities = 0; entries = 0 }; bindings = zeros binding_bytes; availability = zeros availability_bytes; entries = zeros entry_bytes; lengths = zeros length_bytes }) empty
unfolding empty collection_lengths lengths_in collections_in sort_unique
empty_stored = record { tables = empty_tables; lengths = none_stored length_row length_width projection_entries }
