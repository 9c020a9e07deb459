-- Lookups of the model, by the place or the position that a search in a table found.
use Prim.Native.Nat.{ℕ}
use mathlib.Core.Path.{◌≡◌, sym, ap, ◌∙◌}
use mathlib.Core.List.{List, [], ◌∷◌, map}
use mathlib.Core.Option
use mathlib.Core.Option.{Option, none, some}
use lib.ListN.{drop, get_or}
use Rattle.spec_lists.proofs.ListLaws.{all_map}
use Rattle.spec_patch.specs.Patch.{Value}
use Rattle.spec_patch.specs.Fits.{Storable}
use Rattle.spec_projection.specs.Projection.{Binding, NodeAvailability, Entry, Projection, binding_key, availability_key}
use Rattle.spec_projection.proofs.FirstMatchLaws.{find_first_all}
use Rattle.spec_projection.specs.Entries.{is_entry}
use Rattle.spec_projection.specs.Lookups.{binding_of, binding_mark, availability_of, availability_mark, entry_of, entry_mark}
use Rattle.spec_projection.specs.Valid.{FitsBinding, FitsNodeAvailability, FitsEntry, Valid}
use Rattle.bytes_records.specs.Keys.{leading_numbers}
use Rattle.bytes_records.specs.Search.{place_of, find_first_row}
use Rattle.bytes_records.specs.SearchLaws.{place_map, find_absent}
use Rattle.panel_rows.specs.Rows.{binding_value_at, entry_value_at, padded, binding_row, availability_row, entry_row, binding_mark_in, entry_mark_in, binding_fields, availability_fields}
use Rattle.panel_rows.specs.RowsLaws.{binding_key_lem, binding_mark_lem, availability_key_lem, entry_mark_lem, binding_behind, entry_behind}
use Rattle.panel_entries.specs.PlacesLaws.{found_at, found_none}
use Rattle.panel_rows.specs.Lookup.{no_value, found_value, value_lookup, availability_lookup}
use Rattle.panel_rows.specs.declared.values.ValueLookup.{ValueLookup}
use Rattle.panel_rows.specs.declared.values.AvailabilityLookup.{AvailabilityLookup}
use Rattle.panel_lookups.specs.LookupLaws.{place_taken, place_before}
use Rattle.std.specs.Prelude as code
use Rattle.std.specs.Prelude.{Some, None, Result, Ok, Err}

-- what reading a row's value answers, told with a mark
abbrev pub ReadsAt : (at mark : ℕ) → List ℕ → ValueLookup → Type 0
ReadsAt at mark row r = (v : Value) → Storable v → drop at row ≡ padded v → r ≡ found_value mark v

module _ (p : Projection) (v : Valid p) where
  -- ---- bindings

  module _ (node slot : ℕ) (place : Result ℕ ℕ) (told : place ≡ place_of (leading_numbers binding_fields) (node ∷ slot ∷ []) (map binding_row p.bindings)) where
    binding_place : place ≡ place_of binding_key (node ∷ slot ∷ []) p.bindings
    binding_place = told ∙ place_map binding_row (leading_numbers binding_fields) binding_key (node ∷ slot ∷ []) p.bindings (all_map FitsBinding _ binding_key_lem p.bindings v.fit_bindings)

    -- the answer for what the lookup finds
    abbrev binding_answer : Option Binding → ValueLookup
    binding_answer o = value_lookup (Option.map (λ (b : Binding). b.mark) o) (Option.map (λ (b : Binding). b.value) o)

    pub binding_found : (i : ℕ) → place ≡ Ok i → (row : List ℕ) → row ≡ get_or (map binding_row p.bindings) i [] → (mark : ℕ) → mark ≡ binding_mark_in row → (r : ValueLookup) → ReadsAt binding_value_at mark row r
        → r ≡ value_lookup (binding_mark p node slot) (binding_of p node slot)
    unfolding binding_of binding_mark value_lookup
    binding_found i e row is mark marks r reads =
        let f = place_taken binding_key binding_row FitsBinding (node ∷ slot ∷ []) p.bindings v.fit_bindings i (sym binding_place ∙ e) in
        reads f.element.value f.has.value (ap (drop binding_value_at) (is ∙ f.image []) ∙ binding_behind f.element)
        ∙ ap (λ (m : ℕ). found_value m f.element.value) (marks ∙ ap binding_mark_in (is ∙ f.image []) ∙ binding_mark_lem f.element f.has)
        ∙ sym (ap binding_answer f.found)

    pub binding_absent : (i : ℕ) → place ≡ Err i → (r : ValueLookup) → r ≡ no_value → r ≡ value_lookup (binding_mark p node slot) (binding_of p node slot)
    unfolding binding_of binding_mark value_lookup
    binding_absent i e r is =
        is ∙ sym (ap binding_answer (place_before binding_key binding_row FitsBinding (node ∷ slot ∷ []) p.bindings v.bindings i (sym binding_place ∙ e)))

  -- ---- availabilities

  module _ (node : ℕ) (place : Result ℕ ℕ) (told : place ≡ place_of (leading_numbers availability_fields) (node ∷ []) (map availability_row p.availabilities)) where
    availability_place : place ≡ place_of availability_key (node ∷ []) p.availabilities
    availability_place = told ∙ place_map availability_row (leading_numbers availability_fields) availability_key (node ∷ []) p.availabilities (all_map FitsNodeAvailability _ availability_key_lem p.availabilities v.fit_availabilities)

    abbrev availability_answer : Option NodeAvailability → AvailabilityLookup
    availability_answer o = availability_lookup (Option.map (λ (a : NodeAvailability). a.mark) o) (Option.map (λ (a : NodeAvailability). a.availability) o)

    pub availability_found : (i : ℕ) → place ≡ Ok i → (row : List ℕ) → row ≡ get_or (map availability_row p.availabilities) i [] → (r : AvailabilityLookup)
        → ((a : NodeAvailability) → FitsNodeAvailability a → row ≡ availability_row a → r ≡ availability_lookup (some a.mark) (some a.availability))
        → r ≡ availability_lookup (availability_mark p node) (availability_of p node)
    unfolding availability_of availability_mark
    availability_found i e row is r reads =
        let f = place_taken availability_key availability_row FitsNodeAvailability (node ∷ []) p.availabilities v.fit_availabilities i (sym availability_place ∙ e) in
        reads f.element f.has (is ∙ f.image []) ∙ sym (ap availability_answer f.found)

    pub availability_absent : (i : ℕ) → place ≡ Err i → (r : AvailabilityLookup) → r ≡ availability_lookup none none → r ≡ availability_lookup (availability_mark p node) (availability_of p node)
    unfolding availability_of availability_mark
    availability_absent i e r is =
        is ∙ sym (ap availability_answer (place_before availability_key availability_row FitsNodeAvailability (node ∷ []) p.availabilities v.availabilities i (sym availability_place ∙ e)))

  -- ---- entries

  module _ (c k : ℕ) (place : code.Option ℕ) (told : place ≡ find_first_row (is_entry c k) p.entries) where
    abbrev entry_answer : Option Entry → ValueLookup
    entry_answer o = value_lookup (Option.map (λ (x : Entry). x.mark) o) (Option.map (λ (x : Entry). x.value) o)

    pub entry_found : (i : ℕ) → place ≡ Some i → (row : List ℕ) → row ≡ get_or (map entry_row p.entries) i [] → (mark : ℕ) → mark ≡ entry_mark_in row → (r : ValueLookup) → ReadsAt entry_value_at mark row r
        → r ≡ value_lookup (entry_mark p c k) (entry_of p c k)
    unfolding entry_of entry_mark value_lookup
    entry_found i e row is mark marks r reads =
        let f = found_at (is_entry c k) entry_row p.entries i (sym told ∙ e) in
        let fits = find_first_all (is_entry c k) FitsEntry p.entries f.element f.found v.fit_entries in
        reads f.element.value fits.value (ap (drop entry_value_at) (is ∙ f.image []) ∙ entry_behind f.element)
        ∙ ap (λ (m : ℕ). found_value m f.element.value) (marks ∙ ap entry_mark_in (is ∙ f.image []) ∙ entry_mark_lem f.element fits)
        ∙ sym (ap entry_answer f.found)

    pub entry_absent : place ≡ None → (r : ValueLookup) → r ≡ no_value → r ≡ value_lookup (entry_mark p c k) (entry_of p c k)
    unfolding entry_of entry_mark value_lookup
    entry_absent e r is =
        is ∙ sym (ap entry_answer (found_none (is_entry c k) p.entries (find_absent (is_entry c k) p.entries (sym told ∙ e))))
