-- A change of rows that keeps their keys commutes with every operation, for done and stopped alike, whatever the projection; and it keeps the
-- stored order.
use Rattle.std.specs.Prelude.{ℕ, ◌≡◌, Bool, true, false, not, leb, length, if◌then◌else◌}
use Rattle.std.proofs.Math.Path.{refl, ap, ap₂}
use Rattle.std.proofs.Common.{◌∙◌}
use mathlib.Core.List.{List, [], ◌∷◌, map}
use Rattle.std.proofs.Math.Option
use Rattle.std.proofs.Math.Option.{Option, none, some}
use Rattle.std.proofs.Math.ListN.{length-map}
use Rattle.spec_lists.specs.Order.{upsert}
use Rattle.spec_lists.proofs.ListLaws.{any_map}
use Rattle.spec_patch.specs.Sizes.{projection_bindings, projection_availabilities, projection_entries}
use Rattle.spec_projection.specs.Projection.{Binding, NodeAvailability, Entry, Projection, binding_key, availability_key}
use Rattle.spec_projection.specs.FirstMatch.{find_first}
use Rattle.spec_projection.specs.Entries.{is_entry, is_later, contains, contains_neighbour, insert_last, insert_before, insert_entry, replace_entry, remove_entry}
use Rattle.spec_projection.specs.Apply.{key_rule, projection_full, OperationFault, done, stopped, with_bindings, with_availabilities, with_entries, apply_binding, apply_availability, apply_insert, apply_update, apply_remove, apply_move}
use Rattle.spec_projection.proofs.MapLaws.{find_first_map, insert_before_first_map, replace_first_map, remove_first_map, upsert_map, all_image, ascending_map}
use Rattle.spec_projection.specs.Valid.{Behind, Grouped, Ordered}
use Rattle.spec_projection.specs.RowMap.{RowMap, map_rows, map_outcome, KeepsKeys}

module _ (f : RowMap) (keeps : KeepsKeys f) where
  -- ---- entries are found, inserted, replaced and removed by collection and key alone

  is_entry_mapped : (c k : ℕ) (e : Entry) → is_entry c k (f.entry e) ≡ is_entry c k e
  unfolding is_entry
  is_entry_mapped c k e = rw (keeps.collection e, keeps.key e)

  is_later_mapped : (c : ℕ) (e : Entry) → is_later c (f.entry e) ≡ is_later c e
  unfolding is_later
  is_later_mapped c e = rw (keeps.collection e)

  contains_mapped : (c k : ℕ) (es : List Entry) → contains c k (map f.entry es) ≡ contains c k es
  unfolding contains
  contains_mapped c k es = any_map f.entry (is_entry c k) (is_entry c k) (is_entry_mapped c k) es

  neighbour_mapped : (c : ℕ) (before : Option ℕ) (es : List Entry) → contains_neighbour c before (map f.entry es) ≡ contains_neighbour c before es
  unfolding contains_neighbour
  neighbour_mapped c none es = refl
  neighbour_mapped c (some k) es = contains_mapped c k es

  pub found_mapped : (c k : ℕ) (es : List Entry) → find_first (is_entry c k) (map f.entry es) ≡ Option.map f.entry (find_first (is_entry c k) es)
  found_mapped c k es = find_first_map f.entry (is_entry c k) (is_entry c k) (is_entry_mapped c k) es

  inserted_mapped : (before : Option ℕ) (e : Entry) (es : List Entry) → insert_entry before (f.entry e) (map f.entry es) ≡ map f.entry (insert_entry before e es)
  unfolding insert_entry insert_last insert_before
  inserted_mapped none e es =
      insert_before_first_map f.entry (is_later (f.entry e).collection) (is_later e.collection) (λ x. ap (λ c. is_later c (f.entry x)) (keeps.collection e) ∙ is_later_mapped e.collection x) e es
  inserted_mapped (some k) e es =
      insert_before_first_map f.entry (is_entry (f.entry e).collection k) (is_entry e.collection k) (λ x. ap (λ c. is_entry c k (f.entry x)) (keeps.collection e) ∙ is_entry_mapped e.collection k x) e es

  replaced_mapped : (e : Entry) (es : List Entry) → replace_entry (f.entry e) (map f.entry es) ≡ map f.entry (replace_entry e es)
  unfolding replace_entry
  replaced_mapped e es = replace_first_map f.entry (is_entry (f.entry e).collection (f.entry e).key) (is_entry e.collection e.key)
      (λ x. ap₂ (λ c k. is_entry c k (f.entry x)) (keeps.collection e) (keeps.key e) ∙ is_entry_mapped e.collection e.key x) e es

  removed_mapped : (c k : ℕ) (es : List Entry) → remove_entry c k (map f.entry es) ≡ map f.entry (remove_entry c k es)
  unfolding remove_entry
  removed_mapped c k es = remove_first_map f.entry (is_entry c k) (is_entry c k) (is_entry_mapped c k) es

  -- ---- the operations

  -- a test before a change decides alike
  if_made : (t : Bool) (q : Projection) (fault : OperationFault) → (if t then done (map_rows f q) else stopped fault) ≡ map_outcome f (if t then done q else stopped fault)
  if_made true q fault = refl
  if_made false q fault = refl

  -- and so do two tests before a refusal
  if_refused : (s t u : Bool) (q : Projection) → (if s then stopped key_rule else if t then stopped key_rule else if u then done (map_rows f q) else stopped projection_full)
      ≡ map_outcome f (if s then stopped key_rule else if t then stopped key_rule else if u then done q else stopped projection_full)
  if_refused true t u q = refl
  if_refused false true u q = refl
  if_refused false false u q = if_made u q projection_full

  pub binding_mapped : (p : Projection) (b : Binding) → apply_binding (map_rows f p) (f.binding b) ≡ map_outcome f (apply_binding p b)
  unfolding apply_binding map_rows with_bindings
  binding_mapped p b =
      let bs = upsert binding_key b p.bindings in
      rw (upsert_map f.binding binding_key binding_key keeps.binding b p.bindings, length-map bs f.binding) (if_made (leb (length bs) projection_bindings) (with_bindings p bs) projection_full)

  pub availability_mapped : (p : Projection) (a : NodeAvailability) → apply_availability (map_rows f p) (f.availability a) ≡ map_outcome f (apply_availability p a)
  unfolding apply_availability map_rows with_availabilities
  availability_mapped p a =
      let xs = upsert availability_key a p.availabilities in
      rw (upsert_map f.availability availability_key availability_key keeps.availability a p.availabilities, length-map xs f.availability)
      (if_made (leb (length xs) projection_availabilities) (with_availabilities p xs) projection_full)

  pub insert_mapped : (p : Projection) (before : Option ℕ) (e : Entry) → apply_insert (map_rows f p) before (f.entry e) ≡ map_outcome f (apply_insert p before e)
  unfolding apply_insert map_rows with_entries
  insert_mapped p before e =
      let es = insert_entry before e p.entries in
      rw (inserted_mapped before e p.entries, keeps.collection e, keeps.key e, contains_mapped e.collection e.key p.entries, neighbour_mapped e.collection before p.entries, length-map es f.entry)
      (if_refused (contains e.collection e.key p.entries) (not (contains_neighbour e.collection before p.entries)) (leb (length es) projection_entries) (with_entries p es))

  pub update_mapped : (p : Projection) (e : Entry) → apply_update (map_rows f p) (f.entry e) ≡ map_outcome f (apply_update p e)
  unfolding apply_update map_rows with_entries
  update_mapped p e =
      rw (replaced_mapped e p.entries, keeps.collection e, keeps.key e, contains_mapped e.collection e.key p.entries)
      (if_made (contains e.collection e.key p.entries) (with_entries p (replace_entry e p.entries)) key_rule)

  pub remove_mapped : (p : Projection) (c k : ℕ) → apply_remove (map_rows f p) c k ≡ map_outcome f (apply_remove p c k)
  unfolding apply_remove map_rows with_entries
  remove_mapped p c k =
      rw (contains_mapped c k p.entries, removed_mapped c k p.entries) (if_made (contains c k p.entries) (with_entries p (remove_entry c k p.entries)) key_rule)

  pub move_mapped : (p : Projection) (before : Option ℕ) (found : Option Entry) → apply_move (map_rows f p) before (Option.map f.entry found) ≡ map_outcome f (apply_move p before found)
  unfolding apply_move map_rows with_entries
  move_mapped p before none = refl
  move_mapped p before (some e) =
      let rest = remove_entry e.collection e.key p.entries in
      let taken : remove_entry (f.entry e).collection (f.entry e).key (map f.entry p.entries) ≡ map f.entry rest =
      ap₂ (λ c k. remove_entry c k (map f.entry p.entries)) (keeps.collection e) (keeps.key e) ∙ removed_mapped e.collection e.key p.entries in
      rw (taken, inserted_mapped before e rest, keeps.collection e, neighbour_mapped e.collection before rest)
      (if_made (contains_neighbour e.collection before rest) (with_entries p (insert_entry before e rest)) key_rule)

  -- ---- the stored order

  grouped_mapped : (l : List Entry) → Grouped l → Grouped (map f.entry l)
  grouped_mapped [] h = tt
  grouped_mapped (x ∷ l) h = (all_image f.entry (Behind x) (Behind (f.entry x)) behind l h.0, grouped_mapped l h.1)
    where
      behind : (y : Entry) → Behind x y → Behind (f.entry x) (f.entry y)
      behind y b = record {
        collection = rw (keeps.collection x, keeps.collection y) b.collection;
        other = is_entry_mapped (f.entry x).collection (f.entry x).key y ∙ ap₂ (λ c k. is_entry c k y) (keeps.collection x) (keeps.key x) ∙ b.other;
      }

  pub map_rows_ordered : (p : Projection) → Ordered p → Ordered (map_rows f p)
  unfolding map_rows
  map_rows_ordered p w = record {
    bindings = ascending_map f.binding binding_key binding_key keeps.binding p.bindings w.bindings;
    availabilities = ascending_map f.availability availability_key availability_key keeps.availability p.availabilities w.availabilities;
    entries = grouped_mapped p.entries w.entries;
  }
