-- A change of the rows of a table of entries is the operation on the projection's entries.
use Prim.Native.Nat.{ℕ, ◌+◌, ◌-◌, ◌≤◌, ◌<◌}
use mathlib.Core.Path.{◌≡◌, refl, sym, ap, ap₂, ◌∙◌, subst}
use mathlib.Core.Bool.{Bool, true, false, false≢true}
use mathlib.Core.List.{List, [], map}
use mathlib.Core.Option.{Option}
use native.Mathlib.Omega.{arith}
use borrow.Author.Tests.{le-leb, lt-leb}
use lib.ListN.{length, get_or, length-map}
use Rattle.spec_patch.specs.Sizes.{projection_entries}
use Rattle.spec_projection.specs.Projection.{Entry, Projection}
use Rattle.spec_projection.specs.FirstMatch as first
use Rattle.spec_projection.specs.Entries.{is_entry}
use Rattle.spec_projection.specs.Apply.{with_entries, apply_insert, apply_update, apply_remove, apply_move}
use Rattle.spec_projection.specs.Valid.{Valid}
use Rattle.bytes_records.specs.Positions.{insert_at, remove_at, replace_at}
use Rattle.bytes_records.specs.PositionsLaws.{map_insert_at, map_remove_at, map_replace_at}
use Rattle.bytes_records.specs.Table.{Wide, HoldsRows, Changed, can_insert, can_remove, can_replace}
use Rattle.bytes_records.specs.Search.{find_first_row, WithinRows}
use Rattle.bytes_records.specs.SearchLaws.{find_at}
use Rattle.panel_plan.specs.PlanRows.{planned_entry_width, planned_entry_row, PlannedEntries}
use Rattle.panel_bindings.specs.Change.{Became}
use Rattle.panel_bindings.specs.ChangeLaws.{became_done, became_stopped}
use Rattle.bytes_records.specs.PositionsLaws.{length_insert_at}
use Rattle.panel_bindings.specs.RowChanges.{rows_few, rows_replaced, rows_removed, rows_inserted, rows_full}
use Rattle.local_projection_state.specs.declared.LocalProjectionApplicationError.TheVariants.{KeyRule, ProjectionFull}
use Rattle.panel_entries.specs.Places.{place_before, PositionWithin, place_before_other, without_at}
use Rattle.panel_entries.specs.PlacesLaws.{update_found, update_absent, remove_found, remove_absent, insert_present, insert_no_neighbour, insert_there, moved, move_absent, move_no_neighbour, move_there}
use Rattle.std.specs.Prelude as code
use Rattle.std.specs.Prelude.{Some, None, Ok, Err}

-- ---- what the answer of a search says of a position

pub none_is : (r : code.Option ℕ) (b : Bool) → b ≡ code.is_some r → b ≡ false → r ≡ None
none_is None b e f = refl
none_is (Some i) b e f = absurd (false≢true (sym f ∙ e))

pub some_is : (r : code.Option ℕ) (b : Bool) → b ≡ code.is_some r → b ≡ true → (i : ℕ) × (r ≡ Some i)
some_is None b e f = absurd (false≢true (sym e ∙ f))
some_is (Some i) b e f = (i, refl)

pub within_at : {n : ℕ} (r : code.Option ℕ) (i : ℕ) → r ≡ Some i → WithinRows n r → i < n
unfolding WithinRows
within_at r i e h = subst (WithinRows _) e h

pub position_at : {n : ℕ} (r : code.Option ℕ) (i : ℕ) → r ≡ Some i → PositionWithin n r → i ≤ n
unfolding PositionWithin
position_at r i e h = subst (PositionWithin _) e h

pub within_position : (n : ℕ) (r : code.Option ℕ) → WithinRows n r → PositionWithin n r
unfolding WithinRows PositionWithin
within_position n (Some i) h = omega arith
within_position n None h = tt

-- the table of entries, with so many rows, stores those of a projection
abbrev pub NextEntry : List ℕ → ℕ → Projection → Type 0
NextEntry table n q = PlannedEntries n table q.entries

-- ---- refusals

module _ (exit : List ℕ) (p : Projection) where
  pub not_updated : (e : Entry) → find_first_row (is_entry e.collection e.key) p.entries ≡ None → Became (NextEntry exit) (Err KeyRule) (apply_update p e)
  not_updated e h = became_stopped (NextEntry exit) KeyRule (update_absent p e h)

  pub not_removed : (c k : ℕ) → find_first_row (is_entry c k) p.entries ≡ None → Became (NextEntry exit) (Err KeyRule) (apply_remove p c k)
  not_removed c k h = became_stopped (NextEntry exit) KeyRule (remove_absent p c k h)

  module _ (before : Option ℕ) (e : Entry) where
    pub key_present_lem : (i : ℕ) → find_first_row (is_entry e.collection e.key) p.entries ≡ Some i → Became (NextEntry exit) (Err KeyRule) (apply_insert p before e)
    key_present_lem i h = became_stopped (NextEntry exit) KeyRule (insert_present p before e i h)

    pub neighbour_missing : find_first_row (is_entry e.collection e.key) p.entries ≡ None → place_before e.collection before p.entries ≡ None → Became (NextEntry exit) (Err KeyRule) (apply_insert p before e)
    neighbour_missing absent h = became_stopped (NextEntry exit) KeyRule (insert_no_neighbour p before e absent h)

  module _ (v : Valid p) (c k : ℕ) (before : Option ℕ) where
    pub not_moved : find_first_row (is_entry c k) p.entries ≡ None → Became (NextEntry exit) (Err KeyRule) (apply_move p before (first.find_first (is_entry c k) p.entries))
    not_moved h = became_stopped (NextEntry exit) KeyRule (move_absent p v.entries c k before h)

    pub no_other : (i : ℕ) → find_first_row (is_entry c k) p.entries ≡ Some i → place_before_other c k before p.entries ≡ None → Became (NextEntry exit) (Err KeyRule) (apply_move p before (first.find_first (is_entry c k) p.entries))
    no_other i there h = became_stopped (NextEntry exit) KeyRule (move_no_neighbour p v.entries c k before i there h)

-- ---- changes

module _ {n : ℕ} {table : List ℕ} (exit : List ℕ) (same : length exit ≡ length table) (p : Projection) (s : PlannedEntries n table p.entries) where
  -- rows of other entries
  next : {m : ℕ} {rows : List (List ℕ)} (es : List Entry) → rows ≡ map planned_entry_row es → HoldsRows planned_entry_width m exit rows → NextEntry exit m (with_entries p es)
  unfolding with_entries
  next es e h = record { size = same ∙ s.size; rows = subst (HoldsRows planned_entry_width _ exit) e h }

  below : (c k i : ℕ) → find_first_row (is_entry c k) p.entries ≡ Some i → i < n
  below c k i h = omega (arith, (find_at (is_entry c k) p.entries i h).1, length-map p.entries planned_entry_row, s.rows.counted)

  module _ (e : Entry) (row : List ℕ) (is : row ≡ planned_entry_row e) (wide : Wide planned_entry_width row) (at : ℕ) {answer : Bool} where
    pub updated : find_first_row (is_entry e.collection e.key) p.entries ≡ Some at → Changed planned_entry_width n n (replace_at at row) (can_replace (length table) planned_entry_width n at row) table exit answer
        → Became (NextEntry exit) (Ok n) (apply_update p e)
    updated h c =
        became_done (NextEntry exit) n (update_found p e at h)
        (next (replace_at at e p.entries) (ap (λ x. replace_at at x (map planned_entry_row p.entries)) is ∙ sym (map_replace_at planned_entry_row at e p.entries)) (rows_replaced s.rows at row (below _ _ at h) wide c))

    module _ (before : Option ℕ) (absent : find_first_row (is_entry e.collection e.key) p.entries ≡ None) (there : place_before e.collection before p.entries ≡ Some at)
        (c : Changed planned_entry_width n (n + 1) (insert_at at row) (can_insert (length table) planned_entry_width n at row) table exit answer) where
      image : insert_at at row (map planned_entry_row p.entries) ≡ map planned_entry_row (insert_at at e p.entries)
      image = ap (λ x. insert_at at x (map planned_entry_row p.entries)) is ∙ sym (map_insert_at planned_entry_row at e p.entries)

      pub inserted_there : answer ≡ true → Became (NextEntry exit) (Ok (n + 1)) (apply_insert p before e)
      inserted_there t =
          let h = rows_inserted s.rows at row t c in
          let counted : length (insert_at at e p.entries) ≡ n + 1 = sym (length-map (insert_at at e p.entries) planned_entry_row) ∙ ap length (sym image) ∙ h.counted in
          let fits : length (insert_at at e p.entries) ≤ projection_entries = omega (arith, rows_few h projection_entries (omega arith) (same ∙ s.size)) in
          rw (insert_there p before e absent at there, le-leb (length (insert_at at e p.entries)) projection_entries fits) (next (insert_at at e p.entries) image h)

      pub inserted_nowhere : at ≤ n → answer ≡ false → Became (NextEntry exit) (Err ProjectionFull) (apply_insert p before e)
      inserted_nowhere h t =
          let counted : length p.entries ≡ n = sym (length-map p.entries planned_entry_row) ∙ s.rows.counted in
          let over : projection_entries < length (insert_at at e p.entries) = omega (arith, rows_full s.rows at projection_entries s.size row h wide t c, length_insert_at at e p.entries) in
          rw (insert_there p before e absent at there, lt-leb (length (insert_at at e p.entries)) projection_entries over)

  pub removed_there : (c k at : ℕ) {answer : Bool} → find_first_row (is_entry c k) p.entries ≡ Some at → Changed planned_entry_width n (n - 1) (remove_at at) (can_remove (length table) planned_entry_width n at) table exit answer
      → Became (NextEntry exit) (Ok (n - 1)) (apply_remove p c k)
  removed_there c k at h change =
      became_done (NextEntry exit) (n - 1) (remove_found p c k at h)
      (next (remove_at at p.entries) (sym (map_remove_at planned_entry_row at p.entries)) (rows_removed s.rows at (below c k at h) change))

  module _ (v : Valid p) (c k : ℕ) (before : Option ℕ) where
    pub moved_there : (i j : ℕ) → find_first_row (is_entry c k) p.entries ≡ Some i → place_before_other c k before p.entries ≡ Some j
        → ((rows : List (List ℕ)) → HoldsRows planned_entry_width n table rows → HoldsRows planned_entry_width n exit (insert_at (without_at i j) (get_or rows i []) (remove_at i rows))) → Became (NextEntry exit) (Ok n) (apply_move p before (first.find_first (is_entry c k) p.entries))
    moved_there i j there h change =
        let g = moved p v.entries c k before i there in
        let rest = remove_at i p.entries in
        became_done (NextEntry exit) n (move_there p v.entries c k before i there j h)
        (next (insert_at (without_at i j) g.element rest)
        (ap₂ (λ x y. insert_at (without_at i j) x y) (g.image []) (sym (map_remove_at planned_entry_row i p.entries)) ∙ sym (map_insert_at planned_entry_row (without_at i j) g.element rest))
        (change (map planned_entry_row p.entries) s.rows))
