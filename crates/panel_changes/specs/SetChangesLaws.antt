-- Tables that store a projection are as long as they should be, a plan of it starts from them, and what is written of a plan stores what the
-- plan stands for.
use Rattle.std.specs.Prelude as code
use Rattle.std.specs.Prelude.{ℕ, ◌+◌, ◌-◌, ◌*◌, ◌≤◌, ◌≡◌, refl, Bool, true, false, ◌&&◌, List, [], ◌∷◌, ◌++◌, map, leb, eqb, length, take, drop, if◌then◌else◌}
use Rattle.std.proofs.Common.{sym, ap, ap₂, ◌∙◌, subst, map-id, zero-mul, mul-le-mul_right, arith, le-leb, leb-true, eq-eqb, eqb-true, take-append-drop, length-take-le}
use Rattle.std.proofs.lemmas.List.{length-map, length-replicate}
use Rattle.spec_lists.proofs.ListLaws.{and_left, and_right}
use Rattle.spec_patch.specs.Sizes.{set_bytes, projection_bindings, projection_availabilities, projection_entries}
use Rattle.spec_patch.specs.Edition.{Edition}
use Rattle.projection_patch.specs.ReadAnswers.{count_answer}
use Rattle.projection_patch.specs.declared.read_values.ProjectionPatchReadFault.TheVariants.{OverCapacity}
use Rattle.patch_sets.specs.Walk.{read_heading}
use Rattle.patch_walk.specs.Steps.{made_of, first_cursor, open_answer}
use Rattle.patch_walk.specs.declared.SetCursor.{SetCursor}
use Rattle.spec_lists.specs.Order.{sort_unique}
use Rattle.spec_lists.proofs.OrderLaws.{sort_unique_length}
use Rattle.spec_projection.specs.Projection.{Entry, Projection}
use Rattle.spec_projection.specs.Lookups.{entries_in}
use Rattle.spec_projection.specs.Apply.{Outcome, done, stopped}
use Rattle.spec_projection.specs.RowMap.{map_rows}
use Rattle.spec_projection.specs.Valid.{Valid}
use Rattle.spec_lengths.specs.Lengths.{length_record, collections_in, lengths_in, collection_lengths}
use Rattle.spec_lengths.proofs.LengthsAfter.{lengths_mapped}
use Rattle.bytes_records.specs.Moves.{zeros, overwrite_rows}
use Rattle.bytes_records.specs.MovesLaws.{length_zeros, drop_zeros}
use Rattle.bytes_records.specs.TableLaws.{holds_none}
use Rattle.panel_rows.specs.Rows.{binding_bytes, availability_bytes, entry_bytes, length_bytes, binding_width, availability_width, entry_width, length_width, binding_row, availability_row, entry_row}
use Rattle.local_projection_state.specs.Stores.{Stored, StoredTables, StoredLengths}
use Rattle.local_projection_state.specs.declared.ProjectionCounts.{ProjectionCounts}
use Rattle.panel_plan.specs.Plan.{plan_of, numbered, binding_with, entry_with}
use Rattle.panel_plan.proofs.PlanValid.{plan_valid}
use Rattle.panel_plan.specs.PlanRows.{PlannedBindings, PlannedEntries, StoredPlan}
use Rattle.panel_plan.specs.Resolved.{Resolution, resolving, resolved}
use Rattle.panel_plan.proofs.ResolvedLaws.{resolving_keeps}
use Rattle.panel_steps.specs.Runs.{RunBecame}
use Rattle.panel_steps.specs.declared.PlanStop.{PlanStop}
use Rattle.panel_steps.specs.declared.PlanStop.TheVariants as plan
use Rattle.local_projection_state.specs.declared.LocalProjectionApplicationError.{LocalProjectionApplicationError}
use Rattle.projection_patch.specs.declared.read_values.ProjectionPatchReadFault.{ProjectionPatchReadFault}
use Rattle.panel_writing.specs.Writing.{ClearBehind}
use Rattle.panel_writing.specs.WritingLaws.{clear_behind_more, rows_clear}
use Rattle.panel_changes.specs.SetChanges.{tables_fit, change_counts_fit, TableLengths, none_used, ReadyTables, StoredAfter, ChangeBecame}
use Rattle.panel_changes.specs.declared.SetRefusal.TheVariants as change

-- ---- lengths and counts

pub fit_lengths : (b a e : List ℕ) → tables_fit (length b) (length a) (length e) ≡ true → TableLengths b a e
unfolding tables_fit
fit_lengths b a e h =
    let one = eqb (length b) binding_bytes in
    let two = eqb (length a) availability_bytes in
    let three = eqb (length e) entry_bytes in
    let rest : (two && three) ≡ true = and_right one (two && three) h in
    record {
      bindings = eqb-true (length b) binding_bytes (and_left one (two && three) h);
      availability = eqb-true (length a) availability_bytes (and_left two three rest);
      entries = eqb-true (length e) entry_bytes (and_right two three rest);
    }

pub table_lengths_fit : (b a e : List ℕ) → TableLengths b a e → tables_fit (length b) (length a) (length e) ≡ true
unfolding tables_fit
table_lengths_fit b a e h = rw (eq-eqb (length b) binding_bytes h.bindings, eq-eqb (length a) availability_bytes h.availability, eq-eqb (length e) entry_bytes h.entries)

-- zeros store no rows
pub none_stored : {A : Type 0} (row : A → List ℕ) (width capacity : ℕ) → Stored row width capacity 0 (zeros (capacity * width)) []
none_stored row width capacity = record { size = length-replicate {A = ℕ} (capacity * width) 0; rows = holds_none width (capacity * width) }

clear_zeros : (width n : ℕ) → ClearBehind 0 width (zeros n)
clear_zeros width n =
    let none : 0 * width ≡ 0 = zero-mul width in
    ap (λ (k : ℕ). drop k (zeros n)) none ∙ drop_zeros 0 n (omega arith) ∙ ap zeros (ap (λ (k : ℕ). k - 0) (sym (length_zeros n)) ∙ ap (λ (k : ℕ). length (zeros n) - k) (sym none))

pub zeros_ready : ReadyTables none_used (zeros binding_bytes) (zeros availability_bytes) (zeros entry_bytes) (zeros length_bytes)
unfolding change_counts_fit
zeros_ready = record {
  lengths = record { bindings = length_zeros binding_bytes; availability = length_zeros availability_bytes; entries = length_zeros entry_bytes };
  collections = length_zeros length_bytes;
  few = refl;
  bindings = clear_zeros binding_width binding_bytes;
  availabilities = clear_zeros availability_width availability_bytes;
  entries = clear_zeros entry_width entry_bytes;
  counted = clear_zeros length_width length_bytes;
}

pub few_fit : (n : ProjectionCounts) → n.bindings ≤ projection_bindings → n.availabilities ≤ projection_availabilities → n.entries ≤ projection_entries → change_counts_fit n ≡ true
unfolding change_counts_fit
few_fit n b a e = rw (le-leb n.bindings projection_bindings b, le-leb n.availabilities projection_availabilities a, le-leb n.entries projection_entries e)

pub fit_few : (n : ProjectionCounts) → change_counts_fit n ≡ true → (n.bindings ≤ projection_bindings) × (n.entries ≤ projection_entries) × (n.availabilities ≤ projection_availabilities)
unfolding change_counts_fit
fit_few n h =
    let one = leb n.bindings projection_bindings in
    let two = leb n.availabilities projection_availabilities in
    let three = leb n.entries projection_entries in
    let rest = and_right one (two && three) h in
    (leb-true n.bindings projection_bindings (and_left one (two && three) h), leb-true n.entries projection_entries (and_right two three rest), leb-true n.availabilities projection_availabilities (and_left two three rest))

-- a count is the length of its list
counted : {A : Type 0} {row : A → List ℕ} {width capacity count : ℕ} {table : List ℕ} (l : List A) → Stored row width capacity count table l → length l ≡ count
counted {row = row} l s = sym (length-map l row) ∙ s.rows.counted

module _ {n : ProjectionCounts} {b a e : List ℕ} {p : Projection} where
  pub stored_lengths : StoredTables n b a e p → TableLengths b a e
  stored_lengths s = record { bindings = s.bindings.size; availability = s.availabilities.size; entries = s.entries.size }

  pub stored_counts : StoredTables n b a e p → change_counts_fit n ≡ true
  stored_counts s =
      few_fit n
      (omega (arith, counted p.bindings s.bindings, s.valid.few_bindings))
      (omega (arith, counted p.availabilities s.availabilities, s.valid.few_availabilities))
      (omega (arith, counted p.entries s.entries, s.valid.few_entries))

  pub planned_counts : StoredPlan n b a e p → change_counts_fit n ≡ true
  planned_counts s =
      few_fit n
      (omega (arith, counted p.bindings s.bindings, s.valid.few_bindings))
      (omega (arith, counted p.availabilities s.availabilities, s.valid.few_availabilities))
      (omega (arith, counted p.entries s.entries, s.valid.few_entries))

-- a collection has an entry at least
few_collections : (p : Projection) → length (collection_lengths p) ≤ length p.entries
unfolding collection_lengths lengths_in collections_in
few_collections p =
    let own = map (λ (e : Entry). e.collection) p.entries in
    omega (arith, length-map (sort_unique (λ (c : ℕ). c ∷ []) own) (λ (c : ℕ). length_record c (length (entries_in c p.entries))), sort_unique_length (λ (c : ℕ). c ∷ []) own, length-map p.entries (λ (e : Entry). e.collection))

-- so nothing stands in the table of the lengths behind as many rows as there are entries
pub lengths_clear : {n : ProjectionCounts} {b a e l : List ℕ} {p : Projection} → StoredTables n b a e p → StoredLengths l (collection_lengths p) → ClearBehind n.entries length_width l
lengths_clear {n = n} {l = l} {p = p} s told =
    let few : n.entries ≤ projection_entries = omega (arith, counted p.entries s.entries, s.valid.few_entries) in
    clear_behind_more (length (collection_lengths p)) n.entries length_width l (omega (arith, few_collections p, counted p.entries s.entries)) (omega (arith, mul-le-mul_right {m = n.entries} {n = projection_entries} length_width few, told.size)) (rows_clear told.rows)

-- ---- the plan that a set starts from

-- the rows of a table, copied to zeros, are the table
pub rows_copy : {A : Type 0} {row : A → List ℕ} {width capacity n : ℕ} {table to : List ℕ} (l : List A) → Stored row width capacity n table l → n ≤ capacity → to ≡ zeros (capacity * width) → overwrite_rows (take (n * width - 0) table) to ≡ table
rows_copy {width = width} {capacity = capacity} {n = n} {table = table} {to = to} l s few none =
    let most = mul-le-mul_right {m = n} {n = capacity} width few in
    let same : n * width - 0 ≡ n * width = omega arith in
    let front : length (take (n * width) table) ≡ n * width = length-take-le (n * width) table (omega (arith, most, s.size)) in
    let behind : drop (n * width) (zeros (capacity * width)) ≡ drop (n * width) table = drop_zeros (n * width) (capacity * width) most ∙ ap (λ (k : ℕ). zeros (k - n * width)) (sym s.size) ∙ sym (rows_clear s.rows) in
    ap₂ (λ (k : ℕ) (t : List ℕ). overwrite_rows (take k table) t) same none ∙ ap (λ (k : ℕ). take (n * width) table ++ drop k (zeros (capacity * width))) front
    ∙ ap (λ (t : List ℕ). take (n * width) table ++ t) behind ∙ take-append-drop (n * width) table

pub plan_starts : {n : ProjectionCounts} {b a e b' a' e' : List ℕ} {p : Projection} → StoredTables n b a e p → a' ≡ a → PlannedBindings n.bindings b' (numbered binding_with 0 p.bindings) → PlannedEntries n.entries e' (numbered entry_with 0 p.entries) → StoredPlan n b' a' e' (plan_of p)
unfolding plan_of
plan_starts {n = n} {p = p} s same bs es = record { bindings = bs; availabilities = subst (λ l. Stored availability_row availability_width projection_availabilities n.availabilities l p.availabilities) (sym same) s.availabilities; entries = es; valid = plan_valid p s.valid }

-- ---- what is written of a plan

-- availabilities are not resolved
same_availabilities : (r : Resolution) (q : Projection) → (resolved r q).availabilities ≡ q.availabilities
unfolding map_rows resolving
same_availabilities r q = map-id q.availabilities

-- nor are collections
same_collections : (r : Resolution) (q : Projection) → collection_lengths (resolved r q) ≡ collection_lengths q
same_collections r q = lengths_mapped (resolving r) (resolving_keeps r) q

pub written_stored : (n : ProjectionCounts) (b a e l : List ℕ) (r : Resolution) (q x : Projection) → resolved r q ≡ x → Valid x
    → Stored binding_row binding_width projection_bindings n.bindings b (resolved r q).bindings → Stored availability_row availability_width projection_availabilities n.availabilities a q.availabilities
    → Stored entry_row entry_width projection_entries n.entries e (resolved r q).entries → StoredLengths l (collection_lengths q) → StoredAfter n b a e l x
written_stored n b a e l r q x is v bs xs es ls =
    let tables : StoredTables n b a e (resolved r q) = record {
      bindings = bs;
      availabilities = subst (λ m. Stored availability_row availability_width projection_availabilities n.availabilities a m) (sym (same_availabilities r q)) xs;
      entries = es;
      valid = subst Valid (sym is) v;
    } in
    subst (StoredAfter n b a e l) is (tables, subst (StoredLengths l) (sym (same_collections r q)) ls)

-- ---- the arguments, and the opening of a set

pub fit_arguments : (x y z w : Bool) {r : Bool} → r ≡ (x && (y && (z && w))) → r ≡ true → (x ≡ true) × ((y ≡ true) × ((z ≡ true) × (w ≡ true)))
fit_arguments x y z w e t =
    let h : (x && (y && (z && w))) ≡ true = sym e ∙ t in
    let rest = and_right x (y && (z && w)) h in
    let last = and_right y (z && w) rest in
    (and_left x (y && (z && w)) h, (and_left y (z && w) rest, (and_left z w last, and_right z w last)))

-- a set that is opened is not too long
pub opened_short : (ed : Edition) (set : List ℕ) (c : SetCursor) → open_answer ed set ≡ code.Ok c → length set ≤ set_bytes
opened_short ed set c e = go (leb (length set) set_bytes) refl e
  where
    go : (t : Bool) → leb (length set) set_bytes ≡ t → (if t then made_of first_cursor (count_answer (length set) (read_heading ed set)) else code.Err OverCapacity) ≡ code.Ok c → length set ≤ set_bytes
    go true is e = leb-true (length set) set_bytes is
    go false is e = absurd (let z : ◌≡◌ {A = ℕ} 0 1 = cc e in omega arith)

-- ---- what came of a run

module _ (P Next : ProjectionCounts → Projection → Type 0) {r : code.Result ProjectionCounts PlanStop} (x : Outcome) (h : RunBecame P r x) where
  pub run_planned : (n : ProjectionCounts) → r ≡ code.Ok n → ((q : Projection) → x ≡ done q → P n q → Next n q) → ChangeBecame Next (code.Ok n) x
  run_planned n is made = go x refl (subst (λ z. RunBecame P z x) is h)
    where
      go : (y : Outcome) → x ≡ y → RunBecame P (code.Ok n) y → ChangeBecame Next (code.Ok n) y
      go (done q) e k = made q e k
      go (stopped f) e k = k

  pub run_refused : (f : LocalProjectionApplicationError) {c : SetCursor} {n : ProjectionCounts} → r ≡ code.Err (plan.Refused f c n) → ChangeBecame Next (code.Err (change.Operation f)) x
  run_refused f {c} {n} is = go x (subst (λ z. RunBecame P z x) is h)
    where
      go : (y : Outcome) → RunBecame P (code.Err (plan.Refused f c n)) y → ChangeBecame Next (code.Err (change.Operation f)) y
      go (done q) k = k
      go (stopped g) k = k

  pub run_reads : (f : ProjectionPatchReadFault) → r ≡ code.Err (plan.Unreadable f) → ⊥
  run_reads f is = subst (λ z. RunBecame P z x) is h

  -- a run that ended has left a plan
  pub run_left : (n : ProjectionCounts) → r ≡ code.Ok n → (q : Projection) × P n q
  run_left n is = go x (subst (λ z. RunBecame P z x) is h)
    where
      go : (y : Outcome) → RunBecame P (code.Ok n) y → (q : Projection) × P n q
      go (done q) k = (q, k)
      go (stopped f) k = absurd k
