-- The mark of a stored row is the id of the last patch in the run that gave it its value, or the mark that it had.
use Rattle.std.specs.Prelude.{ℕ, ◌≡◌, refl, true, false, ◌&&◌, if◌then◌else◌}
use Rattle.std.proofs.Math.Path.{sym}
use Rattle.std.proofs.Common.{ap, ◌∙◌}
use Rattle.std.proofs.Math.Bool.{false≢true}
use mathlib.Core.List.{List, [], ◌∷◌, head-eq_of_cons-eq, tail-eq_of_cons-eq}
use Rattle.std.proofs.Math.Option.{Option, none, some, map, some-ne-none, or_else}
use borrow.Author.Tests.{eqb-true, eqb-false, eq-eqb}
use Rattle.std.proofs.Math.Dec.{eqb}
use Rattle.spec_lists.proofs.ListLaws.{and_left, and_right, test_cases}
use Rattle.spec_lists.specs.Order.{upsert}
use Rattle.spec_lists.proofs.LookupLaws.{lookup_upsert, lookup_upsert_other}
use Rattle.spec_patch.specs.Patch.{Operation, set_binding, set_availability, insert, update, remove, move}
use Rattle.spec_projection.specs.Projection.{Binding, NodeAvailability, Entry, Projection, binding_key, availability_key}
use Rattle.spec_projection.specs.FirstMatch.{find_first}
use Rattle.spec_projection.proofs.FirstMatchLaws.{find_first_passes}
use Rattle.spec_projection.specs.Entries.{is_entry, contains, insert_entry, replace_entry, remove_entry}
use Rattle.spec_projection.proofs.EntriesLaws.{is_entry_collection, is_entry_key, remove_entry_gone}
use Rattle.spec_projection.specs.Lookups.{binding_mark, availability_mark, entry_mark}
use Rattle.spec_projection.specs.Apply.{done, with_bindings, with_availabilities, with_entries, apply_operation, ReplayStep, apply_step, apply_steps}
use Rattle.spec_projection.proofs.ApplyLaws.{done_injective, and_then_done}
use Rattle.spec_projection.proofs.OperationLaws.{applied_binding, applied_availability, applied_insert, applied_update, applied_remove, applied_move}
use Rattle.spec_projection.specs.Effects.{target_of}
use Rattle.spec_projection.proofs.EffectsLaws.{collection_keeps, binding_keeps, availability_keeps}
use Rattle.spec_projection.proofs.FoundLaws.{insert_entry_found, insert_entry_beside, replace_entry_found, replace_entry_beside, remove_entry_beside, remove_entry_none}
use Rattle.spec_projection.specs.Marks.{RowId, binding_id, availability_id, entry_id, row_mark, same_row, gives_value, last_setter}
use Rattle.spec_projection.specs.Valid.{Grouped, Ordered}
use Rattle.spec_projection.proofs.ValidLaws.{apply_operation_ordered}

-- the mark of a row after an operation of that patch, if the row is then stored
abbrev mark_after : ℕ → Operation → RowId → Option ℕ → Option ℕ
mark_after id o r before = if gives_value o r then some id else before

-- ---- bindings

module _ (p : Projection) (n s : ℕ) where
  kept_binding : (q : Projection) (x : Option ℕ) → q.bindings ≡ p.bindings → binding_mark q n s ≡ x → binding_mark p n s ≡ x
  unfolding binding_mark
  kept_binding q x b e = rw (← b) e

  set_binding_lem : (b : Binding) → binding_mark (with_bindings p (upsert binding_key b p.bindings)) n s ≡ (if eqb b.node n && eqb b.slot s then some b.mark else binding_mark p n s)
  unfolding binding_mark binding_key with_bindings
  set_binding_lem b = test_cases (eqb b.node n && eqb b.slot s)
      (λ e. let own : b.node ≡ n = eqb-true b.node n (and_left _ _ e) in
      let slot : b.slot ≡ s = eqb-true b.slot s (and_right (eqb b.node n) _ e) in
      rw e (rw (← own, ← slot) (ap (map (λ (x : Binding). x.mark)) (lookup_upsert binding_key b p.bindings))))
      (λ e. rw e (ap (map (λ (x : Binding). x.mark)) (lookup_upsert_other binding_key (n ∷ s ∷ []) b p.bindings
      (λ k. false≢true (sym e ∙ rw (eq-eqb b.node n (head-eq_of_cons-eq k), eq-eqb b.slot s (head-eq_of_cons-eq (tail-eq_of_cons-eq k))))))))

binding_mark_lem : (p : Projection) (id : ℕ) (o : Operation) (q : Projection) (n s m : ℕ) → apply_operation p id o ≡ done q → binding_mark q n s ≡ some m → mark_after id o (binding_id n s) (binding_mark p n s) ≡ some m
unfolding gives_value same_row target_of apply_operation
binding_mark_lem p id (set_binding i j v) q n s m h e =
    sym (set_binding_lem p n s (record { node = i; slot = j; mark = id; value = v })) ∙ ap (λ (r : Projection). binding_mark r n s) (sym (applied_binding p _ q h).1) ∙ e
binding_mark_lem p id (set_availability i a) q n s m h e = kept_binding p n s q (some m) (availability_keeps p id (set_availability i a) q h i refl).0 e
binding_mark_lem p id (insert c k before v) q n s m h e = kept_binding p n s q (some m) (collection_keeps p id (insert c k before v) q h c refl).0 e
binding_mark_lem p id (update c k v) q n s m h e = kept_binding p n s q (some m) (collection_keeps p id (update c k v) q h c refl).0 e
binding_mark_lem p id (remove c k) q n s m h e = kept_binding p n s q (some m) (collection_keeps p id (remove c k) q h c refl).0 e
binding_mark_lem p id (move c k before) q n s m h e = kept_binding p n s q (some m) (collection_keeps p id (move c k before) q h c refl).0 e

-- ---- availabilities

module _ (p : Projection) (n : ℕ) where
  kept_availability : (q : Projection) (x : Option ℕ) → q.availabilities ≡ p.availabilities → availability_mark q n ≡ x → availability_mark p n ≡ x
  unfolding availability_mark
  kept_availability q x b e = rw (← b) e

  set_availability_lem : (a : NodeAvailability) → availability_mark (with_availabilities p (upsert availability_key a p.availabilities)) n ≡ (if eqb a.node n then some a.mark else availability_mark p n)
  unfolding availability_mark availability_key with_availabilities
  set_availability_lem a = test_cases (eqb a.node n)
      (λ e. rw e (rw (← (eqb-true a.node n e)) (ap (map (λ (x : NodeAvailability). x.mark)) (lookup_upsert availability_key a p.availabilities))))
      (λ e. rw e (ap (map (λ (x : NodeAvailability). x.mark)) (lookup_upsert_other availability_key (n ∷ []) a p.availabilities (λ k. eqb-false a.node n e (head-eq_of_cons-eq k)))))

availability_mark_lem : (p : Projection) (id : ℕ) (o : Operation) (q : Projection) (n m : ℕ) → apply_operation p id o ≡ done q → availability_mark q n ≡ some m
    → mark_after id o (availability_id n) (availability_mark p n) ≡ some m
unfolding gives_value same_row target_of apply_operation
availability_mark_lem p id (set_binding i j v) q n m h e = kept_availability p n q (some m) (binding_keeps p id (set_binding i j v) q h i j refl).0 e
availability_mark_lem p id (set_availability i a) q n m h e =
    sym (set_availability_lem p n (record { node = i; mark = id; availability = a })) ∙ ap (λ (r : Projection). availability_mark r n) (sym (applied_availability p _ q h).1) ∙ e
availability_mark_lem p id (insert c k before v) q n m h e = kept_availability p n q (some m) (collection_keeps p id (insert c k before v) q h c refl).1 e
availability_mark_lem p id (update c k v) q n m h e = kept_availability p n q (some m) (collection_keeps p id (update c k v) q h c refl).1 e
availability_mark_lem p id (remove c k) q n m h e = kept_availability p n q (some m) (collection_keeps p id (remove c k) q h c refl).1 e
availability_mark_lem p id (move c k before) q n m h e = kept_availability p n q (some m) (collection_keeps p id (move c k before) q h c refl).1 e

-- ---- entries

module _ (d j : ℕ) where
  -- the mark of that collection's key
  abbrev found_mark : List Entry → Option ℕ
  found_mark l = map (λ (e : Entry). e.mark) (find_first (is_entry d j) l)

  found_inserted : (before : Option ℕ) (e : Entry) (l : List Entry) → contains e.collection e.key l ≡ false → found_mark (insert_entry before e l) ≡ (if is_entry d j e then some e.mark else found_mark l)
  found_inserted before e l n = test_cases (is_entry d j e)
      (λ t. rw (t, insert_entry_found d j l before e t (rw (is_entry_collection d j e t, is_entry_key d j e t) at n)))
      (λ t. rw (t, insert_entry_beside d j l before e t))

  found_replaced : (e : Entry) (l : List Entry) → contains e.collection e.key l ≡ true → found_mark (replace_entry e l) ≡ (if is_entry d j e then some e.mark else found_mark l)
  found_replaced e l h = test_cases (is_entry d j e)
      (λ t. rw (t, replace_entry_found d j l e t (rw (is_entry_collection d j e t, is_entry_key d j e t) at h)))
      (λ t. rw (t, replace_entry_beside d j l e t))

  found_removed : (c k : ℕ) (l : List Entry) → Grouped l → found_mark (remove_entry c k l) ≡ (if eqb c d && eqb k j then none else found_mark l)
  found_removed c k l g = test_cases (eqb c d && eqb k j)
      (λ t. let own : c ≡ d = eqb-true c d (and_left _ _ t) in
      let key : k ≡ j = eqb-true k j (and_right (eqb c d) _ t) in
      rw t (rw (own, key, remove_entry_none d j l g)))
      (λ t. rw (t, remove_entry_beside d j l c k t))

  -- an entry that is taken out and inserted again has its mark
  found_moved : (c k : ℕ) (before : Option ℕ) (e : Entry) (l : List Entry) → Grouped l → find_first (is_entry c k) l ≡ some e → found_mark (insert_entry before e (remove_entry e.collection e.key l)) ≡ found_mark l
  unfolding is_entry
  found_moved c k before e l g h =
      found_inserted before e (remove_entry e.collection e.key l) (remove_entry_gone e.collection e.key l g)
      ∙ test_cases (is_entry d j e)
      (λ t. let is = find_first_passes (is_entry c k) l e h in
      let own : c ≡ d = sym (is_entry_collection c k e is) ∙ is_entry_collection d j e t in
      let key : k ≡ j = sym (is_entry_key c k e is) ∙ is_entry_key d j e t in
      rw t (sym (ap (map (λ (x : Entry). x.mark)) (rw (own, key) at h))))
      (λ t. rw t (found_removed e.collection e.key l g ∙ rw t))

kept_entry : (p : Projection) (d j : ℕ) (q : Projection) (x : Option ℕ) → q.entries ≡ p.entries → entry_mark q d j ≡ x → entry_mark p d j ≡ x
unfolding entry_mark
kept_entry p d j q x b e = rw (← b) e

entry_mark_lem : (p : Projection) (id : ℕ) (o : Operation) (q : Projection) (d j m : ℕ) → Grouped p.entries → apply_operation p id o ≡ done q → entry_mark q d j ≡ some m
    → mark_after id o (entry_id d j) (entry_mark p d j) ≡ some m
unfolding gives_value same_row target_of apply_operation entry_mark with_entries is_entry
entry_mark_lem p id (set_binding n s v) q d j m g h e = kept_entry p d j q (some m) (binding_keeps p id (set_binding n s v) q h n s refl).1 e
entry_mark_lem p id (set_availability n a) q d j m g h e = kept_entry p d j q (some m) (availability_keeps p id (set_availability n a) q h n refl).1 e
entry_mark_lem p id (insert c k before v) q d j m g h e =
    let x : Entry = record { collection = c; key = k; mark = id; value = v } in
    let a = applied_insert p before x q h in
    sym (found_inserted d j before x p.entries a.absent) ∙ ap (λ (r : Projection). found_mark d j r.entries) (sym a.result) ∙ e
entry_mark_lem p id (update c k v) q d j m g h e =
    let x : Entry = record { collection = c; key = k; mark = id; value = v } in
    let a = applied_update p x q h in
    sym (found_replaced d j x p.entries a.0) ∙ ap (λ (r : Projection). found_mark d j r.entries) (sym a.1) ∙ e
entry_mark_lem p id (remove c k) q d j m g h e =
    let stored = sym (found_removed d j c k p.entries g) ∙ ap (λ (r : Projection). found_mark d j r.entries) (sym (applied_remove p c k q h).1) ∙ e in
    test_cases (eqb c d && eqb k j) (λ t. absurd (some-ne-none m (sym (rw t at stored)))) (λ t. rw t at stored)
entry_mark_lem p id (move c k before) q d j m g h e =
    let a = applied_move p before (find_first (is_entry c k) p.entries) q h in
    sym (found_moved d j c k before a.entry p.entries g a.found_entry) ∙ ap (λ (r : Projection). found_mark d j r.entries) (sym a.result) ∙ e

-- ---- all rows, all steps

operation_mark : (p : Projection) (id : ℕ) (o : Operation) (q : Projection) (r : RowId) (m : ℕ) → Ordered p → apply_operation p id o ≡ done q → row_mark q r ≡ some m → mark_after id o r (row_mark p r) ≡ some m
unfolding row_mark
operation_mark p id o q (binding_id n s) m w h e = binding_mark_lem p id o q n s m h e
operation_mark p id o q (availability_id n) m w h e = availability_mark_lem p id o q n m h e
operation_mark p id o q (entry_id c k) m w h e = entry_mark_lem p id o q c k m w.entries h e

-- a row that is stored with mark m after a run from a projection in stored order
pub last_setter_marks : (p : Projection) (ss : List ReplayStep) (q : Projection) (r : RowId) (m : ℕ) → Ordered p → apply_steps p ss ≡ done q → row_mark q r ≡ some m
    → or_else (last_setter r ss) (row_mark p r) ≡ some m
unfolding apply_steps apply_step last_setter or_else
last_setter_marks p [] q r m w h e = ap (λ (x : Projection). row_mark x r) (done_injective h) ∙ e
last_setter_marks p (s ∷ ss) q r m w h e =
    let (t, first, others) = and_then_done (apply_operation p s.patch s.operation) (λ t. apply_steps t ss) q h in
    go t first (last_setter r ss) (last_setter_marks t ss q r m (apply_operation_ordered p s.patch s.operation t w first) others e)
  where
    go : (t : Projection) → apply_operation p s.patch s.operation ≡ done t → (later : Option ℕ) → or_else later (row_mark t r) ≡ some m
        → or_else (or_else later (if gives_value s.operation r then some s.patch else none)) (row_mark p r) ≡ some m
    go t first (some x) f = f
    go t first none f =
        let own = operation_mark p s.patch s.operation t r m w first f in
        test_cases (gives_value s.operation r) (λ g. rw g (rw g at own)) (λ g. rw g (rw g at own))
