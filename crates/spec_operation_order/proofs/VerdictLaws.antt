-- Each operation answers as Verdict says.
use Rattle.std.specs.Prelude.{ℕ, ◌+◌, ◌≤◌, ◌≡◌, refl, true, not, List, leb, length, if◌then◌else◌}
use Rattle.std.proofs.Common.{sym, ap, ◌∙◌, arith, leb-true, leb-false}
use Rattle.std.proofs.Math.Option.{Option, none, some}
use Rattle.std.proofs.lemmas.Bool.{not-true, not-false}
use Rattle.spec_lists.specs.Lists.{any}
use Rattle.spec_lists.proofs.ListLaws.{if_cases}
use Rattle.spec_patch.specs.Sizes.{projection_bindings, projection_availabilities, projection_entries}
use Rattle.spec_patch.specs.Patch.{Operation, set_binding, set_availability, insert, update, remove, move}
use Rattle.spec_projection.specs.Projection.{Entry, Projection}
use Rattle.spec_projection.specs.FirstMatch.{find_first, remove_first}
use Rattle.spec_projection.proofs.FirstMatchLaws.{find_first_passes, find_first_any, find_first_none}
use Rattle.spec_projection.specs.Entries.{is_entry, contains, contains_neighbour, insert_entry, replace_entry, remove_entry}
use Rattle.spec_projection.proofs.EntriesLaws.{is_entry_collection, is_entry_key, insert_entry_length, replace_entry_length, remove_entry_length, found_contains}
use Rattle.spec_projection.specs.Lookups.{entries_in, entries_of}
use Rattle.spec_projection.specs.Apply.{projection_full, done, stopped, with_bindings, with_availabilities, with_entries, apply_binding, apply_availability, apply_insert, apply_update, apply_remove, apply_move, apply_operation}
use Rattle.spec_projection.specs.Effects.{target_of, has_key}
use Rattle.spec_projection.proofs.CollectionLaws.{contains_own, remove_entry_own}
use Rattle.spec_operation_order.specs.FreeOrder.{inserted}
use Rattle.spec_operation_order.specs.Verdict.{has_neighbour, keys_fit, values_at, put, sets_binding, sets_availability, FitsCapacities, VerdictPlace, Leaves, Verdict}

neighbour_own : (c : ℕ) (before : Option ℕ) (es : List Entry) → contains_neighbour c before es ≡ has_neighbour before (entries_in c es)
unfolding contains_neighbour has_neighbour
neighbour_own c none es = refl
neighbour_own c (some k) es = contains_own c k es

-- an operation on a collection leaves the other rows
entries_leave : (p : Projection) (o : Operation) (es : List Entry) → sets_binding o ≡ none → sets_availability o ≡ none → keys_fit (values_at p (target_of o)) o ≡ true
    → (FitsCapacities p → length p.entries + inserted o ≤ projection_entries) → length es ≤ length p.entries + inserted o → Leaves p o (with_entries p es)
unfolding put with_entries
entries_leave p o es b a fit place grows = record {
  fit = fit;
  place = λ f. record { bindings = rw b f.bindings; availabilities = rw a f.availabilities; entries = place f };
  bindings = rw b;
  availabilities = rw a;
  entries = grows;
}

move_verdict : (p : Projection) (c k : ℕ) (before : Option ℕ) (found : Option Entry) → find_first (is_entry c k) p.entries ≡ found → Verdict p (move c k before) (apply_move p before found)
unfolding apply_move contains keys_fit target_of entries_of sets_binding sets_availability inserted
move_verdict p c k before none e = rw (← (contains_own c k p.entries), find_first_none (is_entry c k) p.entries e)
move_verdict p c k before (some x) e =
    let es = p.entries in
    let is = find_first_passes (is_entry c k) es x e in
    let rest = remove_entry x.collection x.key es in
    let there : any (has_key k) (entries_in c es) ≡ true = sym (contains_own c k es) ∙ find_first_any (is_entry c k) es x e in
    let next : contains_neighbour x.collection before rest ≡ has_neighbour before (remove_first (has_key k) (entries_in c es)) =
    rw (is_entry_collection c k x is, is_entry_key c k x is) (neighbour_own c before (remove_entry c k es) ∙ ap (has_neighbour before) (remove_entry_own c k es)) in
    if_cases (Verdict p (move c k before)) (contains_neighbour x.collection before rest) _ _
    (λ h. entries_leave p (move c k before) (insert_entry before x rest) refl refl (rw there (sym next ∙ h)) (λ f. omega (arith, f.entries))
    (omega (arith, insert_entry_length before x rest, remove_entry_length x.collection x.key es (found_contains c k es x e))))
    (λ h. rw there (sym next ∙ h))

-- where the keys fit, a number of rows is held to its capacity
places_decide : (p : Projection) (o : Operation) (rows capacity : ℕ) (q : Projection) → keys_fit (values_at p (target_of o)) o ≡ true → (rows ≤ capacity → Leaves p o q) → (VerdictPlace p o → rows ≤ capacity)
    → Verdict p o (if leb rows capacity then done q else stopped projection_full)
places_decide p o rows capacity q fit leaves place =
    if_cases (Verdict p o) (leb rows capacity) _ _ (λ e. leaves (leb-true rows capacity e)) (λ e. (fit, λ w. omega (arith, leb-false rows capacity e, place w)))

pub verdict : (p : Projection) (o : Operation) → Verdict p o (apply_operation p 0 o)
unfolding apply_operation apply_binding apply_availability apply_insert apply_update apply_remove with_bindings with_availabilities keys_fit target_of entries_of put sets_binding sets_availability inserted
verdict p (set_binding n s v) = places_decide p (set_binding n s v) _ projection_bindings _ refl
    (λ few. record { fit = refl; place = λ f. record { bindings = few; availabilities = f.availabilities; entries = omega (arith, f.entries) }; bindings = refl; availabilities = refl; entries = omega arith })
    (λ w. w.bindings)
verdict p (set_availability n a) = places_decide p (set_availability n a) _ projection_availabilities _ refl
    (λ few. record { fit = refl; place = λ f. record { bindings = f.bindings; availabilities = few; entries = omega (arith, f.entries) }; bindings = refl; availabilities = refl; entries = omega arith })
    (λ w. w.availabilities)
verdict p (insert c k before v) =
    let o = insert c k before v in
    let x : Entry = record { collection = c; key = k; mark = 0; value = v } in
    let es = p.entries in
    let grown = insert_entry_length before x es in
    if_cases (Verdict p o) (contains c k es) _ _
    (λ there. rw (← (contains_own c k es), there))
    (λ absent. if_cases (Verdict p o) (not (contains_neighbour c before es)) _ _
    (λ alone. rw (← (contains_own c k es), absent, ← (neighbour_own c before es), not-true (contains_neighbour c before es) alone))
    (λ next. let fit : keys_fit (entries_in c es) o ≡ true = rw (← (contains_own c k es), absent, ← (neighbour_own c before es), not-false (contains_neighbour c before es) next) in
    places_decide p o (length (insert_entry before x es)) projection_entries _ fit
    (λ few. entries_leave p o (insert_entry before x es) refl refl fit (λ f. omega (arith, grown, few)) (omega (arith, grown)))
    (λ w. omega (arith, grown, w.entries))))
verdict p (update c k v) =
    let x : Entry = record { collection = c; key = k; mark = 0; value = v } in
    let es = p.entries in
    if_cases (Verdict p (update c k v)) (contains c k es) _ _
    (λ there. entries_leave p (update c k v) (replace_entry x es) refl refl (sym (contains_own c k es) ∙ there) (λ f. omega (arith, f.entries)) (omega (arith, replace_entry_length x es)))
    (λ absent. sym (contains_own c k es) ∙ absent)
verdict p (remove c k) =
    let es = p.entries in
    if_cases (Verdict p (remove c k)) (contains c k es) _ _
    (λ there. entries_leave p (remove c k) (remove_entry c k es) refl refl (sym (contains_own c k es) ∙ there) (λ f. omega (arith, f.entries)) (omega (arith, remove_entry_length c k es there)))
    (λ absent. sym (contains_own c k es) ∙ absent)
verdict p (move c k before) = move_verdict p c k before (find_first (is_entry c k) p.entries) refl
