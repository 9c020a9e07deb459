-- An operation of a projection meets its expectations exactly if it fails by no key rule, and leaves the keys as it says.
use Rattle.std.specs.Prelude.{ℕ, ◌≡◌, Bool, true, false, ◌&&◌, ◌||◌, ◌≢◌, ◌↔◌, eqb, leb, length, if◌then◌else◌}
use Rattle.std.proofs.Math.Path.{refl}
use Rattle.std.proofs.Common.{sym, ap, ◌∙◌, arith, eqb-true, ne_eqb}
use Rattle.std.proofs.lemmas.Bool.{false≢true}
use Rattle.std.proofs.Math.Bool.{and-false}
use mathlib.Core.List.{List, [], ◌∷◌}
use Rattle.std.proofs.Math.Option.{Option, none, some}
use Rattle.spec_lists.specs.Lists.{any}
use Rattle.spec_lists.proofs.ListLaws.{and_left, and_right, or_second, test_cases}
use Rattle.spec_lists.specs.Order.{upsert}
use Rattle.spec_patch.specs.Sizes.{projection_bindings, projection_availabilities, projection_entries}
use Rattle.spec_patch.specs.Patch.{Value, Operation, set_binding, set_availability, insert, update, remove, move}
use Rattle.spec_checks.specs.Rules.{BeforeSelf, inserted, moved}
use Rattle.spec_projection.specs.Projection.{Binding, NodeAvailability, Entry, Projection, binding_key, availability_key}
use Rattle.spec_projection.specs.FirstMatch.{find_first, insert_before_first, replace_first, remove_first}
use Rattle.spec_projection.proofs.FirstMatchLaws.{find_first_passes}
use Rattle.spec_projection.specs.Entries.{is_entry, is_later, contains, contains_neighbour, insert_last, insert_before, insert_entry, replace_entry, remove_entry}
use Rattle.spec_projection.proofs.EntriesLaws.{is_entry_collection, is_entry_key, insert_entry_grouped, replace_entry_grouped, remove_entry_grouped, remove_entry_gone, found_contains}
use Rattle.spec_projection.specs.Apply.{OperationFault, key_rule, projection_full, done, stopped, with_bindings, with_availabilities, with_entries, apply_binding, apply_availability, apply_insert, apply_update, apply_remove, apply_move, apply_operation}
use Rattle.spec_projection.proofs.ApplyLaws.{stopped_not_done}
use Rattle.spec_projection.proofs.OperationLaws.{applied_binding, applied_availability, applied_insert, applied_update, applied_remove, AppliedMove, applied_move}
use Rattle.spec_projection.specs.Valid.{Grouped}
use Rattle.spec_dependencies.specs.Expectations.{Expectation, added, kept_key, taken_key, neighbour, expectations}
use Rattle.spec_dependencies.specs.Presence.{Presence, presence, is_of, presence_after, presence_after_all, Accepts}

-- ---- a test of some element, after an edit at the first match

module _ {A : Type 0} (test f : A → Bool) where
  or_swap : (a b c : Bool) → (a || (b || c)) ≡ (b || (a || c))
  or_swap true true c = refl
  or_swap true false c = refl
  or_swap false b c = refl

  any_insert : (a : A) (l : List A) → any f (insert_before_first test a l) ≡ (f a || any f l)
  unfolding insert_before_first
  any_insert a [] = refl
  any_insert a (x ∷ l) = test_cases (test x) (λ t. rw t) (λ t. rw (t, any_insert a l) (or_swap (f x) (f a) (any f l)))

  any_replace : (a : A) → ((y : A) → test y ≡ true → f a ≡ f y) → (l : List A) → any f (replace_first test a l) ≡ any f l
  unfolding replace_first
  any_replace a same [] = refl
  any_replace a same (x ∷ l) = test_cases (test x) (λ t. rw (t, same x t)) (λ t. rw (t, any_replace a same l))

  any_remove : ((y : A) → test y ≡ true → f y ≡ false) → (l : List A) → any f (remove_first test l) ≡ any f l
  unfolding remove_first
  any_remove other [] = refl
  any_remove other (x ∷ l) = test_cases (test x) (λ t. rw (t, other x t)) (λ t. rw (t, any_remove other l))

-- ---- the keys of a list of entries

contains_insert : (before : Option ℕ) (e : Entry) (l : List Entry) (c k : ℕ) → contains c k (insert_entry before e l) ≡ (is_entry c k e || contains c k l)
unfolding contains insert_entry insert_last insert_before
contains_insert none e l c k = any_insert (is_later e.collection) (is_entry c k) e l
contains_insert (some n) e l c k = any_insert (is_entry e.collection n) (is_entry c k) e l

contains_replace : (e : Entry) (l : List Entry) (c k : ℕ) → contains c k (replace_entry e l) ≡ contains c k l
unfolding contains replace_entry is_entry
contains_replace e l c k =
    any_replace (is_entry e.collection e.key) (is_entry c k) e
    (λ y t. rw (is_entry_collection e.collection e.key y t, is_entry_key e.collection e.key y t)) l

-- a key that is not the one
entry_other : (c k d j : ℕ) → (eqb d c && eqb j k) ≡ false → (y : Entry) → is_entry d j y ≡ true → is_entry c k y ≡ false
unfolding is_entry
entry_other c k d j n y t = rw (is_entry_collection d j y t, is_entry_key d j y t) n

contains_remove : (d j : ℕ) (l : List Entry) (c k : ℕ) → (eqb d c && eqb j k) ≡ false → contains c k (remove_entry d j l) ≡ contains c k l
unfolding contains remove_entry
contains_remove d j l c k n = any_remove (is_entry d j) (is_entry c k) (entry_other c k d j n) l

contains_finds : (c k : ℕ) (l : List Entry) → contains c k l ≡ true → (e : Entry) × (find_first (is_entry c k) l ≡ some e)
unfolding contains find_first
contains_finds c k [] h = absurd (false≢true h)
contains_finds c k (x ∷ l) h = test_cases (is_entry c k x) (λ t. (x, rw t)) (λ t. past t (contains_finds c k l (or_second _ _ h t)))
  where
    past : is_entry c k x ≡ false → (e : Entry) × (find_first (is_entry c k) l ≡ some e) → (e : Entry) × (find_first (is_entry c k) (x ∷ l) ≡ some e)
    past t found = (found.0, rw t found.1)

-- taking another key out leaves the neighbour
neighbour_rest : (c k : ℕ) (before : Option ℕ) (l : List Entry) → ((n : ℕ) → before ≡ some n → k ≢ n) → contains_neighbour c before (remove_entry c k l) ≡ contains_neighbour c before l
unfolding contains_neighbour
neighbour_rest c k none l other = refl
neighbour_rest c k (some n) l other = contains_remove c k l c n (rw (ne_eqb k n (other n refl)) (and-false (eqb c c)))

-- ---- expectations

-- what is expected to stay leaves all as it was
after_kept : (e : Expectation) (h : Presence) → h e.collection e.key ≡ e.left → presence_after e h ≡ h
unfolding presence_after is_of
after_kept e h stays = λ i c k. point c k i
  where
    point : (c k : ℕ) → presence_after e h c k ≡ h c k
    point c k = test_cases (is_of e c k)
        (λ f. rw (f, ← (eqb-true e.collection c (and_left _ _ f)), ← (eqb-true e.key k (and_right (eqb e.collection c) _ f))) (sym stays))
        (λ f. rw f)

neighbour_after : (c : ℕ) (before : Option ℕ) (h : Presence) → Accepts (neighbour c before) h → presence_after_all (neighbour c before) h ≡ h
unfolding neighbour presence_after_all
neighbour_after c none h a = refl
neighbour_after c (some n) h a = after_kept (kept_key c n) h a.0

-- another key of the collection is as before
other_after : (e : Expectation) (p : Projection) (n : ℕ) → e.key ≢ n → presence_after e (presence p) e.collection n ≡ contains e.collection n p.entries
unfolding presence_after is_of presence
other_after e p n d = rw (ne_eqb e.key n d, and-false (eqb e.collection e.collection))

-- the neighbour is there after the operation's own key, exactly if it is there before
neighbour_accepts : (e : Expectation) (before : Option ℕ) (p : Projection) → ((n : ℕ) → before ≡ some n → e.key ≢ n)
    → (contains_neighbour e.collection before p.entries ≡ true) ↔ Accepts (neighbour e.collection before) (presence_after e (presence p))
unfolding neighbour contains_neighbour
neighbour_accepts e none p other = (λ h. tt, λ a. refl)
neighbour_accepts e (some n) p other =
    let same = other_after e p n (other n refl) in
    (λ h. (same ∙ h, tt), λ a. sym same ∙ a.0)

-- ---- an operation that applied met its expectations, and leaves the keys as it says

pub record LeavesKeys (p : Projection) (es : List Expectation) (q : Projection) : Type 0 where
  pub accepts : Accepts es (presence p)
  pub keys : presence q ≡ presence_after_all es (presence p)
  pub entries : Grouped q.entries

keeps_entries : (p q : Projection) → q.entries ≡ p.entries → Grouped p.entries → LeavesKeys p [] q
unfolding presence_after_all presence
keeps_entries p q e g = record { accepts = tt; keys = λ i c k. contains c k (e i); entries = rw e g }

-- an insert that names no neighbour, or another key
insert_leaves : (p : Projection) (c k : ℕ) (before : Option ℕ) (m : ℕ) (v : Value) (q : Projection) → ((n : ℕ) → before ≡ some n → k ≢ n) → Grouped p.entries
    → apply_insert p before (record { collection = c; key = k; mark = m; value = v }) ≡ done q → LeavesKeys p (added c k ∷ neighbour c before) q
unfolding presence with_entries presence_after_all presence_after is_of is_entry
insert_leaves p c k before m v q other g h =
    let e : Entry = record { collection = c; key = k; mark = m; value = v } in
    let a = applied_insert p before e q h in
    let there = (neighbour_accepts (added c k) before p other).0 a.neighbour in
    record {
      accepts = (a.absent, there);
      keys = ap presence a.result ∙ (λ i d j. point d j i) ∙ sym (neighbour_after c before (presence_after (added c k) (presence p)) there);
      entries = rw a.result (insert_entry_grouped before e p.entries a.absent a.neighbour g);
    }
  where
    point : (d j : ℕ) → contains d j (insert_entry before (record { collection = c; key = k; mark = m; value = v }) p.entries) ≡ presence_after (added c k) (presence p) d j
    point d j = contains_insert before (record { collection = c; key = k; mark = m; value = v }) p.entries d j ∙ test_cases (eqb c d && eqb k j) (λ f. rw f) (λ f. rw f)

update_leaves : (p : Projection) (c k m : ℕ) (v : Value) (q : Projection) → Grouped p.entries
    → apply_update p (record { collection = c; key = k; mark = m; value = v }) ≡ done q → LeavesKeys p (kept_key c k ∷ []) q
unfolding presence with_entries presence_after_all
update_leaves p c k m v q g h =
    let e : Entry = record { collection = c; key = k; mark = m; value = v } in
    let a = applied_update p e q h in
    record {
      accepts = (a.0, tt);
      keys = ap presence a.1 ∙ (λ i d j. contains_replace e p.entries d j i) ∙ sym (after_kept (kept_key c k) (presence p) a.0);
      entries = rw a.1 (replace_entry_grouped e p.entries g);
    }

remove_leaves : (p : Projection) (c k : ℕ) (q : Projection) → Grouped p.entries → apply_remove p c k ≡ done q → LeavesKeys p (taken_key c k ∷ []) q
unfolding presence with_entries presence_after_all presence_after is_of
remove_leaves p c k q g h =
    let a = applied_remove p c k q h in
    record { accepts = (a.0, tt); keys = ap presence a.1 ∙ (λ i d j. point d j i); entries = rw a.1 (remove_entry_grouped c k p.entries g) }
  where
    point : (d j : ℕ) → contains d j (remove_entry c k p.entries) ≡ presence_after (taken_key c k) (presence p) d j
    point d j = test_cases (eqb c d && eqb k j)
        (λ f. rw (f, ← (eqb-true c d (and_left _ _ f)), ← (eqb-true k j (and_right (eqb c d) _ f))) (remove_entry_gone c k p.entries g))
        (λ f. rw f (contains_remove c k p.entries d j f))

not_entry : (d j : ℕ) (e : Entry) → is_entry d j e ≡ false → (eqb e.collection d && eqb e.key j) ≡ false
unfolding is_entry
not_entry d j e f = f

-- a move takes the entry out, and inserts the same again
moved_keys : (before : Option ℕ) (e : Entry) (l : List Entry) → contains e.collection e.key l ≡ true → (d j : ℕ)
    → contains d j (insert_entry before e (remove_entry e.collection e.key l)) ≡ contains d j l
moved_keys before e l stored d j =
    contains_insert before e (remove_entry e.collection e.key l) d j
    ∙ test_cases (is_entry d j e)
    (λ f. rw (f, ← (is_entry_collection d j e f), ← (is_entry_key d j e f)) (sym stored))
    (λ f. rw f (contains_remove e.collection e.key l d j (not_entry d j e f)))

move_leaves : (p : Projection) (c k : ℕ) (before : Option ℕ) (q : Projection) → ((n : ℕ) → before ≡ some n → k ≢ n) → Grouped p.entries
    → apply_move p before (find_first (is_entry c k) p.entries) ≡ done q → LeavesKeys p (kept_key c k ∷ neighbour c before) q
unfolding presence with_entries presence_after_all
move_leaves p c k before q other g h = go (applied_move p before (find_first (is_entry c k) p.entries) q h)
  where
    go : AppliedMove p before (find_first (is_entry c k) p.entries) q → LeavesKeys p (kept_key c k ∷ neighbour c before) q
    go a =
        let e = a.entry in
        let is = find_first_passes (is_entry c k) p.entries e a.found_entry in
        let own : e.collection ≡ c = is_entry_collection c k e is in
        let named : e.key ≡ k = is_entry_key c k e is in
        let stored = found_contains c k p.entries e a.found_entry in
        let here : contains c k p.entries ≡ true = rw (own, named) at stored in
        let beside : contains_neighbour c before (remove_entry c k p.entries) ≡ true = rw (own, named) at a.neighbour in
        let there = (neighbour_accepts (kept_key c k) before p other).0 (sym (neighbour_rest c k before p.entries other) ∙ beside) in
        record {
          accepts = (here, there);
          keys =
              ap presence a.result ∙ (λ i d j. moved_keys before e p.entries stored d j i)
              ∙ sym (after_kept (kept_key c k) (presence p) here) ∙ sym (neighbour_after c before (presence_after (kept_key c k) (presence p)) there);
          entries = rw a.result (insert_entry_grouped before e (remove_entry e.collection e.key p.entries) (remove_entry_gone e.collection e.key p.entries g) a.neighbour (remove_entry_grouped e.collection e.key p.entries g));
        }

-- no operation that names itself as neighbour
pub operation_leaves : (p : Projection) (id : ℕ) (o : Operation) (q : Projection) → ¬ BeforeSelf o → Grouped p.entries → apply_operation p id o ≡ done q → LeavesKeys p (expectations o) q
unfolding apply_operation expectations with_bindings with_availabilities
operation_leaves p id (set_binding n s v) q b g h = keeps_entries p q (ap (λ (r : Projection). r.entries) (applied_binding p _ q h).1) g
operation_leaves p id (set_availability n a) q b g h = keeps_entries p q (ap (λ (r : Projection). r.entries) (applied_availability p _ q h).1) g
operation_leaves p id (insert c k before v) q b g h = insert_leaves p c k before id v q (λ n e f. b (inserted c k v (ap (λ x. insert c k x v) (e ∙ ap some (sym f))))) g h
operation_leaves p id (update c k v) q b g h = update_leaves p c k id v q g h
operation_leaves p id (remove c k) q b g h = remove_leaves p c k q g h
operation_leaves p id (move c k before) q b g h = move_leaves p c k before q (λ n e f. b (moved c k (ap (λ x. move c k x) (e ∙ ap some (sym f))))) g h

-- ---- an operation whose expectations are met fails by no key rule

done_not_stopped : {q : Projection} {fault : OperationFault} → done q ≡ stopped fault → ⊥
done_not_stopped e = stopped_not_done (sym e)

-- room or none, that is not the key rule
room_not_key : (t : Bool) (q : Projection) → (if t then done q else stopped projection_full) ≡ stopped key_rule → ⊥
room_not_key true q e = done_not_stopped e
room_not_key false q e = let z : ◌≡◌ {A = ℕ} 0 1 = cc in absurd (omega arith)

binding_accepted : (p : Projection) (b : Binding) → apply_binding p b ≡ stopped key_rule → ⊥
unfolding apply_binding
binding_accepted p b = let bs = upsert binding_key b p.bindings in room_not_key (leb (length bs) projection_bindings) (with_bindings p bs)

availability_accepted : (p : Projection) (a : NodeAvailability) → apply_availability p a ≡ stopped key_rule → ⊥
unfolding apply_availability
availability_accepted p a = let xs = upsert availability_key a p.availabilities in room_not_key (leb (length xs) projection_availabilities) (with_availabilities p xs)

insert_accepted : (p : Projection) (before : Option ℕ) (e : Entry) → contains e.collection e.key p.entries ≡ false → contains_neighbour e.collection before p.entries ≡ true
    → apply_insert p before e ≡ stopped key_rule → ⊥
unfolding apply_insert
insert_accepted p before e absent there h = let es = insert_entry before e p.entries in room_not_key (leb (length es) projection_entries) (with_entries p es) (rw (absent, there) at h)

pub operation_accepted : (p : Projection) (id : ℕ) (o : Operation) → ¬ BeforeSelf o → Accepts (expectations o) (presence p) → apply_operation p id o ≡ stopped key_rule → ⊥
unfolding apply_operation expectations apply_update apply_remove apply_move presence
operation_accepted p id (set_binding n s v) b a h = binding_accepted p _ h
operation_accepted p id (set_availability n x) b a h = availability_accepted p _ h
operation_accepted p id (insert c k before v) b a h =
    let there = (neighbour_accepts (added c k) before p (λ n e f. b (inserted c k v (ap (λ x. insert c k x v) (e ∙ ap some (sym f)))))).1 a.1 in
    insert_accepted p before _ a.0 there h
operation_accepted p id (update c k v) b a h = done_not_stopped (rw a.0 at h)
operation_accepted p id (remove c k) b a h = done_not_stopped (rw a.0 at h)
operation_accepted p id (move c k before) b a h =
    let other : (n : ℕ) → before ≡ some n → k ≢ n = λ n e f. b (moved c k (ap (λ x. move c k x) (e ∙ ap some (sym f)))) in
    let found = contains_finds c k p.entries a.0 in
    let is = find_first_passes (is_entry c k) p.entries found.0 found.1 in
    let there : contains_neighbour c before (remove_entry c k p.entries) ≡ true = neighbour_rest c k before p.entries other ∙ (neighbour_accepts (kept_key c k) before p other).1 a.1 in
    done_not_stopped (rw (found.1, is_entry_collection c k found.0 is, is_entry_key c k found.0 is, there) at h)
