-- An operation that fails breaks the rule that is told of it, and its number is that of the rule.
use Rattle.std.specs.Prelude.{ℕ, ◌≡◌, refl, leb, length}
use Rattle.std.proofs.Common.{sym, arith, leb-false}
use Rattle.std.proofs.Math.Option.{Option, none, some}
use Rattle.spec_lists.proofs.ListLaws.{test_cases}
use Rattle.spec_lists.specs.Order.{upsert}
use Rattle.spec_patch.specs.Sizes.{projection_bindings, projection_availabilities, projection_entries}
use Rattle.spec_patch.specs.Patch.{Operation, set_binding, set_availability, insert, update, remove, move}
use Rattle.spec_projection.specs.Projection.{Entry, Projection, binding_key, availability_key}
use Rattle.spec_projection.specs.FirstMatch.{find_first}
use Rattle.spec_projection.proofs.FirstMatchLaws.{find_first_passes, find_first_any, find_first_none}
use Rattle.spec_projection.specs.Entries.{is_entry, contains, contains_neighbour, insert_entry, remove_entry}
use Rattle.spec_projection.proofs.EntriesLaws.{is_entry_collection, is_entry_key, insert_entry_length}
use Rattle.spec_projection.specs.Apply.{OperationFault, done, stopped, apply_binding, apply_availability, apply_insert, apply_update, apply_remove, apply_move, apply_operation}
use Rattle.spec_projection.proofs.ApplyLaws.{stopped_not_done}
use Rattle.spec_explain.specs.OperationRule.{operation_fault, rule_of, Breaks, adds_binding, adds_availability, inserts_present, inserts_before_absent, inserts_into_full, updates_absent, removes_absent, moves_absent, moves_before_absent}

-- the rule that is told is broken, and has the number of the fault
pub record ToldRule (p : Projection) (o : Operation) (f : OperationFault) : Type 0 where
  pub breaks : Breaks p o (rule_of p o)
  pub number : operation_fault (rule_of p o) ≡ f

stopped_is : {f g : OperationFault} → stopped f ≡ stopped g → f ≡ g
stopped_is e = cc

ran : {C : Type 0} {q : Projection} {f : OperationFault} → done q ≡ stopped f → C
ran e = absurd (stopped_not_done (sym e))

-- a move of an entry that is there
move_told : (p : Projection) (c k : ℕ) (before : Option ℕ) (f : OperationFault) (o : Option Entry) → find_first (is_entry c k) p.entries ≡ o → apply_move p before o ≡ stopped f → ToldRule p (move c k before) f
unfolding apply_move rule_of contains
move_told p c k before f none is e =
    let absent = find_first_none (is_entry c k) p.entries is in
    record { breaks = rw absent (moves_absent absent); number = rw absent (stopped_is e) }
move_told p c k before f (some x) is e =
    let there = find_first_any (is_entry c k) p.entries x is in
    let passes = find_first_passes (is_entry c k) p.entries x is in
    let e' = rw (is_entry_collection c k x passes, is_entry_key c k x passes) at e in
    test_cases (contains_neighbour c before (remove_entry c k p.entries))
    (λ t. ran (rw t at e'))
    (λ t. record { breaks = rw there (moves_before_absent there t); number = rw there (stopped_is (rw t at e')) })

pub rule_told : (p : Projection) (id : ℕ) (o : Operation) (f : OperationFault) → apply_operation p id o ≡ stopped f → ToldRule p o f
unfolding apply_operation rule_of apply_binding apply_availability apply_insert apply_update apply_remove apply_move
rule_told p id (set_binding n s v) f e = test_cases (leb (length (upsert binding_key (record { node = n; slot = s; mark = id; value = v }) p.bindings)) projection_bindings)
    (λ t. ran (rw t at e))
    (λ t. record { breaks = adds_binding id (leb-false _ projection_bindings t); number = stopped_is (rw t at e) })
rule_told p id (set_availability n a) f e = test_cases (leb (length (upsert availability_key (record { node = n; mark = id; availability = a }) p.availabilities)) projection_availabilities)
    (λ t. ran (rw t at e))
    (λ t. record { breaks = adds_availability id (leb-false _ projection_availabilities t); number = stopped_is (rw t at e) })
rule_told p id (insert c k before v) f e =
    let es = insert_entry before (record { collection = c; key = k; mark = id; value = v }) p.entries in
    test_cases (contains c k p.entries)
    (λ t. record { breaks = rw t (inserts_present t); number = rw t (stopped_is (rw t at e)) })
    (λ t. test_cases (contains_neighbour c before p.entries)
    (λ u. test_cases (leb (length es) projection_entries)
    (λ w. ran (rw (t, u, w) at e))
    (λ w. record {
      breaks = rw (t, u) (inserts_into_full t u (omega (arith, leb-false (length es) projection_entries w, insert_entry_length before (record { collection = c; key = k; mark = id; value = v }) p.entries)));
      number = rw (t, u) (stopped_is (rw (t, u, w) at e));
    }))
    (λ u. record { breaks = rw (t, u) (inserts_before_absent t u); number = rw (t, u) (stopped_is (rw (t, u) at e)) }))
rule_told p id (update c k v) f e = test_cases (contains c k p.entries)
    (λ t. ran (rw t at e))
    (λ t. record { breaks = updates_absent t; number = stopped_is (rw t at e) })
rule_told p id (remove c k) f e = test_cases (contains c k p.entries)
    (λ t. ran (rw t at e))
    (λ t. record { breaks = removes_absent t; number = stopped_is (rw t at e) })
rule_told p id (move c k before) f e = move_told p c k before f (find_first (is_entry c k) p.entries) refl e
