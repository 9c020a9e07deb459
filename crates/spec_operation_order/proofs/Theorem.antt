-- The claims of `FreeOrder`, proved: both lists run; one of them runs; and grouping, which is such a rearrangement.
use Rattle.std.specs.Prelude.{ℕ, ◌+◌, ◌≡◌, refl, ◌≢◌, ◌⊎◌, true, List, [], ◌∷◌, map, length}
use Rattle.std.proofs.Common.{sym, ap, ◌∙◌, subst, inl, inr, ⊎_elim, arith}
use Rattle.std.proofs.Math.Option.{none, some-injective, some-ne-none}
use Rattle.spec_patch.specs.Patch.{Operation, Patch}
use Rattle.spec_projection.specs.Projection.{Projection, binding_key, availability_key}
use Rattle.spec_projection.specs.Apply.{OperationFault, key_rule, projection_full, Outcome, done, stopped, ReplayStep, step_of, step_operations, replay_steps, operations_of, apply_operation, apply_step, and_then, apply_steps}
use Rattle.spec_projection.proofs.ApplyLaws.{stopped_not_done, replay_steps_operations}
use Rattle.spec_projection.specs.Valid.{Ordered, Valid}
use Rattle.spec_projection.proofs.ValidLaws.{valid_ordered, apply_operation_ordered}
use Rattle.spec_projection.specs.Marks.{without_marks, outcome_without_marks, without_patches}
use Rattle.spec_projection.proofs.UnmarkedLaws.{unmarked_valid, run_unmarked}
use Rattle.spec_projection.specs.Effects.{Target, collection_target, target_of}
use Rattle.spec_projection.proofs.Determined.{determined}
use Rattle.spec_operation_order.specs.FreeOrder.{operations_on, OrderKept, Exchanges, unchanged, exchange, behind, further, apply_operations, OrderIsFree, StepOrderIsFree, AlikeOrFull, inserted, insert_count, HasRoom, RunsWithRoom}
use Rattle.spec_operation_order.proofs.FreeOrderLaws.{on_own, kept_exactly}
use Rattle.spec_operation_order.specs.Grouping.{grouped_by, distinct, covers}
use Rattle.spec_operation_order.proofs.GroupingLaws.{grouping_keeps}
use Rattle.spec_operation_order.specs.Verdict.{values_at, put, sets_binding, sets_availability, WithinCapacities, VerdictPlace, Leaves, Verdict}
use Rattle.spec_operation_order.proofs.VerdictLaws.{verdict}
use Rattle.spec_operation_order.proofs.Rows.{put_all, put_all_grows, bindings_exchange, availabilities_exchange}
use Rattle.spec_operation_order.proofs.Runs.{list_after, rest_after, ran}

-- ---- both run

pub order_is_free : (p : Projection) (left right : List Operation) → OrderIsFree p left right
order_is_free p left right q r v k g h =
    let a = ran p left q (valid_ordered p v) g in
    let b = ran p right r (valid_ordered p v) h in
    let x = (kept_exactly left right).0 k in
    determined q r a.ordered b.ordered
    (a.bindings ∙ bindings_exchange x p.bindings v.bindings ∙ sym b.bindings)
    (a.availabilities ∙ availabilities_exchange x p.availabilities v.availabilities ∙ sym b.availabilities)
    (λ c. let t = collection_target c in some-injective _ _ (sym (a.lists t) ∙ ap (list_after (values_at p t)) (k t) ∙ b.lists t))

-- steps of patch 0 run as their operations do
steps_run : (p : Projection) (os : List Operation) → apply_steps p (map (step_of 0) os) ≡ apply_operations p os
unfolding apply_steps apply_step apply_operations
steps_run p [] = refl
steps_run p (o ∷ os) = go (apply_operation p 0 o) (λ q. steps_run q os)
  where
    go : (x : Outcome) → ((q : Projection) → apply_steps q (map (step_of 0) os) ≡ apply_operations q os) → and_then x (λ q. apply_steps q (map (step_of 0) os)) ≡ and_then x (λ q. apply_operations q os)
    go (done q) later = later q
    go (stopped fault) later = refl

-- without marks, steps of any patches leave what their operations leave
operations_leave : (p : Projection) (ss : List ReplayStep) (q : Projection) → apply_steps p ss ≡ done q → apply_operations (without_marks p) (step_operations ss) ≡ done (without_marks q)
unfolding without_patches without_marks
operations_leave p ss q h = sym (steps_run (without_marks p) (step_operations ss)) ∙ sym (run_unmarked p ss) ∙ ap outcome_without_marks h

pub step_order_is_free : (p : Projection) (left right : List ReplayStep) → StepOrderIsFree p left right
step_order_is_free p left right q r v k g h =
    order_is_free (without_marks p) (step_operations left) (step_operations right) (without_marks q) (without_marks r) (unmarked_valid p v) k (operations_leave p left q g) (operations_leave p right r h)

-- two patch lists, as a batch applies them
pub patch_order_is_free : (p : Projection) (left right : List Patch) (q r : Projection) → Valid p → OrderKept (operations_of left) (operations_of right)
    → apply_steps p (replay_steps left) ≡ done q → apply_steps p (replay_steps right) ≡ done r → without_marks q ≡ without_marks r
patch_order_is_free p left right q r v k g h =
    step_order_is_free p (replay_steps left) (replay_steps right) q r v
    (λ t. ap (operations_on t) (replay_steps_operations left) ∙ k t ∙ sym (ap (operations_on t) (replay_steps_operations right))) g h

-- ---- one runs: no 8

-- at every target the keys fit all the way
abbrev KeysFit : Projection → List Operation → Type 0
KeysFit p os = (t : Target) → list_after (values_at p t) (operations_on t os) ≢ none

keys_fit_full : (p : Projection) (os : List Operation) (f : OperationFault) → Ordered p → KeysFit p os → apply_operations p os ≡ stopped f → f ≡ projection_full
unfolding apply_operations list_after
keys_fit_full p [] f w k h = absurd (stopped_not_done (sym h))
keys_fit_full p (o ∷ os) f w k h = go (apply_operation p 0 o) refl h (λ r. keys_fit_full r os f)
  where
    go : (x : Outcome) → apply_operation p 0 o ≡ x → and_then x (λ r. apply_operations r os) ≡ stopped f
        → ((r : Projection) → Ordered r → KeysFit r os → apply_operations r os ≡ stopped f → f ≡ projection_full) → f ≡ projection_full
    go (done r) e h later = later r (apply_operation_ordered p 0 o r w e) (λ t n. k t (rest_after p o os r t w e ∙ n)) h
    go (stopped projection_full) e h later = cc
    go (stopped key_rule) e h later = absurd (k (target_of o) (rw (on_own (target_of o) o os refl, subst (Verdict p o) e (verdict p o))))

pub alike_or_full : (p : Projection) (left right : List Operation) → AlikeOrFull p left right
alike_or_full p left right q v k g = go (apply_operations p right) refl
  where
    keys_fit : KeysFit p right
    keys_fit t n = some-ne-none _ (sym ((ran p left q (valid_ordered p v) g).lists t) ∙ ap (list_after (values_at p t)) (k t) ∙ n)

    go : (x : Outcome) → apply_operations p right ≡ x → (apply_operations p right ≡ done q) ⊎ (apply_operations p right ≡ stopped projection_full)
    go (done r) h = inl (h ∙ ap done (sym (order_is_free p left right q r v k g h)))
    go (stopped f) h = inr (h ∙ ap stopped (keys_fit_full p right f (valid_ordered p v) keys_fit h))

-- ---- one runs, and there is room: no 9

-- a place for all that a list sets and inserts
abbrev Room : Projection → List Operation → Type 0
Room p os = WithinCapacities (length (put_all binding_key sets_binding p.bindings os)) (length (put_all availability_key sets_availability p.availabilities os)) (length p.entries + insert_count os)

room_first : (p : Projection) (o : Operation) (os : List Operation) → Room p (o ∷ os) → VerdictPlace p o
unfolding put_all insert_count
room_first p o os w = record {
  bindings = omega (arith, put_all_grows binding_key sets_binding (put binding_key (sets_binding o) p.bindings) os, w.bindings);
  availabilities = omega (arith, put_all_grows availability_key sets_availability (put availability_key (sets_availability o) p.availabilities) os, w.availabilities);
  entries = omega (arith, w.entries);
}

room_rest : (p : Projection) (o : Operation) (os : List Operation) (r : Projection) → Leaves p o r → Room p (o ∷ os) → Room r os
unfolding put_all insert_count
room_rest p o os r s w = record { bindings = rw s.bindings w.bindings; availabilities = rw s.availabilities w.availabilities; entries = omega (arith, s.entries, w.entries) }

never_full : (p : Projection) (os : List Operation) → Room p os → apply_operations p os ≢ stopped projection_full
unfolding apply_operations
never_full p [] w h = stopped_not_done (sym h)
never_full p (o ∷ os) w h = go (apply_operation p 0 o) (verdict p o) h (λ r. never_full r os)
  where
    go : (x : Outcome) → Verdict p o x → and_then x (λ r. apply_operations r os) ≡ stopped projection_full → ((r : Projection) → Room r os → apply_operations r os ≢ stopped projection_full) → ⊥
    go (done r) s h later = later r (room_rest p o os r s w) h
    go (stopped projection_full) s h later = s.1 (room_first p o os w)
    go (stopped key_rule) s h later = let z : ◌≡◌ {A = ℕ} 0 1 = cc in omega arith

-- a rearrangement inserts as many
count_exchanges : {left right : List Operation} → Exchanges left right → insert_count left ≡ insert_count right
unfolding insert_count
count_exchanges (unchanged os) = refl
count_exchanges (exchange a b os n) = omega arith
count_exchanges (behind o x) = ap (λ n. inserted o + n) (count_exchanges x)
count_exchanges (further x y) = count_exchanges x ∙ count_exchanges y

pub runs_with_room : (p : Projection) (left right : List Operation) → RunsWithRoom p left right
runs_with_room p left right q v k m g =
    let x = (kept_exactly left right).0 k in
    let a = ran p left q (valid_ordered p v) g in
    let few = a.fits (record { bindings = v.few_bindings; availabilities = v.few_availabilities; entries = v.few_entries }) in
    let room : Room p right = record {
      bindings = rw (← (bindings_exchange x p.bindings v.bindings), ← a.bindings) few.bindings;
      availabilities = rw (← (availabilities_exchange x p.availabilities v.availabilities), ← a.availabilities) few.availabilities;
      entries = omega (arith, count_exchanges x, m);
    } in
    ⊎_elim (λ e. e) (λ e. absurd (never_full p right room e)) (alike_or_full p left right q v k g)

-- ---- grouping

-- by any targets that cover the list, in any order of them
module _ (p : Projection) (ts : List Target) (os : List Operation) (v : Valid p) (d : distinct ts ≡ true) (c : covers ts os ≡ true) where
  -- harmless if both run
  pub grouping_is_free : (q r : Projection) → apply_operations p os ≡ done q → apply_operations p (grouped_by ts os) ≡ done r → q ≡ r
  grouping_is_free q r g h = order_is_free p os (grouped_by ts os) q r v (grouping_keeps ts os d c) g h

  -- and with room for every insert it runs
  pub grouping_with_room : (q : Projection) → HasRoom p os → apply_operations p os ≡ done q → apply_operations p (grouped_by ts os) ≡ done q
  grouping_with_room q m g = runs_with_room p os (grouped_by ts os) q v (grouping_keeps ts os d c) m g
