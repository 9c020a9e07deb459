-- The plan that a batch starts from has such sources, and planned operations keep that.
use Rattle.std.specs.Prelude.{ℕ, suc, ◌+◌, ◌≤◌, ◌<◌, ◌≡◌, refl, length}
use Rattle.std.proofs.Math.Path.{sym, subst}
use Rattle.std.proofs.Common.{ap, ◌∙◌, subst₂, arith}
use mathlib.Core.List.{List, [], ◌∷◌, map}
use Rattle.std.proofs.Math.ListN.{get_or}
use Rattle.std.proofs.lemmas.List.{length-map}
use Rattle.spec_lists.specs.Lists.{All}
use Rattle.spec_lists.proofs.OrderLaws.{upsert_all}
use Rattle.spec_patch.specs.Edition.{Edition}
use Rattle.spec_patch.specs.Patch.{Value, Operation, set_binding, set_availability, insert, update, remove, move}
use Rattle.spec_patch.specs.Fits.{OperationHolds}
use Rattle.spec_projection.specs.Projection.{Binding, Entry, Projection, binding_key}
use Rattle.spec_projection.specs.FirstMatch.{find_first}
use Rattle.spec_projection.proofs.FirstMatchLaws.{find_first_all}
use Rattle.spec_projection.specs.Entries.{is_entry}
use Rattle.spec_projection.proofs.EntriesLaws.{insert_entry_all, replace_entry_all, remove_entry_all}
use Rattle.spec_projection.specs.Apply.{done, with_bindings, with_availabilities, with_entries, apply_operation}
use Rattle.spec_projection.proofs.OperationLaws.{applied_binding, applied_availability, applied_insert, applied_update, applied_remove, applied_move}
use Rattle.spec_projection.specs.Valid.{Valid}
use Rattle.panel_plan.specs.Plan.{old, new, numbered, binding_with, entry_with, plan_of, with_source}
use Rattle.panel_plan.proofs.PlanValid.{holds_with}
use Rattle.panel_plan.specs.SetValues.{StandsAt}
use Rattle.panel_plan.specs.Sources.{binding_front, entry_front, Sourced, from_row, from_set, SourcedBinding, SourcedEntry, SourcedPlan}

-- ---- the plan that a batch starts from

module _ {A : Type 0} (put : A → Value → A) (front : A → List ℕ) (value : A → Value) (same_front : (a : A) (v : Value) → front (put a v) ≡ front a) (is_value : (a : A) (v : Value) → value (put a v) ≡ v)
    (ed : Edition) (fronts : List (List ℕ)) (set : List ℕ) where
  -- the rows from the i-th on, numbered
  numbered_sourced : (i : ℕ) (l : List A) → i + length l ≤ length fronts → ((j k : ℕ) → j ≡ i + k → k < length l → get_or fronts j [] ≡ get_or (map front l) k [])
      → All (λ a. Sourced ed fronts set (front a) (value a)) (numbered put i l)
  unfolding numbered
  numbered_sourced i [] few same = tt
  numbered_sourced i (x ∷ l) few same =
      let here : get_or fronts i [] ≡ front (put x (old i)) = same i 0 (omega arith) (omega arith) ∙ sym (same_front x (old i)) in
      (subst₂ (Sourced ed fronts set) here (sym (is_value x (old i))) (from_row i (omega arith)), numbered_sourced (suc i) l (omega arith) (λ j k e h. same j (suc k) (omega arith) (omega arith)))

sum : (j k : ℕ) → j ≡ 0 + k → j ≡ k
sum j k e = omega arith

pub plan_sourced : (ed : Edition) (p : Projection) (set : List ℕ) → Valid p → SourcedPlan ed p set (plan_of p)
unfolding plan_of binding_with entry_with
plan_sourced ed p set v = record {
  bindings = numbered_sourced binding_with binding_front (λ b. b.value) (λ b v. refl) (λ b v. refl) ed (map binding_front p.bindings) set 0 p.bindings (omega (arith, length-map p.bindings binding_front)) (λ j k e h. ap (λ n. get_or (map binding_front p.bindings) n []) (sum j k e));
  entries = numbered_sourced entry_with entry_front (λ e. e.value) (λ e v. refl) (λ e v. refl) ed (map entry_front p.entries) set 0 p.entries (omega (arith, length-map p.entries entry_front)) (λ j k e h. ap (λ n. get_or (map entry_front p.entries) n []) (sum j k e));
}

-- ---- operations

-- properties of bindings and entries, which those with the operation's value have too
module _ (R : Value → Type 0) (P : Binding → Type 0) (Q : Entry → Type 0) (new-binding : (b : Binding) → R b.value → P b) (new-entry : (e : Entry) → R e.value → Q e) (p q : Projection) where
  abbrev Both : Projection → Type 0
  Both x = All P x.bindings × All Q x.entries

  entries_kept : (es : List Entry) → q ≡ with_entries p es → Both p → All Q es → Both q
  unfolding with_entries
  entries_kept es is b h = subst Both (sym is) (b.0, h)

  pub values_kept : (id : ℕ) (o : Operation) → OperationHolds R o → apply_operation p id o ≡ done q → Both p → Both q
  unfolding OperationHolds apply_operation with_bindings with_availabilities
  values_kept id (set_binding n s v) h is b = subst Both (sym (applied_binding p _ q is).1) (upsert_all binding_key P _ p.bindings (new-binding _ h.1.1) b.0, b.1)
  values_kept id (set_availability n a) h is b = subst Both (sym (applied_availability p _ q is).1) b
  values_kept id (insert c k before v) h is b = entries_kept _ (applied_insert p before _ q is).result b (insert_entry_all Q before _ p.entries (new-entry _ h.1.1.1) b.1)
  values_kept id (update c k v) h is b = entries_kept _ (applied_update p _ q is).1 b (replace_entry_all Q _ p.entries (new-entry _ h.1.1) b.1)
  values_kept id (remove c k) h is b = entries_kept _ (applied_remove p c k q is).1 b (remove_entry_all Q c k p.entries b.1)
  values_kept id (move c k before) h is b =
      let a = applied_move p before (find_first (is_entry c k) p.entries) q is in
      let e = a.entry in
      entries_kept _ a.result b
      (insert_entry_all Q before e _ (find_first_all (is_entry c k) Q p.entries e a.found_entry b.1) (remove_entry_all Q e.collection e.key p.entries b.1))

-- an operation whose value stands at a position of the set, planned with the position
pub operation_sourced : (ed : Edition) (p : Projection) (set : List ℕ) (plan q : Projection) (at id : ℕ) (o : Operation) → OperationHolds (StandsAt ed set at) o → apply_operation plan id (with_source (new at) o) ≡ done q
    → SourcedPlan ed p set plan → SourcedPlan ed p set q
operation_sourced ed p set plan q at id o h is s =
    let R : Value → Type 0 = λ v. (fronts : List (List ℕ)) (front : List ℕ) → Sourced ed fronts set front v in
    let both = values_kept R (SourcedBinding ed p set) (SourcedEntry ed p set) (λ b v. v (map binding_front p.bindings) (binding_front b)) (λ e v. v (map entry_front p.entries) (entry_front e)) plan q id (with_source (new at) o)
    (holds_with (StandsAt ed set at) R (new at) o (λ v there fronts front. from_set front at v there.rest there.fits there.bytes) h) is (s.bindings, s.entries) in
    record { bindings = both.0; entries = both.1 }
