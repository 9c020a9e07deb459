-- What becomes of one table is what becomes of the plan: the two others stay.
use Rattle.std.specs.Prelude.{ℕ, ◌≡◌, refl, List, Result, Ok, Err, OnErr}
use Rattle.std.proofs.Common.{sym, subst}
use Rattle.spec_patch.specs.Sizes.{projection_availabilities}
use Rattle.spec_patch.specs.Edition.{Edition}
use Rattle.spec_patch.specs.Patch.{unsigned}
use Rattle.spec_patch.specs.Fits.{U64, FitsOperation}
use Rattle.spec_projection.specs.Projection.{Projection}
use Rattle.spec_projection.specs.Apply.{Outcome, done, stopped, apply_operation}
use Rattle.spec_projection.specs.Effects.{binding_target, node_target, collection_target, target_of}
use Rattle.spec_projection.proofs.EffectsLaws.{collection_keeps, binding_keeps, availability_keeps}
use Rattle.spec_projection.specs.Valid.{Valid}
use Rattle.spec_projection.proofs.ValidLaws.{apply_operation_valid}
use Rattle.projection_patch.specs.Meaning.{operation_of}
use Rattle.projection_patch.specs.declared.patch.ProjectionPatchOperation.{ProjectionPatchOperation}
use Rattle.projection_patch.specs.declared.patch.ProjectionPatchOperation.TheVariants.{SetBindingValue, SetNodeAvailability, CollectionInsert, CollectionUpdate, CollectionRemove, CollectionMove}
use Rattle.panel_rows.specs.Rows.{availability_width, availability_row}
use Rattle.local_projection_state.specs.Stores.{Stored}
use Rattle.local_projection_state.specs.declared.ProjectionCounts.{ProjectionCounts}
use Rattle.panel_plan.specs.Plan.{with_source}
use Rattle.panel_plan.specs.PlanRows.{PlannedBindings, PlannedEntries, StoredPlan}
use Rattle.panel_bindings.specs.Change.{Became}
use Rattle.panel_operations.specs.OperationChange.{planned_operation, counted_change, TableChanged, BindingsChanged, AvailabilitiesChanged, EntriesChanged}
use Rattle.local_projection_state.specs.declared.LocalProjectionApplicationError.{LocalProjectionApplicationError}

-- the value is not looked at, nor its text
pub planned_is : (texts : List ℕ) (source : ℕ) (o : ProjectionPatchOperation) → with_source (unsigned source) (operation_of texts o) ≡ planned_operation source o
unfolding with_source
planned_is texts source (SetBindingValue t v) = refl
planned_is texts source (SetNodeAvailability n a) = refl
planned_is texts source (CollectionInsert c k b v) = refl
planned_is texts source (CollectionUpdate c k v) = refl
planned_is texts source (CollectionRemove c k) = refl
planned_is texts source (CollectionMove c k b) = refl

-- ---- an answer with its counts

module _ (put : ℕ → ProjectionCounts) where
  counted_became : (Now : ℕ → Projection → Type 0) (Next : ProjectionCounts → Projection → Type 0) (t : Result ℕ LocalProjectionApplicationError) (x : Outcome)
      → ((k : ℕ) (q : Projection) → x ≡ done q → Now k q → Next (put k) q) → Became Now t x → Became Next (counted_change put t) x
  counted_became Now Next (Ok k) (done q) next h = next k q refl h
  counted_became Now Next (Ok k) (stopped f) next h = absurd h
  counted_became Now Next (Err e) (done q) next h = absurd h
  counted_became Now Next (Err e) (stopped f) next h = h

  counted_kept : {entry exit : List ℕ} (Same : Type 0) → (exit ≡ entry → Same) → (t : Result ℕ LocalProjectionApplicationError) → OnErr t (exit ≡ entry) → OnErr (counted_change put t) Same
  counted_kept Same same (Ok k) h = tt
  counted_kept Same same (Err e) h = same h

module _ {A : Type 0} {Table : ℕ → List ℕ → List A → Type 0} {list : Projection → List A} {n : ℕ} {put : ℕ → ProjectionCounts} {entry exit : List ℕ} {apply : Projection → Outcome} {r : Result ProjectionCounts LocalProjectionApplicationError}
    (c : TableChanged Table list n put entry exit apply r) where
  pub changed_kept : (Same : Type 0) → (exit ≡ entry → Same) → OnErr r Same
  changed_kept Same same = subst (λ x. OnErr x Same) (sym c.told) (counted_kept put Same same c.change c.kept)

  changed_became : (p : Projection) → Table n entry (list p) → Valid p → (Next : ProjectionCounts → Projection → Type 0)
      → ((k : ℕ) (q : Projection) → apply p ≡ done q → Table k exit (list q) → Next (put k) q) → Became Next r (apply p)
  changed_became p s v Next next =
      subst (λ x. Became Next x (apply p)) (sym c.told) (counted_became put (λ k q. Table k exit (list q)) Next c.change (apply p) next (c.made p s v))

-- ---- the three tables

-- what the contract says of an operation, with the tables before and after
abbrev pub Planned : ProjectionCounts → (b a e b' a' e' : List ℕ) → (id source : ℕ) → ProjectionPatchOperation → Result ProjectionCounts LocalProjectionApplicationError → Type 0
Planned n b a e b' a' e' id source operation r =
    ((ed : Edition) (p : Projection) → StoredPlan n b a e p → FitsOperation ed (planned_operation source operation) → Became (λ m q. StoredPlan m b' a' e' q) r (apply_operation p id (planned_operation source operation)))
    × OnErr r ((b' ≡ b) × (a' ≡ a) × (e' ≡ e))

module _ (n : ProjectionCounts) (b a e exit : List ℕ) (id : ℕ) (u : U64 id) (source : ℕ) (operation o : ProjectionPatchOperation) (told : operation ≡ o) (r : Result ProjectionCounts LocalProjectionApplicationError) where
  abbrev applied : Projection → Outcome
  applied p = apply_operation p id (planned_operation source o)

  pub binding_planned : (node slot : ℕ) → target_of (planned_operation source o) ≡ binding_target node slot → BindingsChanged n b exit applied r → Planned n b a e exit a e id source operation r
  binding_planned node slot t c = subst (λ x. Planned n b a e exit a e id source x r) (sym told) (
    (λ ed p s fits. changed_became c p s.bindings s.valid (λ m q. StoredPlan m exit a e q) (λ k q is h. let kept = binding_keeps p id _ q is node slot t in record {
      bindings = h;
      availabilities = subst (Stored availability_row availability_width projection_availabilities n.availabilities a) (sym kept.0) s.availabilities;
      entries = subst (PlannedEntries n.entries e) (sym kept.1) s.entries;
      valid = apply_operation_valid ed p id _ q u fits s.valid is;
    })),
    changed_kept c ((exit ≡ b) × (a ≡ a) × (e ≡ e)) (λ same. (same, refl, refl)),
  )

  pub availability_planned : (node : ℕ) → target_of (planned_operation source o) ≡ node_target node → AvailabilitiesChanged n a exit applied r → Planned n b a e b exit e id source operation r
  availability_planned node t c = subst (λ x. Planned n b a e b exit e id source x r) (sym told) (
    (λ ed p s fits. changed_became c p s.availabilities s.valid (λ m q. StoredPlan m b exit e q) (λ k q is h. let kept = availability_keeps p id _ q is node t in record {
      bindings = subst (PlannedBindings n.bindings b) (sym kept.0) s.bindings;
      availabilities = h;
      entries = subst (PlannedEntries n.entries e) (sym kept.1) s.entries;
      valid = apply_operation_valid ed p id _ q u fits s.valid is;
    })),
    changed_kept c ((b ≡ b) × (exit ≡ a) × (e ≡ e)) (λ same. (refl, same, refl)),
  )

  pub entry_planned : (i : ℕ) → target_of (planned_operation source o) ≡ collection_target i → EntriesChanged n e exit applied r → Planned n b a e b a exit id source operation r
  entry_planned i t c = subst (λ x. Planned n b a e b a exit id source x r) (sym told) (
    (λ ed p s fits. changed_became c p s.entries s.valid (λ m q. StoredPlan m b a exit q) (λ k q is h. let kept = collection_keeps p id _ q is i t in record {
      bindings = subst (PlannedBindings n.bindings b) (sym kept.0) s.bindings;
      availabilities = subst (Stored availability_row availability_width projection_availabilities n.availabilities a) (sym kept.1) s.availabilities;
      entries = h;
      valid = apply_operation_valid ed p id _ q u fits s.valid is;
    })),
    changed_kept c ((b ≡ b) × (a ≡ a) × (exit ≡ e)) (λ same. (refl, refl, same)),
  )
