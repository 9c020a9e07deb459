-- A run over a set, one step at a time: what is left, from the projection that the plan stands for now, gives what the whole gives.
use Rattle.std.specs.Prelude as code
use Prim.Native.Nat.{ℕ, ◌+◌, ◌-◌, ◌≤◌, ◌<◌}
use mathlib.Core.Logic.{◌≢◌, inl, inr}
use mathlib.Core.Bool.{false}
use mathlib.Core.Path.{◌≡◌, refl, sym, ap, ap₂, ◌∙◌, subst}
use mathlib.Core.List.{List, [], ◌∷◌, ◌++◌, map, flat_map}
use mathlib.Core.Option.{none, some}
use native.Mathlib.Omega.{arith}
use denote.Enum.Declared.{tag_of}
use types.Run.{OneOf}
use lib.ListN.{length, drop}
use Rattle.spec_lists.specs.Lists.{All}
use Rattle.spec_lists.proofs.BytesLaws.{length_little_endian}
use Rattle.spec_patch.specs.Sizes.{projection_entries}
use Rattle.spec_patch.specs.Edition.{Edition}
use Rattle.spec_patch.specs.Patch.{unsigned, Operation, set_binding, set_availability, insert, update, remove, move, Patch}
use Rattle.spec_patch.specs.Encode.{encode_optional}
use Rattle.spec_patch.specs.Fits.{U64, OperationHolds, FitsOperation}
use Rattle.spec_projection.specs.Projection.{Projection}
use Rattle.spec_projection.specs.Apply.{Outcome, done, stopped, step_of, patch_steps, replay_steps, apply_step, and_then, apply_operation, apply_steps}
use Rattle.spec_projection.specs.Valid.{Valid}
use Rattle.spec_explain.specs.Walk.{walk_patches}
use Rattle.spec_explain.specs.Explain.{kept_projection, step_kept}
use Rattle.projection_patch.specs.Widths.{past_neighbour}
use Rattle.projection_patch.specs.Meaning.{operation_of}
use Rattle.projection_patch.specs.ReadAnswers.{lent_from}
use Rattle.projection_patch.specs.declared.patch.ProjectionPatch.{ProjectionPatch}
use Rattle.projection_patch.specs.declared.patch.ProjectionPatchOperation.{ProjectionPatchOperation}
use Rattle.projection_patch.specs.declared.patch.ProjectionPatchOperation.TheVariants.{SetBindingValue, SetNodeAvailability, CollectionInsert, CollectionUpdate, CollectionRemove, CollectionMove}
use Rattle.patch_walk.specs.Steps.{step_answer, StepWithin, AtSteps}
use Rattle.patch_walk.proofs.StepsLaws.{Visited, Opened, visited, opened, done as all_done, never_refused}
use Rattle.patch_walk.specs.declared.SetCursor.{SetCursor}
use Rattle.patch_walk.specs.Steps.{StepAnswer}
use Rattle.patch_walk.specs.declared.SetStep.TheVariants as set-step
use Rattle.local_projection_state.specs.declared.ProjectionCounts.{ProjectionCounts}
use Rattle.panel_plan.specs.Resolved.{Resolution, resolved, resolved_outcome}
use Rattle.panel_plan.specs.Plan.{new, resolution, plan_of, with_source}
use Rattle.panel_plan.proofs.PlanLaws.{plan_resolves, planned_operation_lem}
use Rattle.panel_plan.specs.PlanRows.{StoredPlan}
use Rattle.panel_plan.proofs.PlanValid.{planned_fits}
use Rattle.panel_plan.specs.SetValues.{value_in, value_offset, StandsAt}
use Rattle.panel_plan.proofs.SetValuesLaws.{value_there, value_stands}
use Rattle.panel_plan.proofs.SourcesLaws.{plan_sourced, operation_sourced}
use Rattle.local_projection_state.specs.declared.LocalProjectionApplicationError.{LocalProjectionApplicationError}
use Rattle.panel_operations.specs.OperationChange.{planned_operation}
use Rattle.panel_operations.specs.OperationLaws.{planned_is}
use Rattle.patch_walk.specs.contracts.SetStep as set-steps
use Rattle.panel_steps.specs.Runs.{run_head, RunBecame, PlannedAs, RunWalked, patches_passed, patch_index, operation_index, HaltsAt, RunTold}
use Rattle.panel_steps.specs.Walking.{Walking, walk_start, walk_counted, walk_end, walk_head, walk_on_lem, walk_halts}
use Rattle.projection_patch.specs.declared.read_values.ProjectionPatchReadFault.{ProjectionPatchReadFault}
use Rattle.panel_steps.specs.declared.PlanStop.{PlanStop}
use Rattle.panel_steps.specs.declared.PlanStop.TheVariants.{Refused}
use Rattle.std.specs.Prelude.{Option, Some, None, Result, Ok, Err, OnErr}
use Rattle.panel_bindings.specs.Change.{Became}

-- the bytes before a value are as many, whatever the value
pub offset_is : (texts : List ℕ) (o : ProjectionPatchOperation) → value_offset (operation_of texts o) ≡ value_offset (operation_of [] o)
unfolding value_offset
offset_is texts (SetBindingValue t v) = refl
offset_is texts (SetNodeAvailability n a) = refl
offset_is texts (CollectionInsert c k b v) = refl
offset_is texts (CollectionUpdate c k v) = refl
offset_is texts (CollectionRemove c k) = refl
offset_is texts (CollectionMove c k b) = refl

pub offset_small : (o : Operation) → value_offset o ≤ past_neighbour
unfolding value_offset encode_optional
offset_small (set_binding n s v) = omega arith
offset_small (set_availability n a) = omega arith
offset_small (insert c k none v) = omega arith
offset_small (insert c k (some i) v) = omega (arith, length_little_endian 8 i)
offset_small (update c k v) = omega arith
offset_small (remove c k) = omega arith
offset_small (move c k before) = omega arith

-- ---- where a step ends

pub operation_within : (c : SetCursor) (size : ℕ) {r : StepAnswer} (x : ProjectionPatchOperation) (d : SetCursor) → r ≡ code.Ok (set-step.Operation x d) → StepWithin c size r → (c.at < d.at) × (d.at ≤ size)
operation_within c size x d is h = subst (StepWithin c size) is h

pub head_within : (c : SetCursor) (size : ℕ) {r : StepAnswer} (x : ProjectionPatch) (d : SetCursor) → r ≡ code.Ok (set-step.Head x d) → StepWithin c size r → (c.at < d.at) × (d.at ≤ size)
head_within c size x d is h = subst (StepWithin c size) is h

-- a step that was told as a head
pub record HeadAt (s : StepAnswer) (d : SetCursor) : Type 0 where
  pub head : ProjectionPatch
  pub is : s ≡ code.Ok (set-step.Head head d)

pub opened_step : (s : StepAnswer) (d : SetCursor) → Ok (Some d) ≡ run_head s → HeadAt s d
opened_step (code.Ok (set-step.Head h x)) d e = let same : x ≡ d = cc in record { head = h; is = ap (λ (y : SetCursor). code.Ok (set-step.Head h y)) same }
opened_step (code.Ok (set-step.Operation x f)) d e = absurd (let z : ◌≡◌ {A = ℕ} 0 1 = cc in omega arith)
opened_step (code.Ok set-step.End) d e = absurd (let z : ◌≡◌ {A = ℕ} 0 1 = cc in omega arith)
opened_step (code.Err f) d e = absurd (let z : ◌≡◌ {A = ℕ} 0 1 = cc in omega arith)

pub opened_within : (c : SetCursor) (size : ℕ) (s : StepAnswer) (d : SetCursor) → Ok (Some d) ≡ run_head s → StepWithin c size s → (c.at < d.at) × (d.at ≤ size)
opened_within c size s d e h = let x = opened_step s d e in head_within c size x.head d x.is h

-- where operations are left one stands there
module _ {ed : Edition} {set : List ℕ} {c : SetCursor} {os : List Operation} {ps : List Patch} (here : AtSteps ed set c os ps) where
  pub some_operation : c.operations_left ≢ 0 → (s : StepAnswer) → s ≡ step_answer false ed c set → ((x : ProjectionPatchOperation) (d : SetCursor) → s ≡ code.Ok (set-step.Operation x d) → ⊥) → ⊥
  some_operation left (code.Ok (set-step.Head h d)) is k = left (sym here.operations ∙ ap length (opened false ed set c here is h d refl).none)
  some_operation left (code.Ok (set-step.Operation x d)) is k = k x d refl
  some_operation left (code.Ok set-step.End) is k = left (sym here.operations ∙ ap length (all_done false ed set c here is refl).0)
  some_operation left (code.Err f) is k = never_refused false ed set c here is f refl

-- ---- a run

-- operations of the cursor's patch are left, then patches; applying their steps to what the plan stands for gives what the whole run gives,
-- and so does the walk over them, counted as the cursor tells
pub record Running (ed : Edition) (p : Projection) (all : List Patch) (set : List ℕ) (c : SetCursor) (n : ProjectionCounts) (b a e : List ℕ) : Type 0 where
  pub model : Projection
  pub planned : PlannedAs ed p set b a e n model
  pub walk : Walking step_kept ed set (walk_patches step_kept 0 p all) c (patches_passed (length all) c) (patch_index (length all) c) (operation_index c) model
  pub few_patches : c.patches_left ≤ length all
  pub few_operations : c.operations_left ≤ c.operation_count
  pub same : apply_steps model (map (step_of c.patch_id) walk.os ++ replay_steps walk.ps) ≡ apply_steps p (replay_steps all)

-- what an operation's answer makes of a run: it goes on, or the tables are as before, and the answer is the operation's refusal
abbrev AfterTurn : Edition → Projection → List Patch → List ℕ → (c d : SetCursor) → ProjectionCounts → (b a e b' a' e' : List ℕ) → Result ProjectionCounts LocalProjectionApplicationError → Type 0
AfterTurn ed p all set c d n b a e b' a' e' (Ok m) = Running ed p all set d m b' a' e'
AfterTurn ed p all set c d n b a e b' a' e' (Err error) = RunTold ed p all set b a e (Err (Refused error c n))

pub record Turned (ed : Edition) (p : Projection) (all : List Patch) (set : List ℕ) (c d : SetCursor) (n : ProjectionCounts) (b a e b' a' e' : List ℕ) (r : Result ProjectionCounts LocalProjectionApplicationError) : Type 0 where
  after : AfterTurn ed p all set c d n b a e b' a' e' r

module _ {ed : Edition} {p : Projection} {all : List Patch} {set : List ℕ} {c d : SetCursor} {n : ProjectionCounts} {b a e b' a' e' : List ℕ} {r : Result ProjectionCounts LocalProjectionApplicationError} (t : Turned ed p all set c d n b a e b' a' e' r) where
  pub turned_on : {m : ProjectionCounts} → r ≡ Ok m → Running ed p all set d m b' a' e'
  turned_on is = subst (AfterTurn ed p all set c d n b a e b' a' e') is t.after

  pub turned_stop : {error : LocalProjectionApplicationError} → r ≡ Err error → OnErr r ((b' ≡ b) × (a' ≡ a) × (e' ≡ e)) → RunTold ed p all set b' a' e' (Err (Refused error c n))
  turned_stop {error} is kept =
      let same = subst (λ x. OnErr x ((b' ≡ b) × (a' ≡ a) × (e' ≡ e))) is kept in
      let told = subst (AfterTurn ed p all set c d n b a e b' a' e') is t.after in
      subst (λ (l : List ℕ). RunTold ed p all set l a' e' (Err (Refused error c n))) (sym same.0)
      (subst (λ (l : List ℕ). RunTold ed p all set b l e' (Err (Refused error c n))) (sym same.1) (subst (λ (l : List ℕ). RunTold ed p all set b a l (Err (Refused error c n))) (sym same.2) told))

module _ {ed : Edition} {p : Projection} {set : List ℕ} where
  pub run_start : {c : SetCursor} {n : ProjectionCounts} {b a e : List ℕ} (ps : List Patch) → Valid p → StoredPlan n b a e (plan_of p) → AtSteps ed set c [] ps → Running ed p ps set c n b a e
  unfolding walk_start walk_counted
  run_start {c} ps v s h =
      let none : length ps - c.patches_left ≡ 0 = omega (arith, h.patches) in
      record {
        model = p;
        planned = record { plan = plan_of p; stored = s; sourced = plan_sourced ed p set v; resolves = plan_resolves p (value_in ed set) (omega (arith, v.few_bindings)) v.few_entries };
        walk = walk_counted step_kept ed set _ (walk_start step_kept ed set _ ps p h refl) none refl refl;
        few_patches = omega (arith, h.patches);
        few_operations = omega (arith, h.operations);
        same = refl;
      }

  module _ {c : SetCursor} {n : ProjectionCounts} {b a e : List ℕ} {all : List Patch} (run : Running ed p all set c n b a e) where
    run_end : (run.walk.os ≡ []) × (run.walk.ps ≡ []) → RunTold ed p all set b a e (Ok n)
    unfolding replay_steps flat_map apply_steps
    run_end ended = record {
      became = subst (RunBecame (PlannedAs ed p set b a e) (Ok n))
          (ap₂ (λ (os : List Operation) (ps : List Patch). apply_steps run.model (map (step_of c.patch_id) os ++ replay_steps ps)) (sym ended.0) (sym ended.1) ∙ run.same) run.planned;
      walked = subst (RunWalked (PlannedAs ed p set b a e) (HaltsAt ed set (length all)) (Ok n)) (sym (walk_end step_kept ed set _ run.walk ended)) run.planned;
    }

    -- a patch's head: its operations are left now
    run_head_lem : {head : ProjectionPatch} {d : SetCursor} → Opened ed set c run.walk.os run.walk.ps head d → Running ed p all set d n b a e
    unfolding replay_steps patch_steps flat_map walk_head walk_counted
    run_head_lem {head} {d} o =
        let some' : c.patches_left ≡ length o.rest + 1 = sym run.walk.here.patches ∙ ap length o.is ∙ (omega arith) in
        let patches : d.patches_left ≡ c.patches_left - 1 = ap (λ (x : SetCursor). x.patches_left) o.behind in
        let operations : d.operations_left ≡ d.operation_count = ap (λ (x : SetCursor). x.operations_left) o.behind ∙ sym (ap (λ (x : SetCursor). x.operation_count) o.behind) in
        record {
          model = run.model;
          planned = run.planned;
          walk = walk_counted step_kept ed set _ (walk_head step_kept ed set _ run.walk o) (omega (arith, run.few_patches)) (omega (arith, run.few_patches)) (omega arith);
          few_patches = omega (arith, run.few_patches);
          few_operations = omega arith;
          same =
              ap (λ (id : ℕ). apply_steps run.model (map (step_of id) o.first.operations ++ replay_steps o.rest)) (ap (λ (e : SetCursor). e.patch_id) o.behind ∙ ap (λ (x : ProjectionPatch). x.envelope.patch_id.0) o.placed)
              ∙ ap₂ (λ (os : List Operation) (ps : List Patch). apply_steps run.model (map (step_of c.patch_id) os ++ replay_steps ps)) (sym o.none) (sym o.is) ∙ run.same;
        }

    -- the same of the step that was told
    pub run_opened : {d : SetCursor} → Ok (Some d) ≡ run_head (step_answer false ed c set) → Running ed p all set d n b a e
    run_opened {d} e = let x = opened_step (step_answer false ed c set) d e in run_head_lem (opened false ed set c run.walk.here refl x.head d x.is)

    -- where no operation is left the run ends at the end alone
    pub run_ended : Ok None ≡ run_head (step_answer false ed c set) → RunTold ed p all set b a e (Ok n)
    run_ended told = go (step_answer false ed c set) refl told
      where
        go : (s : StepAnswer) → s ≡ step_answer false ed c set → Ok None ≡ run_head s → RunTold ed p all set b a e (Ok n)
        go (code.Ok (set-step.Head h d)) is t = absurd (let z : ◌≡◌ {A = ℕ} 0 1 = cc in omega arith)
        go (code.Ok (set-step.Operation x d)) is t = absurd (let z : ◌≡◌ {A = ℕ} 0 1 = cc in omega arith)
        go (code.Ok set-step.End) is t = run_end (all_done false ed set c run.walk.here is refl)
        go (code.Err f) is t = absurd (let z : ◌≡◌ {A = ℕ} 0 1 = cc in omega arith)

    -- and nothing there is unreadable
    pub never_unread : c.operations_left ≡ 0 → {f : ProjectionPatchReadFault} → Err f ≡ run_head (step_answer false ed c set) → ⊥
    never_unread all-passed {f} told = go (step_answer false ed c set) refl told
      where
        go : (s : StepAnswer) → s ≡ step_answer false ed c set → Err f ≡ run_head s → ⊥
        go (code.Ok (set-step.Head h d)) is t = let z : ◌≡◌ {A = ℕ} 0 1 = cc in omega arith
        go (code.Ok (set-step.Operation x d)) is t = let v = visited false ed set c run.walk.here is x d refl in omega (arith, all-passed, run.walk.here.operations, ap length v.is)
        go (code.Ok set-step.End) is t = let z : ◌≡◌ {A = ℕ} 0 1 = cc in omega arith
        go (code.Err g) is t = never_refused false ed set c run.walk.here is g refl

    -- ---- an operation

    module _ {x : ProjectionPatchOperation} {d : SetCursor} (v : Visited ed set c run.walk.os run.walk.ps x d) {source : ℕ} (is : source ≡ projection_entries + (c.at + value_offset (operation_of [] x))) where
      abbrev at : ℕ
      at = c.at + value_offset v.first

      fits : FitsOperation ed v.first
      fits = (subst (All (FitsOperation ed)) v.is run.walk.here.fit).0

      -- its value stands at the source's position
      stands : OperationHolds (StandsAt ed set at) v.first
      stands = value_stands ed set c.at v.first (drop d.at set) fits v.taken

      -- what is planned is the operation with that position
      pub planned_here : planned_operation source x ≡ with_source (new at) v.first
      unfolding new
      planned_here =
          sym (planned_is (lent_from set c.at) source x)
          ∙ ap₂ (λ (n : ℕ) (o : Operation). with_source (unsigned n) o) (is ∙ ap (λ (k : ℕ). projection_entries + (c.at + k)) (sym (offset_is (lent_from set c.at) x) ∙ ap value_offset v.means)) v.means

      pub fits_planned : U64 source → FitsOperation ed (planned_operation source x)
      fits_planned h = subst (FitsOperation ed) (ap (with_source (unsigned source)) (sym v.means) ∙ planned_is (lent_from set c.at) source x) (planned_fits ed source v.first h fits)

      abbrev R : Resolution
      R = resolution p (value_in ed set)

      abbrev planning : Outcome
      planning = apply_operation run.planned.plan c.patch_id (planned_operation source x)

      -- applying the operation to what the plan stands for
      applying : apply_operation run.model c.patch_id v.first ≡ resolved_outcome R planning
      applying =
          ap (λ q. apply_operation q c.patch_id v.first) (sym run.planned.resolves)
          ∙ planned_operation_lem p (value_in ed set) at (StandsAt ed set at) (value_there at) run.planned.plan c.patch_id v.first stands
          ∙ ap (λ o. resolved_outcome R (apply_operation run.planned.plan c.patch_id o)) (sym planned_here)

      abbrev left : Projection → Outcome
      left q = apply_steps q (map (step_of c.patch_id) v.rest ++ replay_steps run.walk.ps)

      -- the whole, by what planning the operation gives
      by_step : (y : Outcome) → planning ≡ y → and_then (resolved_outcome R y) left ≡ apply_steps p (replay_steps all)
      unfolding apply_steps apply_step
      by_step y e =
          ap (λ z. and_then z left) (sym (applying ∙ ap (resolved_outcome R) e))
          ∙ ap (λ (os : List Operation). apply_steps run.model (map (step_of c.patch_id) os ++ replay_steps run.walk.ps)) (sym v.is) ∙ run.same

      -- and what it is to the walk
      kept : (y : Outcome) → planning ≡ y → step_kept run.model c.patch_id v.first ≡ kept_projection (resolved_outcome R y)
      unfolding step_kept
      kept y e = ap kept_projection (applying ∙ ap (resolved_outcome R) e)

      -- the walk behind it
      walk_behind : (q : Projection) → planning ≡ done q → Walking step_kept ed set (walk_patches step_kept 0 p all) d (patches_passed (length all) d) (patch_index (length all) d) (operation_index d) (resolved R q)
      unfolding kept_projection
      walk_behind q e =
          let some' : c.operations_left ≡ length v.rest + 1 = sym run.walk.here.operations ∙ ap length v.is ∙ (omega arith) in
          let patches : d.patches_left ≡ c.patches_left = ap (λ (x : SetCursor). x.patches_left) v.behind in
          let operations : d.operations_left ≡ c.operations_left - 1 = ap (λ (x : SetCursor). x.operations_left) v.behind in
          let operation-count : d.operation_count ≡ c.operation_count = ap (λ (x : SetCursor). x.operation_count) v.behind in
          walk_counted step_kept ed set _ (walk_on_lem step_kept ed set _ run.walk v (resolved R q) (kept (done q) e))
          (omega arith) (omega arith) (omega (arith, run.few_operations))

      -- the run after the operation, or the answer: the operation's refusal
      pub run_turn : (b' a' e' : List ℕ) (r : Result ProjectionCounts LocalProjectionApplicationError) → Became (λ m q. StoredPlan m b' a' e' q) r planning → Turned ed p all set c d n b a e b' a' e' r
      unfolding kept_projection walk_behind walk_on_lem walk_counted
      run_turn b' a' e' r became = record { after = go r planning refl became }
        where
          go : (r : Result ProjectionCounts LocalProjectionApplicationError) (y : Outcome) → planning ≡ y → Became (λ m q. StoredPlan m b' a' e' q) r y → AfterTurn ed p all set c d n b a e b' a' e' r
          go (Ok m) (done q) gives h = record {
            model = resolved R q;
            planned = record {
              plan = q;
              stored = h;
              sourced = operation_sourced ed p set run.planned.plan q at c.patch_id v.first stands (ap (apply_operation run.planned.plan c.patch_id) (sym planned_here) ∙ gives) run.planned.sourced;
              resolves = refl;
            };
            walk = walk_behind q gives;
            few_patches = omega (arith, run.few_patches, ap (λ (x : SetCursor). x.patches_left) v.behind);
            few_operations = omega (arith, run.few_operations, ap (λ (x : SetCursor). x.operations_left) v.behind, ap (λ (x : SetCursor). x.operation_count) v.behind);
            same = ap (λ (f : SetCursor). apply_steps (resolved R q) (map (step_of f.patch_id) v.rest ++ replay_steps run.walk.ps)) v.behind ∙ by_step (done q) gives;
          }
          go (Ok m) (stopped f) gives h = absurd h
          go (Err error) (done q) gives h = absurd h
          go (Err error) (stopped f) gives h = record {
            became = subst (RunBecame (PlannedAs ed p set b a e) (Err (Refused error c n))) (by_step (stopped f) gives) h;
            walked = subst (RunWalked (PlannedAs ed p set b a e) (HaltsAt ed set (length all)) (Err (Refused error c n))) (sym (walk_halts step_kept ed set _ run.walk v (kept (stopped f) gives)))
                (run.planned, record { later = v.rest; rest = run.walk.ps; here = subst (λ os. AtSteps ed set c os run.walk.ps) v.is run.walk.here; patch = refl; operation = refl });
          }
