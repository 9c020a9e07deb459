-- Which rule an operation breaks is told by the keys alone, and so by a plan; and what a run answers is what the walk gives.
use Rattle.std.specs.Prelude.{ℕ, ◌≡◌, Bool, ◌||◌, length}
use Rattle.std.proofs.Math.Path.{refl, ap}
use Rattle.std.proofs.Common.{sym, ap₂, ◌∙◌, subst}
use mathlib.Core.List.{List, [], ◌∷◌, map, head-eq_of_cons-eq}
use Rattle.std.proofs.Math.Option.{Option, none, some}
use Rattle.spec_patch.specs.Edition.{Edition}
use Rattle.spec_patch.specs.Patch.{Patch, Operation, set_binding, set_availability, insert, update, remove, move}
use Rattle.spec_projection.specs.Projection.{Entry, Projection}
use Rattle.spec_projection.specs.Entries.{is_entry, contains, contains_neighbour}
use Rattle.spec_projection.specs.RowMap.{map_rows}
use Rattle.spec_explain.specs.OperationRule.{rule_of}
use Rattle.spec_explain.specs.Walk.{Halt, Walk, through, halted, walk_patches}
use Rattle.spec_explain.specs.Explain.{step_kept}
use Rattle.projection_patch.specs.Meaning.{operation_of}
use Rattle.projection_patch.specs.ReadAnswers.{lent_from}
use Rattle.projection_patch.specs.declared.patch.ProjectionPatchOperation.{ProjectionPatchOperation}
use Rattle.patch_walk.proofs.StepsLaws.{Visited}
use Rattle.patch_walk.specs.declared.SetCursor.{SetCursor}
use Rattle.panel_plan.specs.Plan.{resolution}
use Rattle.panel_plan.specs.Resolved.{Resolution, resolved_entry, resolving, resolved}
use Rattle.panel_plan.specs.SetValues.{value_in}
use Rattle.local_projection_state.specs.declared.ProjectionCounts.{ProjectionCounts}
use Rattle.panel_steps.specs.Runs.{RunWalked, PlannedAs, patch_index, operation_index, HaltsAt, RunTold}
use Rattle.panel_steps.specs.declared.PlanStop.{PlanStop}
use Rattle.panel_steps.specs.declared.PlanStop.TheVariants as plan
use Rattle.local_projection_state.specs.declared.LocalProjectionApplicationError.{LocalProjectionApplicationError}
use Rattle.projection_patch.specs.declared.read_values.ProjectionPatchReadFault.{ProjectionPatchReadFault}
use Rattle.session_explain.specs.Reasons.{operation_rule_to}
use Rattle.session_explain.specs.Refused.{StandsFor, reason_refused_to}
use Rattle.std.specs.Prelude as code
use Rattle.std.specs.Prelude.{Result, Ok, Err}
use Rattle.session_explain.specs.declared.reasons.OperationRule.{OperationRule}

-- ---- values are not looked at

module _ (r : Resolution) where
  resolved_contains : (c k : ℕ) (es : List Entry) → contains c k (map (resolved_entry r) es) ≡ contains c k es
  unfolding contains is_entry resolved_entry
  resolved_contains c k [] = refl
  resolved_contains c k (e ∷ es) = ap (λ (t : Bool). is_entry c k e || t) (resolved_contains c k es)

  resolved_neighbour : (c : ℕ) (before : Option ℕ) (es : List Entry) → contains_neighbour c before (map (resolved_entry r) es) ≡ contains_neighbour c before es
  unfolding contains_neighbour
  resolved_neighbour c none es = refl
  resolved_neighbour c (some k) es = resolved_contains c k es

  -- the rule of an operation is that on what the plan stands for
  resolved_rule : (p : Projection) (o : Operation) → rule_of (resolved r p) o ≡ rule_of p o
  unfolding rule_of map_rows resolving
  resolved_rule p (set_binding n s v) = refl
  resolved_rule p (set_availability n a) = refl
  resolved_rule p (insert c k before v) = rw (resolved_contains c k p.entries, resolved_neighbour c before p.entries)
  resolved_rule p (update c k v) = refl
  resolved_rule p (remove c k) = refl
  resolved_rule p (move c k before) = rw (resolved_contains c k p.entries)

-- ---- the operation at a cursor

module _ {ed : Edition} {set : List ℕ} {count : ℕ} {c : SetCursor} {h : Halt Projection} (k : HaltsAt ed set count c h) {n : ℕ} {e : List ℕ} (s : StandsFor n e h.left) where
  -- told by its place and its rule
  pub halt_told : {x : ProjectionPatchOperation} {d : SetCursor} → Visited ed set c (h.refused ∷ k.later) k.rest x d → (patch index : ℕ) (rule : OperationRule) → patch ≡ patch_index count c → index ≡ operation_index c
      → rule ≡ operation_rule_to (rule_of s.plan (operation_of (lent_from set c.at) x)) → Ok (code.Some (patch, index, rule)) ≡ reason_refused_to (halted h)
  halt_told {x} v patch index rule patch_is index_is rule-is =
      let read : operation_of (lent_from set c.at) x ≡ h.refused = v.means ∙ sym (head-eq_of_cons-eq v.is) in
      let told : rule ≡ operation_rule_to (rule_of h.left h.refused) = rule-is ∙ ap operation_rule_to (ap (rule_of s.plan) read ∙ sym (resolved_rule s.sources s.plan h.refused) ∙ ap (λ (q : Projection). rule_of q h.refused) s.resolves) in
      ap₂ (λ (i j : ℕ). Ok (code.Some (i, j, rule))) (patch_is ∙ sym k.patch) (index_is ∙ sym k.operation) ∙ ap (λ (r : OperationRule). Ok (code.Some (h.patch, h.operation, r))) told

-- ---- what a run answers

module _ {ed : Edition} {p : Projection} {ps : List Patch} {set b a e : List ℕ} {r : Result ProjectionCounts PlanStop} (told : RunTold ed p ps set b a e r) where
  abbrev whole : Walk Projection
  whole = walk_patches step_kept 0 p ps

  abbrev Walked : Result ProjectionCounts PlanStop → Walk Projection → Type 0
  Walked = RunWalked (PlannedAs ed p set b a e) (HaltsAt ed set (length ps))

  pub explained_applies : (n : ProjectionCounts) → r ≡ Ok n → Ok code.None ≡ reason_refused_to whole
  explained_applies n is = go whole (subst (λ y. Walked y whole) is told.walked)
    where
      go : (w : Walk Projection) → Walked (Ok n) w → Ok code.None ≡ reason_refused_to w
      go (through q) t = refl
      go (halted h) t = absurd t

  pub walked_halts : (f : LocalProjectionApplicationError) (c : SetCursor) (n : ProjectionCounts) → r ≡ Err (plan.Refused f c n) → (y : Result (code.Option (ℕ × ℕ × OperationRule)) ProjectionPatchReadFault)
      → ((h : Halt Projection) → HaltsAt ed set (length ps) c h → StandsFor n.entries e h.left → y ≡ reason_refused_to (halted h)) → y ≡ reason_refused_to whole
  walked_halts f c n is y at = go whole (subst (λ z. Walked z whole) is told.walked)
    where
      go : (w : Walk Projection) → Walked (Err (plan.Refused f c n)) w → y ≡ reason_refused_to w
      go (through q) t = absurd t
      go (halted h) t = at h t.1 (record { plan = t.0.plan; stored = t.0.stored.entries; valid = t.0.stored.valid; sources = resolution p (value_in ed set); resolves = t.0.resolves })

  pub explained_reads : (f : ProjectionPatchReadFault) → r ≡ Err (plan.Unreadable f) → ⊥
  explained_reads f is = subst (λ z. Walked z whole) is told.walked
