-- Steps applied in two runs, the steps of patches, and the first step that fails.
use Rattle.std.specs.Prelude.{ℕ, ◌≡◌, refl}
use Rattle.std.proofs.Common.{sym, ap, ◌∙◌, arith}
use mathlib.Core.List.{List, [], ◌∷◌, ◌++◌, map, flat_map}
use Rattle.spec_lists.proofs.ListLaws.{flat_map_append}
use Rattle.spec_patch.specs.Patch.{Operation, Patch}
use Rattle.spec_projection.specs.Projection.{Projection}
use Rattle.spec_projection.specs.Apply.{OperationFault, Outcome, done, stopped, ReplayStep, step_of, step_operations, patch_steps, replay_steps, operations_of, apply_step, and_then, apply_steps}

-- ---- outcomes

pub done_injective : {p q : Projection} → done p ≡ done q → p ≡ q
done_injective e = cc

pub stopped_not_done : {fault : OperationFault} {q : Projection} → stopped fault ≡ done q → ⊥
stopped_not_done e = let z : ◌≡◌ {A = ℕ} 0 1 = cc in omega arith

-- two runs, the second on what the first left
pub and_then_done : (x : Outcome) (f : Projection → Outcome) (q : Projection) → and_then x f ≡ done q → (r : Projection) × (x ≡ done r) × (f r ≡ done q)
and_then_done (done r) f q e = (r, refl, e)
and_then_done (stopped fault) f q e = absurd (stopped_not_done e)

-- ---- steps in two runs

pub apply_steps_append : (p : Projection) (a b : List ReplayStep) → apply_steps p (a ++ b) ≡ and_then (apply_steps p a) (λ q. apply_steps q b)
unfolding apply_steps
apply_steps_append p [] b = refl
apply_steps_append p (s ∷ a) b = go (apply_step p s) (λ q. apply_steps_append q a b)
  where
    go : (x : Outcome) → ((q : Projection) → apply_steps q (a ++ b) ≡ and_then (apply_steps q a) (λ r. apply_steps r b))
        → and_then x (λ q. apply_steps q (a ++ b)) ≡ and_then (and_then x (λ q. apply_steps q a)) (λ r. apply_steps r b)
    go (done q) later = later q
    go (stopped fault) later = refl

-- ---- the steps and operations of patches

pub replay_steps_append : (a b : List Patch) → replay_steps (a ++ b) ≡ replay_steps a ++ replay_steps b
unfolding replay_steps
replay_steps_append a b = flat_map_append patch_steps a b

pub operations_of_append : (a b : List Patch) → operations_of (a ++ b) ≡ operations_of a ++ operations_of b
unfolding operations_of
operations_of_append a b = flat_map_append (λ (p : Patch). p.operations) a b

-- the steps are the operations, in the same order
pub replay_steps_operations : (ps : List Patch) → step_operations (replay_steps ps) ≡ operations_of ps
unfolding replay_steps patch_steps operations_of flat_map
replay_steps_operations [] = refl
replay_steps_operations (p ∷ ps) = map_steps p.operations (replay_steps ps) ∙ ap (λ l. p.operations ++ l) (replay_steps_operations ps)
  where
    map_steps : (os : List Operation) (rest : List ReplayStep)
        → step_operations (map (step_of p.envelope.id) os ++ rest) ≡ os ++ step_operations rest
    map_steps [] rest = refl
    map_steps (o ∷ os) rest = ap (λ l. o ∷ l) (map_steps os rest)

-- ---- the first step that fails

-- a step that fails, on what the steps before it left
pub record Failure (p : Projection) (ss : List ReplayStep) (fault : OperationFault) : Type 0 where
  pub earlier : List ReplayStep
  pub step : ReplayStep
  pub later : List ReplayStep
  pub parts : ss ≡ earlier ++ step ∷ later
  pub reached : Projection
  pub ran : apply_steps p earlier ≡ done reached
  pub fails : apply_step reached step ≡ stopped fault

pub failure : (p : Projection) (ss : List ReplayStep) (fault : OperationFault) → apply_steps p ss ≡ stopped fault → Failure p ss fault
unfolding apply_steps
failure p [] fault h = absurd (stopped_not_done (sym h))
failure p (s ∷ ss) fault h = go (apply_step p s) refl h (λ q. failure q ss fault)
  where
    go : (x : Outcome) → apply_step p s ≡ x → and_then x (λ q. apply_steps q ss) ≡ stopped fault → ((q : Projection) → apply_steps q ss ≡ stopped fault → Failure q ss fault) → Failure p (s ∷ ss) fault
    go (stopped other) e h further = record { earlier = []; step = s; later = ss; parts = refl; reached = p; ran = refl; fails = e ∙ h }
    go (done q) e h further =
        let f = further q h in
        record {
          earlier = s ∷ f.earlier;
          step = f.step;
          later = f.later;
          parts = ap (λ l. s ∷ l) f.parts;
          reached = f.reached;
          ran = rw e f.ran;
          fails = f.fails;
        }

-- a run with such a step stops there
pub fails_there : (p : Projection) (ss : List ReplayStep) (fault : OperationFault) → Failure p ss fault → apply_steps p ss ≡ stopped fault
unfolding apply_steps
fails_there p ss fault f =
    ap (λ l. apply_steps p l) f.parts ∙ apply_steps_append p f.earlier (f.step ∷ f.later)
    ∙ ap (λ x. and_then x (λ q. apply_steps q (f.step ∷ f.later))) f.ran ∙ ap (λ x. and_then x (λ q. apply_steps q f.later)) f.fails
