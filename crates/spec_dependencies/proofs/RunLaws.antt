-- Steps applied one after the other: a run that ends met all expectations, and one whose expectations are met fails by no key rule.
use Rattle.std.specs.Prelude.{◌≡◌, refl, ◌↔◌}
use Rattle.std.proofs.Common.{sym, ap, ◌∙◌, subst}
use mathlib.Core.List.Memᴰ
use mathlib.Core.List.{List, [], ◌∷◌, ◌++◌, append_assoc, map, flat_map, Memᴰ}
use Rattle.spec_lists.specs.Lists.{All}
use Rattle.spec_lists.proofs.ListLaws.{all_append}
use Rattle.spec_patch.specs.Patch.{Operation, Patch}
use Rattle.spec_checks.specs.Findings.{findings, CleanPatch}
use Rattle.spec_checks.specs.Rules.{BeforeSelf, before_self_at}
use Rattle.spec_checks.proofs.RulesLaws.{patch_rule}
use Rattle.spec_checks.proofs.FindingsLaws.{patch_reported}
use Rattle.spec_checks.proofs.PartsLaws.{clean_of_findings}
use Rattle.spec_projection.specs.Projection.{Projection}
use Rattle.spec_projection.specs.Apply.{key_rule, Outcome, done, stopped, ReplayStep, step_of, patch_steps, replay_steps, operations_of, apply_step, and_then, apply_steps}
use Rattle.spec_projection.proofs.ApplyLaws.{stopped_not_done, and_then_done, replay_steps_operations}
use Rattle.spec_projection.specs.Valid.{Grouped}
use Rattle.spec_dependencies.specs.Expectations.{Expectation, expectations}
use Rattle.spec_dependencies.specs.Presence.{Presence, presence, presence_after, presence_after_all, Accepts}
use Rattle.spec_dependencies.proofs.PresenceLaws.{operation_leaves, operation_accepted}

-- ---- expectations in two runs

pub accepts_append : (a b : List Expectation) (h : Presence) → Accepts (a ++ b) h ↔ (Accepts a h × Accepts b (presence_after_all a h))
unfolding presence_after_all
accepts_append [] b h = (λ x. (tt, x), λ x. x.1)
accepts_append (e ∷ a) b h =
    let rest = accepts_append a b (presence_after e h) in
    (λ x. let r = rest.0 x.1 in ((x.0, r.0), r.1), λ x. (x.0.0, rest.1 (x.0.1, x.1)))

-- ---- the run

-- the operation does not name its own key as neighbour
abbrev pub Apart : Operation → Type 0
Apart o = ¬ BeforeSelf o

abbrev pub ApartStep : ReplayStep → Type 0
ApartStep s = Apart s.operation

abbrev pub steps_expect : List ReplayStep → List Expectation
steps_expect ss = flat_map (λ (s : ReplayStep). expectations s.operation) ss

run_accepts : (p : Projection) (ss : List ReplayStep) (q : Projection) → All ApartStep ss → Grouped p.entries → apply_steps p ss ≡ done q → Accepts (steps_expect ss) (presence p)
unfolding apply_steps apply_step flat_map
run_accepts p [] q apart g h = tt
run_accepts p (s ∷ ss) q apart g h =
    let (r, first, others) = and_then_done (apply_step p s) (λ r. apply_steps r ss) q h in
    let l = operation_leaves p s.patch s.operation r apart.0 g first in
    (accepts_append (expectations s.operation) (steps_expect ss) (presence p)).1
    (l.accepts, subst (Accepts (steps_expect ss)) l.keys (run_accepts r ss q apart.1 l.entries others))

run_not_key : (p : Projection) (ss : List ReplayStep) → All ApartStep ss → Grouped p.entries → Accepts (steps_expect ss) (presence p) → apply_steps p ss ≡ stopped key_rule → ⊥
unfolding apply_steps apply_step flat_map
run_not_key p [] apart g a h = stopped_not_done (sym h)
run_not_key p (s ∷ ss) apart g a h =
    go (apply_step p s) refl h ((accepts_append (expectations s.operation) (steps_expect ss) (presence p)).0 a) (λ q. run_not_key q ss apart.1)
  where
    go : (x : Outcome) → apply_step p s ≡ x → and_then x (λ q. apply_steps q ss) ≡ stopped key_rule
        → Accepts (expectations s.operation) (presence p) × Accepts (steps_expect ss) (presence_after_all (expectations s.operation) (presence p))
        → ((q : Projection) → Grouped q.entries → Accepts (steps_expect ss) (presence q) → apply_steps q ss ≡ stopped key_rule → ⊥) → ⊥
    go (done q) e h a later =
        let l = operation_leaves p s.patch s.operation q apart.0 g e in
        later q l.entries (subst (Accepts (steps_expect ss)) (sym l.keys) a.1) h
    go (stopped fault) e h a later = operation_accepted p s.patch s.operation apart.0 a.0 (e ∙ h)

-- ---- the steps of patches

-- what the operations of patches expect, in order
abbrev pub expectations_of : List Patch → List Expectation
expectations_of ps = flat_map expectations (operations_of ps)

steps_expect_lem : (ss : List ReplayStep) → steps_expect ss ≡ flat_map expectations (map (λ (s : ReplayStep). s.operation) ss)
unfolding flat_map
steps_expect_lem [] = refl
steps_expect_lem (s ∷ ss) = ap (λ l. expectations s.operation ++ l) (steps_expect_lem ss)

replay_expects : (ps : List Patch) → steps_expect (replay_steps ps) ≡ expectations_of ps
replay_expects ps = steps_expect_lem (replay_steps ps) ∙ ap (flat_map expectations) (replay_steps_operations ps)

-- no operation of a patch without findings names itself
clean_apart : (p : Patch) → CleanPatch p → All Apart p.operations
clean_apart p clean = go [] p.operations refl
  where
    go : (a b : List Operation) → p.operations ≡ a ++ b → All Apart b
    go a [] e = tt
    go a (o ∷ b) e = (
      (λ s. Memᴰ.not-nil (subst (Memᴰ _) clean ((patch_reported p).every _ ((patch_rule p _).1 (before_self_at a o b e s refl))))),
      go (a ++ (o ∷ [])) b (e ∙ sym (append_assoc a (o ∷ []) b)),
    )

patches_apart : (ps : List Patch) → All CleanPatch ps → All ApartStep (replay_steps ps)
unfolding replay_steps patch_steps flat_map
patches_apart [] h = tt
patches_apart (p ∷ ps) h = all_append ApartStep (patch_steps p) (replay_steps ps) (steps p.operations (clean_apart p h.0)) (patches_apart ps h.1)
  where
    steps : (os : List Operation) → All Apart os → All ApartStep (map (step_of p.envelope.id) os)
    steps [] k = tt
    steps (o ∷ os) k = (k.0, steps os k.1)

module _ (p : Projection) (ps : List Patch) (grouped : Grouped p.entries) (clean : (findings ps).found ≡ []) where
  apart : All ApartStep (replay_steps ps)
  apart = patches_apart ps (clean_of_findings ps clean).patches

  -- a set that applies met all that it expects
  pub applies_accepts : (q : Projection) → apply_steps p (replay_steps ps) ≡ done q → Accepts (expectations_of ps) (presence p)
  applies_accepts q h = subst (λ es. Accepts es (presence p)) (replay_expects ps) (run_accepts p (replay_steps ps) q apart grouped h)

  -- a set all of whose expectations are met fails by no key rule
  pub accepts_not_key : Accepts (expectations_of ps) (presence p) → apply_steps p (replay_steps ps) ≡ stopped key_rule → ⊥
  accepts_not_key a = run_not_key p (replay_steps ps) apart grouped (subst (λ es. Accepts es (presence p)) (sym (replay_expects ps)) a)
