-- `session_explain::operations::refused_at` meets its contract: the operation is read once more where the run stopped.
use mathlib.Core.Path.{sym, ap, ◌∙◌}
use mathlib.Core.Bool.{false}
use native.Mathlib.Omega.{arith}
use Prim.Native.Nat.{ℕ, ◌-◌}
use Rattle.projection_patch.specs.Meaning.{edition_of}
use Rattle.projection_patch.specs.ReadAnswers.{lent_from}
use Rattle.patch_walk.proofs.StepsLaws.{visited, opened, done, never_refused}
use Rattle.session_explain.specs.RefusedLaws.{halt_told}
use borrow.Author.Rules.{rules}
use borrow.Enum.Refused.{opened as one_of}
use Rattle.std.specs.Prelude.{◌≡◌, refl, Result, Ok}
use mathlib.Core.List.{List, [], ◌∷◌}
use mathlib.Core.Logic.{inl, inr}
use denote.Enum.Declared.{tag_of}
use types.Run.{OneOf}
use Rattle.spec_patch.specs.Edition.{Edition}
use Rattle.spec_patch.specs.Patch.{Patch, Operation}
use Rattle.patch_walk.specs.Steps.{step_answer, AtSteps}
use Rattle.patch_walk.specs.contracts.SetStep as set-steps
use Rattle.patch_walk.specs.declared.SetCursor.{SetCursor}
use Rattle.patch_walk.specs.declared.SetStep.{SetStep}
use Rattle.patch_walk.specs.declared.SetStep.TheVariants as set-step
use Rattle.session_explain.proofs.operations.refused_at.Goals as goal

-- where an operation is left nothing else stands
other_step : {ed : Edition} {set : List ℕ} {c : SetCursor} {o : Operation} {os : List Operation} {ps : List Patch} (here : AtSteps ed set c (o ∷ os) ps) (s : SetStep)
    → Ok s ≡ step_answer false ed c set → OneOf (0 ∷ 2 ∷ []) (tag_of set-steps.the_type s) → ⊥
other_step {ed} {set} {c} {o} {os} here (set-step.Head h d) is k = let none : o ∷ os ≡ [] = (opened false ed set c here is h d refl).none in cc
other_step {ed} {set} {c} {o} {os} here set-step.End is k = let none : o ∷ os ≡ [] = (done false ed set c here is refl).0 in cc
other_step here (set-step.Operation x d) is (inl e) = absurd (omega arith)
other_step here (set-step.Operation x d) is (inr e) = absurd (omega arith)

pub returns-in_err-step : goal.returns-in_err-step
returns-in_err-step c =
    λ h k s. absurd (never_refused false (edition_of c.args.edition) c.args.set.now c.args.cursor k.here c.next_step.ensures.is _ c.in_err-step.was)

pub returns-in_default : goal.returns-in_default
returns-in_default c =
    λ h k s. absurd (other_step k.here _ (sym c.in_ok-step.was ∙ c.next_step.ensures.is) (one_of c.in_default.in_default-own.keys2))

pub returns : goal.returns
returns c =
    λ h k s.
    let seen = visited false (edition_of c.args.edition) c.args.set.now c.args.cursor k.here c.next_step.ensures.is _ _ (c.in_ok-step.was ∙ ap Ok c.in-Operation.is) in
    halt_told k s seen _ _ _ (c.passed-patch.ensures ∙ ap (λ (n : ℕ). n - 1) c.passed.ensures) c.passed-index.ensures
    (c.rule_of-rule.ensures s.plan (lent_from c.args.set.now c.args.cursor.at) s.stored s.valid)
