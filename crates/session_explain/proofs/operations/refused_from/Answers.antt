-- `session_explain::operations::refused_from` meets its contract: the run goes through, or the operation where it stopped is told.
use Prim.Native.Nat.{ℕ}
use Rattle.std.specs.Prelude.{Err}
use mathlib.Core.Path.{ap, subst, ◌∙◌}
use Rattle.projection_patch.specs.Meaning.{edition_of}
use Rattle.panel_steps.specs.Runs.{HaltsAt}
use Rattle.session_explain.specs.RefusedLaws.{explained_applies, walked_halts, explained_reads}
use borrow.Author.Rules.{rules}
use Rattle.session_explain.proofs.operations.refused_from.Goals as goal

pub returns-in-Ok : goal.returns-in-Ok
returns-in-Ok c =
    λ p ps v s here. explained_applies (c.plan_steps.ensures p ps v s here) _ c.in-Ok.is

pub returns-in-Refused : goal.returns-in-Refused
returns-in-Refused c =
    λ p ps v s here. walked_halts (c.plan_steps.ensures p ps v s here) _ _ _ (c.in-Err.is ∙ ap Err c.in-Refused.is) _
    (λ h k stands. c.refused_at.ensures h (subst (λ (n : ℕ). HaltsAt (edition_of c.args.edition) c.args.set.now n c.in-Refused.cursor h) here.patches k) stands)

pub returns-in-Unreadable : goal.returns-in-Unreadable
returns-in-Unreadable c =
    λ p ps v s here. absurd (explained_reads (c.plan_steps.ensures p ps v s here) _ (c.in-Err.is ∙ ap Err c.in-Unreadable.is))
