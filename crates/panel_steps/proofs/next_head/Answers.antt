-- `next_head` meets its contract: each step is told as `run_head` has it.
use mathlib.Core.Path.{sym, ap, ◌∙◌, subst}
use borrow.Author.Rules.{rules}
use lib.ListN.{length}
use Rattle.std.specs.Prelude.{Ok, Err}
use Rattle.std.proofs.lemmas.Result.{err_from_is_err_and}
use Rattle.patch_walk.specs.Steps.{StepWithin}
use Rattle.panel_steps.specs.Runs.{run_head}
use Rattle.panel_steps.proofs.next_head.Goals as goal

pub returns-in_err-next : goal.returns-in_err-next
returns-in_err-next c =
    let refused = err_from_is_err_and c.from_residual.result c.from_residual.ensures.1 in
    record {
      is = refused.1 ∙ ap Err refused.2 ∙ ap run_head (sym c.in_err-next.was ∙ c.next_step.ensures.is);
      within = subst (StepWithin c.args.cursor (length c.args.set.now)) c.next_step.ensures.is c.next_step.ensures.within;
    }

pub returns-in-Head : goal.returns-in-Head
returns-in-Head c =
    record { is = ap run_head (sym (c.in_ok-next.was ∙ ap Ok c.in-Head.is) ∙ c.next_step.ensures.is); within = subst (StepWithin c.args.cursor (length c.args.set.now)) c.next_step.ensures.is c.next_step.ensures.within }

pub returns-in-Operation : goal.returns-in-Operation
returns-in-Operation c =
    record { is = ap run_head (sym (c.in_ok-next.was ∙ ap Ok c.in-Operation.is) ∙ c.next_step.ensures.is); within = subst (StepWithin c.args.cursor (length c.args.set.now)) c.next_step.ensures.is c.next_step.ensures.within }

pub returns-in-End : goal.returns-in-End
returns-in-End c =
    record { is = ap run_head (sym (c.in_ok-next.was ∙ ap Ok c.in-End.is) ∙ c.next_step.ensures.is); within = subst (StepWithin c.args.cursor (length c.args.set.now)) c.next_step.ensures.is c.next_step.ensures.within }
