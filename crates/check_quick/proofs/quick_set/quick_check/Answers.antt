-- `check_quick::quick_set::quick_check` meets its contract: the inspection's answer, whatever anchors are lent.
use mathlib.Core.Path.{◌≡◌, sym, ap, ◌∙◌}
use Rattle.std.specs.Prelude as code
use Rattle.std.proofs.lemmas.Result.{err_from_is_err_and}
use Rattle.spec_patch.specs.Read.{read_set}
use Rattle.projection_patch.specs.Meaning.{edition_of}
use Rattle.projection_patch.specs.declared.read_values.ProjectionPatchReadFault.{ProjectionPatchReadFault}
use Rattle.check_quick.specs.QuickAnswers.{quick_answer}
use Rattle.check_quick.specs.QuickLaws.{quick_of, quick_is}
use Rattle.check_quick.specs.declared.inspection.SetInspection.{SetInspection}
use Rattle.check_quick.proofs.quick_set.quick_check.Goals as goal
use Rattle.check_quick.proofs.quick_set.quick_check.Goals.{After-inspect_set}

told : (c : After-inspect_set) (i : code.Result SetInspection ProjectionPatchReadFault) → c.inspect_set.result ≡ i → quick_of i ≡ quick_answer (read_set (edition_of c.args.edition) c.args.set.now)
told c i e = ap quick_of (sym e ∙ c.inspect_set.ensures) ∙ quick_is _ _

pub returns-in_err-inspected : goal.returns-in_err-inspected
returns-in_err-inspected c =
    let q = err_from_is_err_and c.from_residual.result c.from_residual.ensures.1 in
    q.1 ∙ ap code.Err q.2 ∙ told (goal.at.returns-in_err-inspected c).After-inspect_set _ c.in_err-inspected.was

pub returns-in-Clean : goal.returns-in-Clean
returns-in-Clean c = told (goal.at.returns-in-Clean c).After-inspect_set _ (c.in_ok-inspected.was ∙ ap code.Ok c.in-Clean.is)

pub returns-in-Found : goal.returns-in-Found
returns-in-Found c = told (goal.at.returns-in-Found c).After-inspect_set _ (c.in_ok-inspected.was ∙ ap code.Ok c.in-Found.is)
