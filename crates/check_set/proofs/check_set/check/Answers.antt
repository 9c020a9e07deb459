-- `check_set::check_set::check` meets its contract: the quick check tells whether there is anything to list.
use mathlib.Core.Path.{sym, ap, ◌∙◌}
use Rattle.std.specs.Prelude as code
use Rattle.std.proofs.lemmas.Result.{err_from_is_err_and}
use Rattle.spec_patch.specs.Read.{read_set}
use Rattle.projection_patch.specs.Meaning.{edition_of}
use Rattle.check_set.proofs.Written.{clean_is, found_some, refused_is}
use Rattle.check_set.proofs.check_set.check.Goals as goal

pub returns-in_err-checked : goal.returns-in_err-checked
returns-in_err-checked c =
    let q = err_from_is_err_and c.from_residual.result c.from_residual.ensures.1 in
    let all = refused_is c.args.findings.now (read_set (edition_of c.args.edition) c.args.set.now) _ (sym c.quick_check.ensures ∙ c.in_err-checked.was) in record { answered = q.1 ∙ ap code.Err q.2 ∙ all.0; written = all.1 }

pub returns-in-Clean : goal.returns-in-Clean
returns-in-Clean c =
    let all = clean_is c.args.findings.now (read_set (edition_of c.args.edition) c.args.set.now) _ _ (sym c.quick_check.ensures ∙ c.in_ok-checked.was ∙ ap code.Ok c.in-Clean.is) in record { answered = all.0; written = all.1 }

pub returns-in-Found : goal.returns-in-Found
returns-in-Found c =
    let all = found_some c.args.findings.now (read_set (edition_of c.args.edition) c.args.set.now) (sym c.quick_check.ensures ∙ c.in_ok-checked.was ∙ ap code.Ok c.in-Found.is) _ _ c.find.ensures.answered c.find.ensures.written in record { answered = all.0; written = all.1 }
