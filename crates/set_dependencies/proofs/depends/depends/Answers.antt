-- `depends` meets its contract: the quick check refuses, or the set is walked.
use mathlib.Core.Path.{sym, ap, ◌∙◌}
use Rattle.std.specs.Prelude as code
use borrow.Author.Rules.{rules}
use Rattle.spec_patch.specs.Read.{read_set}
use Rattle.spec_dependencies.specs.Answer.{dependencies_of}
use Rattle.projection_patch.specs.Meaning.{edition_of}
use Rattle.set_dependencies.specs.DependsLaws.{clean_depends, found_depends, refused_depends}
use Rattle.set_dependencies.proofs.depends.depends.Goals as goal

pub returns-in-Clean : goal.returns-in-Clean
unfolding dependencies_of
returns-in-Clean c =
    let all = clean_depends c.args.out.now (read_set (edition_of c.args.edition) c.args.set.now) _ _ (sym c.quick_check.ensures ∙ c.in-Ok.is ∙ ap code.Ok c.in-Clean.is) _ _ c.depends_clean.ensures.answered c.depends_clean.ensures.written in record { answered = all.0; written = all.1 }

pub returns-in-Found : goal.returns-in-Found
unfolding dependencies_of
returns-in-Found c =
    let all = found_depends c.args.out.now (read_set (edition_of c.args.edition) c.args.set.now) (sym c.quick_check.ensures ∙ c.in-Ok.is ∙ ap code.Ok c.in-Found.is) in record { answered = all.0; written = all.1 }

pub returns-in-Err : goal.returns-in-Err
unfolding dependencies_of
returns-in-Err c =
    let all = refused_depends c.args.out.now (read_set (edition_of c.args.edition) c.args.set.now) _ (sym c.quick_check.ensures ∙ c.in-Err.is) in record { answered = all.0; written = all.1 }
