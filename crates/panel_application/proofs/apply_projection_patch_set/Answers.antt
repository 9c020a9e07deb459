-- `apply_projection_patch_set` meets its contract, by the quick check's answer.
use Rattle.std.specs.Prelude.{Ok}
use mathlib.Core.Path.{refl, ap, ◌∙◌}
use borrow.Author.Rules.{rules}
use Rattle.projection_patch.specs.Meaning.{edition_of}
use Rattle.panel_application.specs.ApplicationLaws.{clean_became, found_became, refused_became}
use Rattle.panel_application.proofs.apply_projection_patch_set.Goals as goal

pub returns-in-Ok-Clean : goal.returns-in-Ok-Clean
returns-in-Ok-Clean c =
    record {
      applied = (λ p s.
          clean_became p (edition_of c.args.edition) c.args.set.now c.quick_check.result c.quick_check.ensures c.apply_readable.result.state _ _ (c.in-Ok-Clean.is ∙ ap Ok c.in-Ok-Clean.field-0-is) c.apply_readable.result.outcome
          (λ ps readable. c.apply_readable.ensures.steps ps p readable s));
      kept = c.apply_readable.ensures.kept;
    }

pub returns-in-Ok-Found : goal.returns-in-Ok-Found
returns-in-Ok-Found c =
    record { applied = (λ p s. found_became p (edition_of c.args.edition) c.args.set.now c.quick_check.result c.quick_check.ensures c.args.state (c.in-Ok-Found.is ∙ ap Ok c.in-Ok-Found.field-0-is)); kept = refl }

pub returns-in-Err : goal.returns-in-Err
returns-in-Err c =
    record { applied = (λ p s. refused_became p (edition_of c.args.edition) c.args.set.now c.quick_check.result c.quick_check.ensures c.args.state _ c.in-Err.is); kept = refl }
