-- `patch_locate::set::way` meets its contract: the heading, then the patches.
use mathlib.Core.Path.{◌∙◌}
use Rattle.spec_patch.specs.Sizes.{set_patches}
use Rattle.spec_patch.specs.Encode.{heading}
use Rattle.spec_explain.specs.ReadingRule.{patch_count}
use Rattle.spec_explain.specs.Locate.{counted, locate_patch, locate_letters, locate_patches}
use Rattle.spec_explain.proofs.SteadySetLaws.{steady_letters}
use Rattle.projection_patch.specs.Meaning.{edition_of}
use Rattle.patch_locate.specs.Positions.{locates_on, locates_stop}
use Rattle.std.proofs.lemmas.Result.{err_from_is_err_and}
use Rattle.patch_locate.proofs.set.way.Goals as goal

pub returns : goal.returns
unfolding locate_patches
returns c =
    c.patches_counted.ensures
    ∙ locates_on (steady_letters (heading (edition_of c.args.edition))) c.args.set.now 0 c.heading_at.result c.heading_at.ensures (counted patch_count set_patches (locate_patch (edition_of c.args.edition))) _ c.in_ok-at.was

pub returns-in_err-at : goal.returns-in_err-at
unfolding locate_patches
returns-in_err-at c =
    let p = err_from_is_err_and c.from_residual.result c.from_residual.ensures.1 in rw (p.1, p.2) (
    locates_stop (locate_letters (heading (edition_of c.args.edition))) (counted patch_count set_patches (locate_patch (edition_of c.args.edition))) c.args.set.now 0 c.heading_at.result c.heading_at.ensures _ c.in_err-at.was)
