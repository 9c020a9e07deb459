-- `patch_locate::set::patches_counted` meets its contract: the count, and so many patches.
use mathlib.Core.Path.{◌∙◌}
use native.Mathlib.Omega.{arith}
use Rattle.spec_patch.specs.Sizes.{set_patches}
use Rattle.spec_explain.specs.Locate.{locate_patch}
use Rattle.projection_patch.specs.Meaning.{edition_of}
use Rattle.projection_patch.proofs.At.{NumberAt, u32_at, u32_short}
use Rattle.patch_locate.specs.SetPositions.{count_lacking, count_fits, count_over}
use Rattle.patch_locate.specs.declared.rules.ReadingRule.TheVariants as rules
use Rattle.std.specs.Prelude.{Err}
use Rattle.std.proofs.Common.{ap}
use Rattle.patch_locate.proofs.set.patches_counted.Goals as goal
use Rattle.patch_locate.proofs.set.patches_counted.Goals.{In-Some}

got : (c : In-Some) → NumberAt c.args.set.now c.args.at 4 c.in-Some.count
got c =
    u32_at c.args.set.now c.args.at c.in-Some.count c.read_u32_at.result c.read_u32_at.ensures c.in-Some.is

pub returns-in_default : goal.returns-in_default
returns-in_default c =
    ap Err c.stop_at.ensures ∙ count_lacking c.args.set.now c.args.at rules.PatchCount set_patches (locate_patch (edition_of c.args.edition)) (u32_short c.args.set.now c.args.at c.read_u32_at.result c.read_u32_at.ensures c.in_default.is)

pub overflow_add-at : goal.overflow_add-at
overflow_add-at c = omega (arith, (got (goal.at.overflow_add-at c).In-Some).room)

pub patches_at-requires : goal.patches_at-requires
patches_at-requires c = omega (arith, (got (goal.at.patches_at-requires c).In-Some).room)

pub returns-then-count-le-PATCHES : goal.returns-then-count-le-PATCHES
returns-then-count-le-PATCHES c =
    c.patches_at.ensures ∙ count_fits c.args.set.now c.args.at rules.PatchCount set_patches (locate_patch (edition_of c.args.edition)) _ (got (goal.at.returns-then-count-le-PATCHES c).In-Some).is (omega arith)

pub returns : goal.returns
returns c =
    ap Err c.outside.ensures ∙ count_over c.args.set.now c.args.at rules.PatchCount set_patches (locate_patch (edition_of c.args.edition)) _ (got (goal.at.returns c).In-Some).is (omega (arith, (got (goal.at.returns c).In-Some).room)) (omega arith)
