-- `patch_locate::set::patch_fields` meets its contract: the envelope, then what stands behind it.
use mathlib.Core.Path.{◌≡◌, ap, ◌∙◌}
use lib.ListN.{length, drop}
use Rattle.spec_patch.specs.Sizes.{patch_operations}
use Rattle.spec_explain.specs.ReadingRule.{operation_count_lem}
use Rattle.spec_explain.specs.Locate.{counted, locate_envelope}
use Rattle.spec_explain.proofs.SteadySetLaws.{steady_envelope}
use Rattle.projection_patch.specs.Meaning.{edition_of}
use Rattle.patch_locate.specs.Answers.{located_answer}
use Rattle.patch_locate.specs.Fields.{operation_in, patch_fields}
use Rattle.patch_locate.specs.FieldsLaws.{letters_envelope}
use Rattle.patch_locate.specs.Positions.{locates_on, locates_stop}
use Rattle.std.proofs.lemmas.Result.{err_from_is_err_and}
use Rattle.patch_locate.proofs.set.patch_fields.Goals as goal
use Rattle.patch_locate.proofs.set.patch_fields.Goals.{After-fields_at}

told : (k : After-fields_at) → k.fields_at.result ≡ located_answer (length k.args.set.now) (locate_envelope (drop k.args.at k.args.set.now))
told k =
    k.fields_at.ensures ∙ ap (located_answer (length k.args.set.now)) (letters_envelope (edition_of k.args.edition) (drop k.args.at k.args.set.now))

pub returns : goal.returns
unfolding patch_fields
returns c =
    c.operations_counted.ensures
    ∙ locates_on steady_envelope c.args.set.now c.args.at c.fields_at.result (told (goal.at.returns c).After-fields_at) (counted operation_count_lem patch_operations (operation_in (edition_of c.args.edition) c.args.patch)) _ c.in_ok-end.was

pub returns-in_err-end : goal.returns-in_err-end
unfolding patch_fields
returns-in_err-end c =
    let p = err_from_is_err_and c.from_residual.result c.from_residual.ensures.1 in rw (p.1, p.2) (
    locates_stop locate_envelope (counted operation_count_lem patch_operations (operation_in (edition_of c.args.edition) c.args.patch)) c.args.set.now c.args.at c.fields_at.result (told (goal.at.returns-in_err-end c).After-fields_at) _ c.in_err-end.was)
