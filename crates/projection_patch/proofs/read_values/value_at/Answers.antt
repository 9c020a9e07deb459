-- `projection_patch::read_values::value_at` meets its contract: the kind picks the reader, and every edition has kinds 1 to 4.
use mathlib.Core.Path.{◌∙◌}
use borrow.Author.Rules.{rules}
use Rattle.spec_lists.proofs.BytesLaws.{bytes_of}
use Rattle.spec_patch.specs.Edition.{kinds, has_kind}
use Rattle.spec_patch.specs.Reader.{byte}
use Rattle.spec_patch.specs.Read.{value_after, in_edition, read_value_by}
use Rattle.spec_patch.proofs.Codec.{byte_codec}
use Rattle.projection_patch.specs.ReadAnswers.{plain}
use Rattle.projection_patch.proofs.Answers.{GotPlain, plain_got, handed_on}
use Rattle.projection_patch.proofs.read_values.value_at.Goals as goal
use Rattle.projection_patch.proofs.read_values.value_at.Goals.{In_ok-tag}

got : (c : In_ok-tag) → GotPlain byte c.args.part.now c.args.at c.in_ok-tag.tag c.in_ok-tag.body
got c =
    plain_got byte_codec c.args.part.now c.args.at c.byte_at.result c.byte_at.ensures (bytes_of c.args.part.now (λ j. (c.type_inv.part j).fits)) c.in_ok-tag.tag c.in_ok-tag.body c.in_ok-tag.was

pub returns-in_err-tag : goal.returns-in_err-tag
unfolding read_value_by
returns-in_err-tag c =
    let g = handed_on plain byte_codec c.args.part.now c.args.at c.byte_at.result c.byte_at.ensures c.in_err-tag.field-0.0 c.in_err-tag.was c.from_residual.ensures.1 in
    rw (g.told, g.is)

pub returns-in-1 : goal.returns-in-1
unfolding read_value_by value_after in_edition has_kind kinds
returns-in-1 c = let g = got (goal.at.returns-in-1 c).In_ok-tag in c.quad_at.ensures ∙ rw (g.is, c.in-1.is)

pub returns-in-2 : goal.returns-in-2
unfolding read_value_by value_after in_edition has_kind kinds
returns-in-2 c = let g = got (goal.at.returns-in-2 c).In_ok-tag in c.signed_at.ensures ∙ rw (g.is, c.in-2.is)

pub returns-in-3 : goal.returns-in-3
unfolding read_value_by value_after in_edition has_kind kinds
returns-in-3 c = let g = got (goal.at.returns-in-3 c).In_ok-tag in c.text_at.ensures ∙ rw (g.is, c.in-3.is)

pub returns-in-4 : goal.returns-in-4
unfolding read_value_by value_after in_edition has_kind kinds
returns-in-4 c = let g = got (goal.at.returns-in-4 c).In_ok-tag in c.unsigned_at.ensures ∙ rw (g.is, c.in-4.is)

pub returns-in-5 : goal.returns-in-5
unfolding read_value_by value_after in_edition
returns-in-5 c = let g = got (goal.at.returns-in-5 c).In_ok-tag in c.score_at.ensures ∙ rw (g.is, c.in-5.is)

pub returns-in_default : goal.returns-in_default
unfolding read_value_by value_after in_edition
returns-in_default c = let g = got (goal.at.returns-in_default c).In_ok-tag in rw (g.is) (search rules)
