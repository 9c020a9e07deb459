-- `projection_patch::read_values::optional_at` meets its contract: the tag picks the reader.
use mathlib.Core.Path.{◌∙◌}
use borrow.Author.Rules.{rules}
use Rattle.spec_lists.proofs.BytesLaws.{bytes_of}
use Rattle.spec_patch.specs.Reader.{byte}
use Rattle.spec_patch.specs.Read.{optional_after, read_optional}
use Rattle.spec_patch.proofs.Codec.{byte_codec}
use Rattle.projection_patch.specs.ReadAnswers.{plain}
use Rattle.projection_patch.proofs.Answers.{GotPlain, plain_got, handed_on}
use Rattle.projection_patch.proofs.read_values.optional_at.Goals as goal
use Rattle.projection_patch.proofs.read_values.optional_at.Goals.{In_ok-tag}

got : (c : In_ok-tag) → GotPlain byte c.args.part.now c.args.at c.in_ok-tag.tag c.in_ok-tag.body
got c =
    plain_got byte_codec c.args.part.now c.args.at c.byte_at.result c.byte_at.ensures (bytes_of c.args.part.now (λ j. (c.type_inv.part j).fits)) c.in_ok-tag.tag c.in_ok-tag.body c.in_ok-tag.was

pub returns-in_err-tag : goal.returns-in_err-tag
unfolding read_optional
returns-in_err-tag c =
    let g = handed_on plain byte_codec c.args.part.now c.args.at c.byte_at.result c.byte_at.ensures c.in_err-tag.field-0.0 c.in_err-tag.was c.from_residual.ensures.1 in
    rw (g.told, g.is)

pub returns-in-0 : goal.returns-in-0
unfolding read_optional optional_after
returns-in-0 c = let g = got (goal.at.returns-in-0 c).In_ok-tag in rw (g.is, c.in-0.is, g.there)

pub returns-in-1 : goal.returns-in-1
unfolding read_optional optional_after
returns-in-1 c = let g = got (goal.at.returns-in-1 c).In_ok-tag in c.some_at.ensures ∙ rw (g.is, c.in-1.is)

pub returns-in_default : goal.returns-in_default
unfolding read_optional optional_after
returns-in_default c = let g = got (goal.at.returns-in_default c).In_ok-tag in rw (g.is) (search rules)
