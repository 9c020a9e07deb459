-- `projection_patch::read_values::text_at` meets its contract: a length of four bytes, then the text.
use mathlib.Core.Path.{◌∙◌}
use Rattle.spec_lists.proofs.BytesLaws.{bytes_of}
use Rattle.spec_patch.specs.Read.{read_text_by}
use Rattle.spec_patch.proofs.ReadLaws.{u32_codec}
use Rattle.projection_patch.specs.ReadAnswers.{plain}
use Rattle.projection_patch.proofs.Answers.{plain_got, handed_on}
use Rattle.projection_patch.proofs.read_values.text_at.Goals as goal

pub returns-in_err-len : goal.returns-in_err-len
unfolding read_text_by
returns-in_err-len c =
    let g = handed_on plain u32_codec c.args.part.now c.args.at c.u32_at.result c.u32_at.ensures c.in_err-len.field-0.0 c.in_err-len.was c.from_residual.ensures.1 in
    rw (g.told, g.is)

pub returns : goal.returns
unfolding read_text_by
returns c =
    let g = plain_got u32_codec c.args.part.now c.args.at c.u32_at.result c.u32_at.ensures (bytes_of c.args.part.now (λ j. (c.type_inv.part j).fits)) c.in_ok-len.len c.in_ok-len.start c.in_ok-len.was in
    c.text_from.ensures ∙ rw g.is
