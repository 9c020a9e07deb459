-- `projection_patch::read_operations::operation_from` meets its contract: the tag picks the reader.
use mathlib.Core.Path.{◌≡◌, ap, ◌∙◌}
use borrow.Author.Rules.{rules}
use lib.ListN.{drop}
use Rattle.spec_lists.proofs.BytesLaws.{bytes_of}
use Rattle.spec_patch.specs.Reader.{byte, read}
use Rattle.spec_patch.specs.Read.{operation_after, read_operation_by}
use Rattle.spec_patch.proofs.Codec.{byte_codec}
use Rattle.projection_patch.specs.Meaning.{edition_of}
use Rattle.projection_patch.specs.ReadAnswers.{plain}
use Rattle.projection_patch.proofs.Answers.{plain_got, behind_byte, handed_on}
use Rattle.projection_patch.proofs.read_operations.operation_from.Goals as goal
use Rattle.projection_patch.proofs.read_operations.operation_from.Goals.{In_ok-tag}

-- the tag stands in front, and the fields behind it
tagged : (c : In_ok-tag) → byte c.args.part.now ≡ read c.in_ok-tag.tag (drop 1 c.args.part.now)
tagged c =
    let g = plain_got byte_codec c.args.part.now 0 c.byte_at.result c.byte_at.ensures (bytes_of c.args.part.now (λ j. (c.type_inv.part j).fits)) c.in_ok-tag.tag c.in_ok-tag.field-0-1 c.in_ok-tag.was in
    g.is ∙ ap (read c.in_ok-tag.tag) (behind_byte c.args.part.now c.in_ok-tag.tag (drop c.in_ok-tag.field-0-1 c.args.part.now) g.is)

pub returns-in_err-tag : goal.returns-in_err-tag
unfolding read_operation_by
returns-in_err-tag c =
    let g = handed_on plain byte_codec c.args.part.now 0 c.byte_at.result c.byte_at.ensures c.in_err-tag.field-0.0 c.in_err-tag.was c.from_residual.ensures.1 in
    rw (g.told, g.is)

pub returns-in-1 : goal.returns-in-1
unfolding read_operation_by
returns-in-1 c = c.set_binding_value.ensures ∙ rw (tagged (goal.at.returns-in-1 c).In_ok-tag, c.in-1.is)

pub returns-in-2 : goal.returns-in-2
unfolding read_operation_by
returns-in-2 c = c.set_node_availability.ensures c.args.strict (edition_of c.args.edition) ∙ rw (tagged (goal.at.returns-in-2 c).In_ok-tag, c.in-2.is)

pub returns-in-3 : goal.returns-in-3
unfolding read_operation_by
returns-in-3 c = c.collection_insert.ensures ∙ rw (tagged (goal.at.returns-in-3 c).In_ok-tag, c.in-3.is)

pub returns-in-4 : goal.returns-in-4
unfolding read_operation_by
returns-in-4 c = c.collection_update.ensures ∙ rw (tagged (goal.at.returns-in-4 c).In_ok-tag, c.in-4.is)

pub returns-in-5 : goal.returns-in-5
unfolding read_operation_by
returns-in-5 c = c.collection_remove.ensures c.args.strict (edition_of c.args.edition) ∙ rw (tagged (goal.at.returns-in-5 c).In_ok-tag, c.in-5.is)

pub returns-in-6 : goal.returns-in-6
unfolding read_operation_by
returns-in-6 c = c.collection_move.ensures c.args.strict (edition_of c.args.edition) ∙ rw (tagged (goal.at.returns-in-6 c).In_ok-tag, c.in-6.is)

pub returns-in_default : goal.returns-in_default
unfolding read_operation_by operation_after
returns-in_default c = rw (tagged (goal.at.returns-in_default c).In_ok-tag) (search rules)
