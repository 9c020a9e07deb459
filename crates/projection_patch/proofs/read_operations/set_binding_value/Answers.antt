-- `projection_patch::read_operations::set_binding_value` meets its contract: a node, a slot, then a value.
use Rattle.spec_lists.proofs.BytesLaws.{bytes_of}
use Rattle.spec_patch.specs.Read.{operation_after}
use Rattle.spec_patch.proofs.ReadLaws.{u32_codec, u64_codec, value_codec_by}
use Rattle.projection_patch.specs.Meaning.{edition_of, value_to}
use Rattle.projection_patch.specs.ReadAnswers.{plain}
use Rattle.projection_patch.proofs.Answers.{got, plain_got, handed_on}
use Rattle.projection_patch.proofs.Places.{node_is}
use Rattle.projection_patch.proofs.read_operations.set_binding_value.Goals as goal

pub returns-in_err-node : goal.returns-in_err-node
unfolding operation_after
returns-in_err-node c =
    let g = handed_on plain u64_codec c.args.part.now 1 c.u64_at.result c.u64_at.ensures c.in_err-node.field-0.0 c.in_err-node.was c.from_residual.ensures.1 in
    rw (g.told, g.is)

pub returns-in_err-slot : goal.returns-in_err-slot
unfolding operation_after
returns-in_err-slot c =
    let all = bytes_of c.args.part.now (λ j. (c.type_inv.part j).fits) in
    let n = plain_got u64_codec c.args.part.now 1 c.u64_at.result c.u64_at.ensures all c.in_ok-node.node c.in_ok-node.at c.in_ok-node.was in
    let g = handed_on plain u32_codec c.args.part.now c.in_ok-node.at c.u32_at.result c.u32_at.ensures c.in_err-slot.field-0.0 c.in_err-slot.was c.from_residual-in_err-slot.ensures.1 in
    rw (g.told, n.is, g.is)

pub returns-in_err-value : goal.returns-in_err-value
unfolding operation_after
returns-in_err-value c =
    let all = bytes_of c.args.part.now (λ j. (c.type_inv.part j).fits) in
    let n = plain_got u64_codec c.args.part.now 1 c.u64_at.result c.u64_at.ensures all c.in_ok-node.node c.in_ok-node.at c.in_ok-node.was in
    let s = plain_got u32_codec c.args.part.now c.in_ok-node.at c.u32_at.result c.u32_at.ensures all c.in_ok-slot.slot c.in_ok-slot.at c.in_ok-slot.was in
    let g = handed_on value_to (value_codec_by c.args.strict (edition_of c.args.edition)) c.args.part.now c.in_ok-slot.at c.value_at.result c.value_at.ensures c.in_err-value.field-0.0 c.in_err-value.was c.from_residual-in_err-value.ensures.1 in
    rw (g.told, n.is, s.is, g.is)

pub returns : goal.returns
unfolding operation_after
returns c =
    let all = bytes_of c.args.part.now (λ j. (c.type_inv.part j).fits) in
    let n = plain_got u64_codec c.args.part.now 1 c.u64_at.result c.u64_at.ensures all c.in_ok-node.node c.in_ok-node.at c.in_ok-node.was in
    let s = plain_got u32_codec c.args.part.now c.in_ok-node.at c.u32_at.result c.u32_at.ensures all c.in_ok-slot.slot c.in_ok-slot.at c.in_ok-slot.was in
    let v = got value_to (value_codec_by c.args.strict (edition_of c.args.edition)) c.args.part.now c.in_ok-slot.at c.value_at.result c.value_at.ensures all c.in_ok-value.value c.in_ok-value.end c.in_ok-value.was in
    rw (c.same_value.ensures, n.is, s.is, v.is, v.there, v.same, node_is c.new.result c.in_ok-node.node c.new.ensures)
