-- `projection_patch::read_operations::set_node_availability` meets its contract: a node, then an availability.
use Rattle.spec_lists.proofs.BytesLaws.{bytes_of}
use Rattle.spec_patch.specs.Read.{operation_after}
use Rattle.spec_patch.proofs.ReadLaws.{u64_codec, availability_codec}
use Rattle.projection_patch.specs.Meaning.{availability_to}
use Rattle.projection_patch.specs.ReadAnswers.{anywhere, plain}
use Rattle.projection_patch.proofs.Answers.{got, plain_got, handed_on}
use Rattle.projection_patch.proofs.Places.{node_is}
use Rattle.projection_patch.proofs.read_operations.set_node_availability.Goals as goal

pub returns-in_err-node : goal.returns-in_err-node
unfolding operation_after
returns-in_err-node c strict ed =
    let g = handed_on plain u64_codec c.args.part.now 1 c.u64_at.result c.u64_at.ensures c.in_err-node.field-0.0 c.in_err-node.was c.from_residual.ensures.1 in
    rw (g.told, g.is)

pub returns-in_err-availability : goal.returns-in_err-availability
unfolding operation_after
returns-in_err-availability c strict ed =
    let all = bytes_of c.args.part.now (λ j. (c.type_inv.part j).fits) in
    let n = plain_got u64_codec c.args.part.now 1 c.u64_at.result c.u64_at.ensures all c.in_ok-node.node c.in_ok-node.at c.in_ok-node.was in
    let g = handed_on (anywhere availability_to) availability_codec c.args.part.now c.in_ok-node.at c.availability_at.result c.availability_at.ensures c.in_err-availability.field-0.0 c.in_err-availability.was c.from_residual-in_err-availability.ensures.1 in
    rw (g.told, n.is, g.is)

pub returns : goal.returns
unfolding operation_after
returns c strict ed =
    let all = bytes_of c.args.part.now (λ j. (c.type_inv.part j).fits) in
    let n = plain_got u64_codec c.args.part.now 1 c.u64_at.result c.u64_at.ensures all c.in_ok-node.node c.in_ok-node.at c.in_ok-node.was in
    let a = got (anywhere availability_to) availability_codec c.args.part.now c.in_ok-node.at c.availability_at.result c.availability_at.ensures all c.in_ok-availability.availability c.in_ok-availability.end c.in_ok-availability.was in
    rw (n.is, a.is, a.there, a.same, node_is c.new.result c.in_ok-node.node c.new.ensures)
