-- `projection_patch::read_operations::collection_remove` meets its contract: a collection and a key.
use Rattle.spec_lists.proofs.BytesLaws.{bytes_of}
use Rattle.spec_patch.specs.Read.{operation_after}
use Rattle.spec_patch.proofs.Codec.{pair_codec}
use Rattle.spec_patch.proofs.ReadLaws.{u64_codec}
use Rattle.projection_patch.specs.ReadAnswers.{plain}
use Rattle.projection_patch.proofs.Answers.{numbers_got, handed_on}
use Rattle.projection_patch.proofs.Places.{node_is, key_is}
use Rattle.projection_patch.proofs.read_operations.collection_remove.Goals as goal

pub returns-in_err-collection : goal.returns-in_err-collection
unfolding operation_after
returns-in_err-collection c strict ed =
    let g = handed_on plain (pair_codec u64_codec u64_codec) c.args.part.now 1 c.numbers_at.result c.numbers_at.ensures c.in_err-collection.field-0.0 c.in_err-collection.was c.from_residual.ensures.1 in
    rw (g.told, g.is)

pub returns : goal.returns
unfolding operation_after
returns c strict ed =
    let all = bytes_of c.args.part.now (λ j. (c.type_inv.part j).fits) in
    let n = numbers_got c.args.part.now 1 c.numbers_at.result c.numbers_at.ensures all c.in_ok-collection.collection c.in_ok-collection.key c.in_ok-collection.end c.in_ok-collection.was in
    rw (n.first, n.second, n.there, node_is c.new.result c.in_ok-collection.collection c.new.ensures, key_is c.new-2.result c.in_ok-collection.key c.new-2.ensures)
