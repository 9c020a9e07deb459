-- `projection_patch::read_operations::collection_update` meets its contract: a collection, a key, then a value.
use Rattle.spec_lists.proofs.BytesLaws.{bytes_of}
use Rattle.spec_patch.specs.Read.{read_value_by, operation_after}
use Rattle.spec_patch.proofs.ReadLaws.{value_codec_by}
use Rattle.projection_patch.specs.Meaning.{edition_of, value_to}
use Rattle.projection_patch.proofs.Answers.{got, numbers_got, handed_on, numbers_handed_on}
use Rattle.projection_patch.proofs.Places.{node_is, key_is}
use Rattle.projection_patch.proofs.read_operations.collection_update.Goals as goal

pub returns-in_err-collection : goal.returns-in_err-collection
unfolding operation_after
returns-in_err-collection c =
    let g = numbers_handed_on c.args.part.now 1 c.numbers_at.result c.numbers_at.ensures c.in_err-collection.field-0.0 c.in_err-collection.was (read_value_by c.args.strict (edition_of c.args.edition)) c.from_residual.ensures.1 in
    rw (g.told, g.is)

pub returns-in_err-value : goal.returns-in_err-value
unfolding operation_after
returns-in_err-value c =
    let all = bytes_of c.args.part.now (λ j. (c.type_inv.part j).fits) in
    let n = numbers_got c.args.part.now 1 c.numbers_at.result c.numbers_at.ensures all c.in_ok-collection.collection c.in_ok-collection.key c.in_ok-collection.at c.in_ok-collection.was in
    let g = handed_on value_to (value_codec_by c.args.strict (edition_of c.args.edition)) c.args.part.now c.in_ok-collection.at c.value_at.result c.value_at.ensures c.in_err-value.field-0.0 c.in_err-value.was c.from_residual-in_err-value.ensures.1 in
    rw (g.told, n.first, n.second, g.is)

pub returns : goal.returns
unfolding operation_after
returns c =
    let all = bytes_of c.args.part.now (λ j. (c.type_inv.part j).fits) in
    let n = numbers_got c.args.part.now 1 c.numbers_at.result c.numbers_at.ensures all c.in_ok-collection.collection c.in_ok-collection.key c.in_ok-collection.at c.in_ok-collection.was in
    let v = got value_to (value_codec_by c.args.strict (edition_of c.args.edition)) c.args.part.now c.in_ok-collection.at c.value_at.result c.value_at.ensures all c.in_ok-value.value c.in_ok-value.end c.in_ok-value.was in
    rw (c.same_value.ensures, n.first, n.second, v.is, v.there, v.same, node_is c.new.result c.in_ok-collection.collection c.new.ensures, key_is c.new-2.result c.in_ok-collection.key c.new-2.ensures)
