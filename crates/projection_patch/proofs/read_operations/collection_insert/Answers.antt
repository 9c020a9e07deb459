-- `projection_patch::read_operations::collection_insert` meets its contract: a collection, a key, a neighbour, then a value.
use Rattle.spec_lists.proofs.BytesLaws.{bytes_of}
use Rattle.spec_lists.specs.Options.{optional_to}
use Rattle.spec_patch.specs.Reader.{pair}
use Rattle.spec_patch.specs.Read.{read_optional, read_value_by, operation_after}
use Rattle.spec_patch.proofs.ReadLaws.{optional_codec, value_codec_by}
use Rattle.projection_patch.specs.Meaning.{edition_of, value_to}
use Rattle.projection_patch.specs.ReadAnswers.{anywhere}
use Rattle.projection_patch.proofs.Answers.{got, numbers_got, handed_on, numbers_handed_on}
use Rattle.projection_patch.proofs.Places.{node_is, key_is, before_is}
use Rattle.projection_patch.proofs.read_operations.collection_insert.Goals as goal

pub returns-in_err-collection : goal.returns-in_err-collection
unfolding operation_after
returns-in_err-collection c =
    let g = numbers_handed_on c.args.part.now 1 c.numbers_at.result c.numbers_at.ensures c.in_err-collection.field-0.0 c.in_err-collection.was (pair read_optional (read_value_by c.args.strict (edition_of c.args.edition))) c.from_residual.ensures.1 in
    rw (g.told, g.is)

pub returns-in_err-neighbour : goal.returns-in_err-neighbour
unfolding operation_after
returns-in_err-neighbour c =
    let all = bytes_of c.args.part.now (λ j. (c.type_inv.part j).fits) in
    let n = numbers_got c.args.part.now 1 c.numbers_at.result c.numbers_at.ensures all c.in_ok-collection.collection c.in_ok-collection.key c.in_ok-collection.at c.in_ok-collection.was in
    let g = handed_on (anywhere optional_to) optional_codec c.args.part.now c.in_ok-collection.at c.optional_at.result c.optional_at.ensures c.in_err-neighbour.field-0.0 c.in_err-neighbour.was c.from_residual-in_err-neighbour.ensures.1 in
    rw (g.told, n.first, n.second, g.is)

pub returns-in_err-value : goal.returns-in_err-value
unfolding operation_after
returns-in_err-value c =
    let all = bytes_of c.args.part.now (λ j. (c.type_inv.part j).fits) in
    let n = numbers_got c.args.part.now 1 c.numbers_at.result c.numbers_at.ensures all c.in_ok-collection.collection c.in_ok-collection.key c.in_ok-collection.at c.in_ok-collection.was in
    let b = got (anywhere optional_to) optional_codec c.args.part.now c.in_ok-collection.at c.optional_at.result c.optional_at.ensures all c.in_ok-neighbour.neighbour c.in_ok-neighbour.at c.in_ok-neighbour.was in
    let g = handed_on value_to (value_codec_by c.args.strict (edition_of c.args.edition)) c.args.part.now c.in_ok-neighbour.at c.value_at.result c.value_at.ensures c.in_err-value.field-0.0 c.in_err-value.was c.from_residual-in_err-value.ensures.1 in
    rw (g.told, n.first, n.second, b.is, g.is)

pub returns : goal.returns
unfolding operation_after
returns c =
    let all = bytes_of c.args.part.now (λ j. (c.type_inv.part j).fits) in
    let n = numbers_got c.args.part.now 1 c.numbers_at.result c.numbers_at.ensures all c.in_ok-collection.collection c.in_ok-collection.key c.in_ok-collection.at c.in_ok-collection.was in
    let b = got (anywhere optional_to) optional_codec c.args.part.now c.in_ok-collection.at c.optional_at.result c.optional_at.ensures all c.in_ok-neighbour.neighbour c.in_ok-neighbour.at c.in_ok-neighbour.was in
    let v = got value_to (value_codec_by c.args.strict (edition_of c.args.edition)) c.args.part.now c.in_ok-neighbour.at c.value_at.result c.value_at.ensures all c.in_ok-value.value c.in_ok-value.end c.in_ok-value.was in
    rw (c.same_value.ensures, n.first, n.second, b.is, v.is, v.there, v.same, node_is c.new.result c.in_ok-collection.collection c.new.ensures, key_is c.new-2.result c.in_ok-collection.key c.new-2.ensures, before_is c.in_ok-neighbour.neighbour b.a b.same c.key_of.result c.key_of.ensures)
