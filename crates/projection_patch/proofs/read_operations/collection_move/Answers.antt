-- `projection_patch::read_operations::collection_move` meets its contract: a collection, a key, then a neighbour.
use Rattle.spec_lists.proofs.BytesLaws.{bytes_of}
use Rattle.spec_lists.specs.Options.{optional_to}
use Rattle.spec_patch.specs.Read.{read_optional, operation_after}
use Rattle.spec_patch.proofs.ReadLaws.{optional_codec}
use Rattle.projection_patch.specs.ReadAnswers.{anywhere}
use Rattle.projection_patch.proofs.Answers.{got, numbers_got, handed_on, numbers_handed_on}
use Rattle.projection_patch.proofs.Places.{node_is, key_is, before_is}
use Rattle.projection_patch.proofs.read_operations.collection_move.Goals as goal

pub returns-in_err-collection : goal.returns-in_err-collection
unfolding operation_after
returns-in_err-collection c strict ed =
    let g = numbers_handed_on c.args.part.now 1 c.numbers_at.result c.numbers_at.ensures c.in_err-collection.field-0.0 c.in_err-collection.was read_optional c.from_residual.ensures.1 in
    rw (g.told, g.is)

pub returns-in_err-neighbour : goal.returns-in_err-neighbour
unfolding operation_after
returns-in_err-neighbour c strict ed =
    let all = bytes_of c.args.part.now (λ j. (c.type_inv.part j).fits) in
    let n = numbers_got c.args.part.now 1 c.numbers_at.result c.numbers_at.ensures all c.in_ok-collection.collection c.in_ok-collection.key c.in_ok-collection.at c.in_ok-collection.was in
    let g = handed_on (anywhere optional_to) optional_codec c.args.part.now c.in_ok-collection.at c.optional_at.result c.optional_at.ensures c.in_err-neighbour.field-0.0 c.in_err-neighbour.was c.from_residual-in_err-neighbour.ensures.1 in
    rw (g.told, n.first, n.second, g.is)

pub returns : goal.returns
unfolding operation_after
returns c strict ed =
    let all = bytes_of c.args.part.now (λ j. (c.type_inv.part j).fits) in
    let n = numbers_got c.args.part.now 1 c.numbers_at.result c.numbers_at.ensures all c.in_ok-collection.collection c.in_ok-collection.key c.in_ok-collection.at c.in_ok-collection.was in
    let b = got (anywhere optional_to) optional_codec c.args.part.now c.in_ok-collection.at c.optional_at.result c.optional_at.ensures all c.in_ok-neighbour.neighbour c.in_ok-neighbour.end c.in_ok-neighbour.was in
    rw (n.first, n.second, b.is, b.there, node_is c.new.result c.in_ok-collection.collection c.new.ensures, key_is c.new-2.result c.in_ok-collection.key c.new-2.ensures, before_is c.in_ok-neighbour.neighbour b.a b.same c.key_of.result c.key_of.ensures)
