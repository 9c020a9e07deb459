-- `projection_patch::read_values::availability_at` meets its contract: the byte picks the state.
use Rattle.std.proofs.lemmas.Result.{err_from_is_err_and}
use Rattle.spec_lists.proofs.BytesLaws.{bytes_of}
use lib.ListN.{length, drop}
use Rattle.spec_patch.specs.Reader.{byte}
use Rattle.spec_patch.specs.Read.{read_availability}
use Rattle.spec_patch.proofs.Codec.{byte_codec}
use Rattle.projection_patch.specs.ReadAnswers.{plain}
use Rattle.projection_patch.proofs.Answers.{GotPlain, plain_got, handed_on}
use Rattle.projection_patch.proofs.States.{availability_left}
use Rattle.projection_patch.proofs.read_values.availability_at.Goals as goal
use Rattle.projection_patch.proofs.read_values.availability_at.Goals.{In_ok-tag}

got : (c : In_ok-tag) → GotPlain byte c.args.part.now c.args.at c.in_ok-tag.tag c.in_ok-tag.end
got c =
    plain_got byte_codec c.args.part.now c.args.at c.byte_at.result c.byte_at.ensures (bytes_of c.args.part.now (λ j. (c.type_inv.part j).fits)) c.in_ok-tag.tag c.in_ok-tag.end c.in_ok-tag.was

pub returns-in_err-tag : goal.returns-in_err-tag
unfolding read_availability
returns-in_err-tag c =
    let g = handed_on plain byte_codec c.args.part.now c.args.at c.byte_at.result c.byte_at.ensures c.in_err-tag.field-0.0 c.in_err-tag.was c.from_residual.ensures.1 in
    rw (g.told, g.is)

pub returns-in_err-try_from : goal.returns-in_err-try_from
unfolding read_availability
returns-in_err-try_from c =
    let g = got (goal.at.returns-in_err-try_from c).In_ok-tag in
    let p = err_from_is_err_and c.from_residual-in_err-try_from.result c.from_residual-in_err-try_from.ensures.1 in
    rw (p.1, p.2, g.is, availability_left c.in_ok-tag.tag (length c.args.part.now) (drop c.in_ok-tag.end c.args.part.now), ← c.try_from.ensures, c.in_err-try_from.was)

pub returns : goal.returns
unfolding read_availability
returns c =
    let g = got (goal.at.returns c).In_ok-tag in
    rw (g.is, availability_left c.in_ok-tag.tag (length c.args.part.now) (drop c.in_ok-tag.end c.args.part.now), g.there, ← c.try_from.ensures, c.in_ok-try_from.was)
