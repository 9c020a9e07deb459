-- `projection_patch::read_values::numbers_at` meets its contract: two numbers of eight bytes.
use Rattle.spec_lists.proofs.BytesLaws.{bytes_of}
use Rattle.spec_patch.proofs.ReadLaws.{u64_codec}
use Rattle.projection_patch.proofs.Answers.{plain_got}
use Rattle.projection_patch.proofs.read_values.numbers_at.Goals as goal

pub returns : goal.returns
returns c =
    let all = bytes_of c.args.part.now (λ j. (c.type_inv.part j).fits) in
    let a = plain_got u64_codec c.args.part.now c.args.at c.u64_at.result c.u64_at.ensures all c.in_ok-first.first c.in_ok-first.at c.in_ok-first.was in
    let b = plain_got u64_codec c.args.part.now c.in_ok-first.at c.u64_at-2.result c.u64_at-2.ensures all c.in_ok-second.second c.in_ok-second.end c.in_ok-second.was in
    rw (a.is, b.is, b.there)
