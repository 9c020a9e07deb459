-- `patch_sets::read_patch_head` meets its contract: the envelope, then a count within its capacity.
use Rattle.std.proofs.lemmas.Result.{err_from_is_err_and}
use Rattle.spec_lists.proofs.BytesLaws.{bytes_of}
use Rattle.patch_sets.specs.Walk.{read_head}
use Rattle.patch_sets.proofs.PatchAnswers.{envelope_got, no_envelope, operation_count_got, no_operation_count}
use Rattle.patch_sets.proofs.read_patch_head.Goals as goal

pub returns-in_err-envelope : goal.returns-in_err-envelope
unfolding read_head
returns-in_err-envelope c =
    let e = no_envelope c.args.part.now 0 c.envelope.result c.envelope.ensures c.in_err-envelope.field-0.0 c.in_err-envelope.was in
    let p = err_from_is_err_and c.from_residual.result c.from_residual.ensures.1 in
    rw (p.1, p.2, ← e.same, e.is)

pub returns-in_err-operation_count : goal.returns-in_err-operation_count
unfolding read_head
returns-in_err-operation_count c =
    let all = bytes_of c.args.part.now (λ j. (c.type_inv.part j).fits) in
    let e = envelope_got c.args.part.now 0 c.envelope.result c.envelope.ensures all c.in_ok-envelope.envelope c.in_ok-envelope.at c.in_ok-envelope.was in
    let n = no_operation_count c.args.part.now c.in_ok-envelope.at c.count_at.result c.count_at.ensures c.in_err-operation_count.field-0.0 c.in_err-operation_count.was in
    let p = err_from_is_err_and c.from_residual-in_err-operation_count.result c.from_residual-in_err-operation_count.ensures.1 in
    rw (p.1, p.2, ← n.same, e.is, n.is)

pub returns : goal.returns
unfolding read_head
returns c =
    let all = bytes_of c.args.part.now (λ j. (c.type_inv.part j).fits) in
    let e = envelope_got c.args.part.now 0 c.envelope.result c.envelope.ensures all c.in_ok-envelope.envelope c.in_ok-envelope.at c.in_ok-envelope.was in
    let n = operation_count_got c.args.part.now c.in_ok-envelope.at c.count_at.result c.count_at.ensures all c.in_ok-operation_count.operation_count c.in_ok-operation_count.end c.in_ok-operation_count.was in
    rw (e.is, n.is, n.there, e.same, n.same)
