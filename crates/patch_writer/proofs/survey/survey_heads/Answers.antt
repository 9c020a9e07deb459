-- `survey::survey_heads` meets its contract. The invariant: what is left of the heads answers as the whole does.
use Rattle.std.proofs.Common.{sym, subst, get_or, arith, drop_of_length-le}
use Prim.Native.Nat.{ℕ, ◌+◌}
use Rattle.patch_writer.proofs.Elements.{no_patch, whole_cons}
use Rattle.patch_writer.proofs.Surveyed.{HeadsSeen, heads_next, heads_over, heads_end}
use Rattle.patch_writer.proofs.survey.survey_heads.Goals as goal

pub returns-then-count-gt-OPERATIONS : goal.returns-then-count-gt-OPERATIONS
returns-then-count-gt-OPERATIONS c =
    let head = get_or c.args.heads.now c.loop-head.head-index no_patch in
    sym (heads_over c.loop-head.invariant head (whole_cons c.args.heads.now c.loop-head.head-index no_patch c.loop-head-test.true) c.if-count-gt-OPERATIONS.true)

pub loop-head-preserved : goal.loop-head-preserved
loop-head-preserved c =
    let head = get_or c.args.heads.now c.loop-head.head-index no_patch in
    let next = heads_next c.loop-head.invariant head (whole_cons c.args.heads.now c.loop-head.head-index no_patch c.loop-head-test.true) c.if-count-gt-OPERATIONS.false in
    subst (λ (n : ℕ). HeadsSeen c.args.heads.now (c.loop-head.operations + head.operation_count) (c.loop-head.bytes + n) (c.loop-head.head-index + 1)) (sym c.head_size-bytes.ensures) next

pub returns : goal.returns
returns c = sym (heads_end c.loop-head.invariant (drop_of_length-le c.args.heads.now (omega (arith, c.loop-head-test.false))))
