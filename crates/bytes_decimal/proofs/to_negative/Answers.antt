-- `bytes_decimal::to_negative` meets its contract: −n is computed as -1 - (n - 1).
use Rattle.std.proofs.Common.{sym, ap, ◌∙◌, arith}
use Rattle.spec_lists.specs.Options.{optional_of}
use Rattle.bytes_decimal.proofs.Signs.{negative_zero, negative_refused, negative_tried}
use Rattle.bytes_decimal.proofs.to_negative.Goals as goal

pub returns-in_err-checked_sub : goal.returns-in_err-checked_sub
returns-in_err-checked_sub c = ap optional_of c.from_residual.ensures ∙ sym (negative_zero c.args.n (omega (arith, c.in_err-checked_sub.ensures)))

pub returns-in_err-ok : goal.returns-in_err-ok
returns-in_err-ok c =
    ap optional_of c.from_residual-in_err-ok.ensures
    ∙ negative_refused c.args.n c.in_ok-checked_sub.field-0 c.in_ok-checked_sub.ensures c.try_from.result c.try_from.ensures c.in_err-ok.ensures.value

pub overflow_sub-result : goal.overflow_sub-result
overflow_sub-result c =
    (negative_tried c.args.n c.in_ok-checked_sub.field-0 c.in_ok-checked_sub.ensures c.try_from.result c.try_from.ensures c.in_ok-ok.field-0 c.in_ok-ok.ensures.value).0

pub returns : goal.returns
returns c =
    (negative_tried c.args.n c.in_ok-checked_sub.field-0 c.in_ok-checked_sub.ensures c.try_from.result c.try_from.ensures c.in_ok-ok.field-0 c.in_ok-ok.ensures.value).1
