-- `bytes_decimal::read_digits` meets its contract. The invariant: from the number so far, what is left of the text reads as the whole does.
use mathlib.Core.Path.{sym, ap, ◌∙◌}
use native.Mathlib.Omega.{arith}
use Rattle.spec_lists.specs.Options.{optional_of}
use Rattle.bytes_decimal.proofs.Reading.{next_digit, no_digit, last_digit}
use Rattle.bytes_decimal.proofs.read_digits.Goals as goal

pub returns-in_err-n : goal.returns-in_err-n
returns-in_err-n c =
    ap optional_of c.from_residual.ensures ∙ sym (no_digit c.args.text.now c.loop-byte.byte-index c.loop-byte.n (omega arith) c.in_err-n.ensures) ∙ c.loop-byte.invariant.1

pub loop-byte-preserved : goal.loop-byte-preserved
loop-byte-preserved c =
    let on = next_digit c.args.text.now c.loop-byte.byte-index c.loop-byte.n c.in_ok-n.n (omega arith) c.in_ok-n.ensures in
    (on.1, on.0 ∙ c.loop-byte.invariant.1)

pub returns : goal.returns
returns c = sym (last_digit c.args.text.now c.loop-byte.byte-index c.loop-byte.n (omega arith) c.loop-byte.invariant.0) ∙ c.loop-byte.invariant.1
