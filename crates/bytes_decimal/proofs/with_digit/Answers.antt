-- `bytes_decimal::with_digit` meets its contract: a byte that is no digit, a number that would exceed a u64, and one that fits.
use Rattle.std.proofs.Common.{sym, ap, ◌∙◌, arith, inl, inr}
use Rattle.spec_lists.specs.Options.{optional_of}
use Rattle.bytes_decimal.proofs.Reading.{below_digits, above_digits, digit_exceeds, digit_added}
use Rattle.bytes_decimal.proofs.with_digit.Goals as goal

pub returns-then-not-is_ascii_digit : goal.returns-then-not-is_ascii_digit
returns-then-not-is_ascii_digit c =
    sym (elim c.if-not-is_ascii_digit.ensures.cases [ inl low ↦ below_digits _ _ low | inr high ↦ above_digits _ _ high ])

pub returns-in_err-checked_mul : goal.returns-in_err-checked_mul
returns-in_err-checked_mul c =
    ap optional_of c.from_residual.ensures ∙ sym (digit_exceeds c.args.n c.args.byte (omega (arith, c.if-not-is_ascii_digit.ensures.cases)) (omega (arith, c.if-not-is_ascii_digit.ensures.cases)) (omega (arith, c.in_err-checked_mul.ensures)))

pub returns : goal.returns
returns c =
    digit_added c.args.n c.args.byte (omega (arith, c.if-not-is_ascii_digit.ensures.cases)) (omega (arith, c.if-not-is_ascii_digit.ensures.cases)) (omega (arith, c.in_ok-checked_mul.ensures)) (omega arith) c.checked_add.result c.checked_add.ensures
