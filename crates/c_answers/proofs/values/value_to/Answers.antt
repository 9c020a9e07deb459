-- `value_to` meets its contract: one number after the other.
use mir.Syntax.{w64}
use mir.Facts.{to_z-of_z}
use borrow.Author.Rules.{sfits_of}
use borrow.Author.Rules.{rules}
use Rattle.c_answers.proofs.values.value_to.Goals as goal

pub returns : goal.returns
returns c =
    let number = to_z-of_z (sfits_of {w = w64} c.struct_told-1.given.1.1.1.1.0.1) in
    λ i. record { disposition = c.args.disposition; found = c.bit.ensures i; mark = c.args.value.mark; kind = c.args.value.kind; quad = c.args.value.quad; signed_number = number i; unsigned_number = c.args.value.unsigned; text_length = c.args.value.text_len; text = c.args.value.text }
