-- `bytes_hex::is_hex_pairs` meets its contract: an odd length, and else the digits alone.
use mathlib.Core.Path.{sym, ◌∙◌}
use native.Mathlib.Omega.{arith}
use borrow.Author.Tests.{ne_eqb}
use Rattle.bytes_hex.specs.Decoding.{is_hex_digit}
use Rattle.bytes_hex.proofs.Pairs.{odd_pairs, even_pairs, all_is}
use Rattle.bytes_hex.proofs.is_hex_pairs.Goals as goal

pub returns-then-text-eq0 : goal.returns-then-text-eq0
returns-then-text-eq0 c =
    c.are_hex_digits.ensures ∙ all_is is_hex_digit c.args.text.now ∙ even_pairs c.args.text.now (λ e. omega arith)

pub returns-else-text-eq0 : goal.returns-else-text-eq0
returns-else-text-eq0 c = ne_eqb _ 0 c.if-text-eq0.false ∙ sym (odd_pairs c.args.text.now (omega arith))
