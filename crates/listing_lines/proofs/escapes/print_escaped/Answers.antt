-- `listing_lines::escapes::print_escaped` meets its contract. The invariant: the bytes so far are printed escaped.
use native.Mathlib.Omega.{arith}
use Rattle.spec_listing.specs.Escapes.{escaped_byte, escaped}
use Rattle.bytes_printer.proofs.PrintsLaws.{lines_start, lines_turn, lines_end}
use Rattle.listing_lines.proofs.escapes.print_escaped.Goals as goal

pub loop-byte-init : goal.loop-byte-init
loop-byte-init c = λ w. lines_start escaped_byte c.args.text.now w

pub loop-byte-preserved : goal.loop-byte-preserved
loop-byte-preserved c =
    λ w. lines_turn escaped_byte c.args.text.now c.loop-byte.byte-index 0 (omega arith) (c.loop-byte.invariant w) c.print_text_byte-at.ensures

pub returns : goal.returns
unfolding escaped
returns c = λ w. lines_end escaped_byte c.args.text.now c.loop-byte.byte-index (omega arith) (c.loop-byte.invariant w)
