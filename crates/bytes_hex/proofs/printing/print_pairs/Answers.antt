-- `bytes_hex::printing::print_pairs` meets its contract. The invariant: the pairs of the bytes so far are printed.
use native.Mathlib.Omega.{arith}
use Rattle.spec_replay.specs.Hex.{byte_pair}
use Rattle.bytes_printer.proofs.PrintsLaws.{lines_start, lines_turn}
use Rattle.bytes_hex.proofs.printing.print_pairs.Goals as goal

pub loop-byte-init : goal.loop-byte-init
loop-byte-init c = λ w. lines_start byte_pair c.args.bytes.now w

pub loop-byte-preserved : goal.loop-byte-preserved
loop-byte-preserved c =
    λ w. lines_turn byte_pair c.args.bytes.now c.loop-byte.byte-index 0 (omega arith) (c.loop-byte.invariant w) c.print_pair-at.ensures
