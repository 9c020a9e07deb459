use mathlib.Core.List.{flat_map}
use lib.ListN.{take}
use Rattle.spec_replay.specs.Hex.{byte_pair}
use Rattle.bytes_printer.specs.Prints.{Prints, Within}
use Rattle.bytes_hex.proofs.printing.print_pairs.Given as goal

abbrev pub invariant-loop-byte : goal.invariant-loop-byte
invariant-loop-byte l = Within l.initial.out l.initial.at → Prints l.initial.out l.initial.at (flat_map byte_pair (take l.byte-index l.bytes)) l.out l.at
