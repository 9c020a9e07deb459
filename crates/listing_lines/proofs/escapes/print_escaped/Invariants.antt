use mathlib.Core.List.{flat_map}
use lib.ListN.{take}
use Rattle.spec_listing.specs.Escapes.{escaped_byte}
use Rattle.bytes_printer.specs.Prints.{Prints, Within}
use Rattle.listing_lines.proofs.escapes.print_escaped.Given as goal

abbrev pub invariant-loop-byte : goal.invariant-loop-byte
invariant-loop-byte l = Within l.initial.out l.initial.at → Prints l.initial.out l.initial.at (flat_map escaped_byte (take l.byte-index l.text)) l.out l.at
