use Prim.Native.Nat.{ℕ, ◌≤◌}
use mathlib.Core.List.{List}
use lib.ListN.{drop}
use Rattle.std.specs.Prelude.{Option}
use Rattle.spec_panel_print.specs.Print.{text_width}
use Rattle.bytes_printer.specs.Prints.{Prints}
use Rattle.panel_print.specs.ByteFlow.{flowed_bytes}
use Rattle.panel_print.proofs.columns.print_columns.Given as goal

abbrev pub invariant-loop-byte : goal.invariant-loop-byte
invariant-loop-byte l =
    (l.column ≤ text_width) × ((m : List ℕ) (r : Option ℕ) → Prints l.out l.at (flowed_bytes l.column (drop l.byte-index l.bytes)) m r → Prints l.initial.out l.initial.at (flowed_bytes 0 l.bytes) m r)
