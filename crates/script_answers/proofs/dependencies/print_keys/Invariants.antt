use Prim.Native.Nat.{◌*◌, ◌-◌, ◌≤◌}
use mathlib.Core.Path.{◌≡◌, refl, ap}
use mathlib.Core.List.{flat_map}
use native.Mathlib.Omega.{arith}
use borrow.Author.Rules.{rules}
use lib.ListN.{length, take}
use Rattle.spec_dependencies.specs.Answer.{pair_length}
use Rattle.spec_replay.specs.Answers.{key_line, first_keys}
use Rattle.bytes_printer.specs.Prints.{Prints, Within}
use Rattle.bytes_printer.proofs.PrintsLaws.{prints_same, lines_start, lines_turn, lines_end}
use Rattle.script_answers.proofs.Keys.{no_key, keys_counted, key_at}
use Rattle.script_answers.proofs.dependencies.print_keys.Given as goal

abbrev pub invariant-loop-i : goal.invariant-loop-i
invariant-loop-i l =
    pair_length * l.count ≤ length l.words → Within l.initial.out l.initial.at → Prints l.initial.out l.initial.at (flat_map key_line (take l.i (first_keys l.count l.words))) l.out l.at
