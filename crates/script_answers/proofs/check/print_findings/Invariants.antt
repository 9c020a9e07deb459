use Prim.Native.Nat.{◌*◌, ◌-◌, ◌≤◌}
use mathlib.Core.Path.{◌≡◌, refl, ap}
use mathlib.Core.List.{List, flat_map}
use native.Mathlib.Omega.{arith}
use borrow.Author.Rules.{rules}
use lib.ListN.{length, take}
use Rattle.spec_checks.specs.Finding.{Finding}
use Rattle.spec_checks.specs.Answer.{record_length, finding_words}
use Rattle.spec_replay.specs.Answers.{finding_line}
use Rattle.bytes_printer.specs.Prints.{Prints, Within}
use Rattle.bytes_printer.proofs.PrintsLaws.{prints_same, lines_start, lines_turn, lines_end}
use Rattle.script_answers.proofs.Records.{no_finding, words_there, finding_at}
use Rattle.script_answers.proofs.check.print_findings.Given as goal

abbrev pub invariant-loop-i : goal.invariant-loop-i
invariant-loop-i l =
    (fs : List Finding) → length fs ≡ l.count → take (record_length * l.count) l.records ≡ finding_words fs → Within l.initial.out l.initial.at → Prints l.initial.out l.initial.at (flat_map finding_line (take l.i fs)) l.out l.at
