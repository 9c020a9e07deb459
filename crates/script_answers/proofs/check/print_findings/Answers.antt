-- `script_answers::check::print_findings` meets its contract. The invariant: the lines of the first i records are printed.
use Prim.Native.Nat.{◌*◌, ◌-◌, ◌≤◌}
use mathlib.Core.Path.{◌≡◌, refl, ap}
use mathlib.Core.List.{List, flat_map}
use native.Mathlib.Omega.{arith}
use borrow.Author.Rules.{rules}
use lib.ListN.{length, take}
use Rattle.spec_checks.specs.Finding.{Finding}
use Rattle.spec_checks.specs.Answer.{record_length, finding_words}
use Rattle.spec_replay.specs.Answers.{finding_line}
use Rattle.bytes_printer.specs.Prints.{Prints, Within}
use Rattle.bytes_printer.proofs.PrintsLaws.{prints_same, lines_start, lines_turn, lines_end}
use Rattle.script_answers.proofs.Records.{no_finding, words_there, finding_at}
use Rattle.script_answers.proofs.check.print_findings.Goals as goal

pub returns-then-records-count : goal.returns-then-records-count
returns-then-records-count c =
    λ fs counted words w. absurd (omega (arith, words_there c.args.records.now c.args.count fs counted words, c.if-records-count.true))

pub loop-i-init : goal.loop-i-init
loop-i-init c = λ fs counted words w. lines_start finding_line fs w

pub loop-i-preserved : goal.loop-i-preserved
loop-i-preserved c =
    λ fs counted words w.
    let same = ap finding_line (finding_at c.args.records.now c.args.count fs counted words c.loop-i.i (omega arith)) in
    lines_turn finding_line fs c.loop-i.i no_finding (omega arith) (c.loop-i.invariant fs counted words w) (prints_same same c.print_finding-at.ensures)

pub returns : goal.returns
returns c =
    λ fs counted words w. lines_end finding_line fs c.loop-i.i (omega arith) (c.loop-i.invariant fs counted words w)
