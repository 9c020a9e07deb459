-- `script_answers::dependencies::print_keys` meets its contract. The invariant: the lines of the first i records are printed.
use Prim.Native.Nat.{◌*◌, ◌-◌, ◌≤◌}
use mathlib.Core.Path.{◌≡◌, refl, ap}
use mathlib.Core.List.{flat_map}
use native.Mathlib.Omega.{arith}
use borrow.Author.Rules.{rules}
use lib.ListN.{length, take}
use Rattle.spec_dependencies.specs.Answer.{pair_length}
use Rattle.spec_replay.specs.Answers.{key_line, first_keys}
use Rattle.bytes_printer.specs.Prints.{Prints, Within}
use Rattle.bytes_printer.proofs.PrintsLaws.{prints_same, lines_start, lines_turn, lines_end}
use Rattle.script_answers.proofs.Keys.{no_key, keys_counted, key_at}
use Rattle.script_answers.proofs.dependencies.print_keys.Goals as goal

pub returns-then-words-count : goal.returns-then-words-count
returns-then-words-count c = λ room w. absurd (omega (arith, c.if-words-count.true))

pub loop-i-init : goal.loop-i-init
loop-i-init c =
    λ room w. lines_start key_line (first_keys c.args.count c.args.words.now) w

pub loop-i-preserved : goal.loop-i-preserved
loop-i-preserved c =
    let keys = first_keys c.args.count c.args.words.now in
    λ room w.
    let same = ap key_line (key_at c.args.count c.loop-i.i c.args.words.now (omega arith)) in
    lines_turn key_line keys c.loop-i.i no_key (omega (arith, keys_counted c.args.count c.args.words.now)) (c.loop-i.invariant room w) (prints_same same c.print_key-at.ensures)

pub returns : goal.returns
returns c =
    λ room w. lines_end key_line (first_keys c.args.count c.args.words.now) c.loop-i.i (omega (arith, keys_counted c.args.count c.args.words.now)) (c.loop-i.invariant room w)
