-- `script_parser::fields::read_numbers` meets its contract. The invariant: the first i numbers are read.
use Rattle.std.specs.Prelude.{None}
use mathlib.Core.Path.{◌≡◌, sym, ap, ◌∙◌}
use native.Mathlib.Omega.{arith}
use borrow.Author.Rules.{rules}
use Rattle.script_parser.specs.Fields.{numbers_then}
use Rattle.script_parser.proofs.Numbers.{reading_start, reading_turn, reading_off, reading_end}
use Rattle.script_parser.proofs.fields.read_numbers.Goals as goal

pub loop-i-init : goal.loop-i-init
loop-i-init c = reading_start c.args.separator c.args.line.now c.args.end c.args.count

pub returns-in_err-n : goal.returns-in_err-n
returns-in_err-n c next =
    let gone : c.from_residual.result ≡ None = search rules in
    reading_off c.loop-i.invariant (omega arith) c.number_after.result c.number_after.ensures c.in_err-n.was _
    ∙ sym (ap (λ r. numbers_then c.args.separator c.args.line.now r next) gone)

pub loop-i-preserved : goal.loop-i-preserved
loop-i-preserved c =
    reading_turn c.loop-i.invariant (omega arith) c.requires c.number_after.result _ _ c.number_after.ensures c.in_ok-n.was

pub returns : goal.returns
returns c = λ next. reading_end c.loop-i.invariant (omega arith) next
