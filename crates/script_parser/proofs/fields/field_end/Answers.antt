-- `script_parser::fields::field_end` meets its contract. The invariant: what is left of the field ends where the whole does.
use Prim.Native.Nat.{◌+◌, ◌-◌}
use mathlib.Core.Path.{◌≡◌, refl}
use native.Mathlib.Omega.{arith}
use borrow.Author.Rules.{rules}
use borrow.Author.Tests.{leb-true, leb-false}
use lib.Dec.{leb}
use lib.ListN.{length, drop}
use Rattle.spec_lists.proofs.ListLaws.{test_cases}
use Rattle.script_parser.specs.Fields.{first_field}
use Rattle.script_parser.specs.FieldsLaws.{at_separator, past_byte, at_end}
use Rattle.script_parser.proofs.fields.field_end.Goals as goal

pub loop-i-init : goal.loop-i-init
loop-i-init c = refl

pub returns-then-line-i : goal.returns-then-line-i
returns-then-line-i c =
    omega (arith, at_separator c.args.separator c.args.line.now c.loop-i.i (omega arith) c.if-line-i.true)

pub loop-i-preserved : goal.loop-i-preserved
loop-i-preserved c =
    omega (arith, past_byte c.args.separator c.args.line.now c.loop-i.i (omega arith) c.if-line-i.false)

pub returns : goal.returns
returns c =
    test_cases (leb c.args.from (length c.args.line.now))
    (λ t. omega (arith, leb-true _ _ t, at_end c.args.separator c.args.line.now c.loop-i.i (omega (arith, leb-true _ _ t))))
    (λ t. omega (arith, leb-false _ _ t, at_end c.args.separator c.args.line.now c.args.from (omega (arith, leb-false _ _ t))))
