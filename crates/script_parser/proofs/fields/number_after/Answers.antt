-- `script_parser::fields::number_after` meets its contract: no field, any other field, and a number.
use Prim.Native.Nat.{◌+◌}
use Rattle.std.specs.Prelude.{None}
use mathlib.Core.Path.{◌≡◌, sym, ap, ◌∙◌}
use native.Mathlib.Omega.{arith}
use borrow.Author.Rules.{rules}
use lib.ListN.{drop, length-drop}
use Rattle.spec_lists.specs.Options.{optional_of}
use Rattle.spec_decimal.specs.Decimal.{read_decimal}
use Rattle.script_parser.specs.Fields.{number_then}
use Rattle.script_parser.specs.FieldsLaws.{length_first_field, missing, read_here, not_read}
use Rattle.script_parser.proofs.fields.number_after.Goals as goal

pub slice_bounds-read_u64-end : goal.slice_bounds-read_u64-end
slice_bounds-read_u64-end c =
    let rest = drop (c.args.end + 1) c.args.line.now in
    omega (arith, length_first_field c.args.separator rest, length-drop (c.args.end + 1) c.args.line.now)

pub returns-then-line-end : goal.returns-then-line-end
returns-then-line-end c next =
    missing c.args.separator read_decimal c.args.line.now c.args.end next c.if-line-end.true

pub returns-in_err-n : goal.returns-in_err-n
returns-in_err-n c next =
    let gone : c.from_residual.result ≡ None = search rules in
    not_read c.args.separator read_decimal c.args.line.now c.args.end next c.field_end-to.result c.field_end-to.ensures (omega arith) (sym c.read_u64.ensures ∙ ap optional_of c.in_err-n.was)
    ∙ sym (ap (λ r. number_then c.args.separator c.args.line.now r next) gone)

pub returns : goal.returns
returns c next =
    read_here c.args.separator read_decimal c.args.line.now c.args.end next c.field_end-to.result _ c.field_end-to.ensures (omega arith) (sym c.read_u64.ensures ∙ ap optional_of c.in_ok-n.was)
