-- `script_parser::imports::surface_after` meets its contract: no field, a dash, any other field, and a number.
use Prim.Native.Nat.{ℕ, ◌+◌}
use Rattle.std.specs.Prelude.{None}
use mathlib.Core.Path.{◌≡◌, sym, ap, ◌∙◌}
use mathlib.Core.Option.{none, some}
use native.Mathlib.Omega.{arith}
use borrow.Author.Rules.{rules}
use lib.ListN.{drop, length-drop}
use Rattle.spec_lists.specs.Options.{optional_of}
use Rattle.spec_replay.specs.Lines.{space}
use Rattle.spec_replay.specs.Script.{optional_number}
use Rattle.script_parser.specs.Fields.{fields_after}
use Rattle.script_parser.specs.FieldsLaws.{length_first_field, missing, read_here, not_read}
use Rattle.script_parser.specs.Imports.{surface_then}
use Rattle.script_parser.specs.ImportsLaws.{no_surface, a_surface, other_surface}
use Rattle.script_parser.proofs.imports.surface_after.Goals as goal

pub slice_bounds-field-end : goal.slice_bounds-field-end
slice_bounds-field-end c =
    omega (arith, length_first_field space (drop (c.args.end + 1) c.args.line.now), length-drop (c.args.end + 1) c.args.line.now, c.field_end-to.ensures)

pub returns-then-line-end : goal.returns-then-line-end
returns-then-line-end c next =
    missing space optional_number c.args.line.now c.args.end next c.if-line-end.true

pub returns-then-is_word : goal.returns-then-is_word
returns-then-is_word c next =
    read_here space optional_number c.args.line.now c.args.end next c.field_end-to.result none c.field_end-to.ensures (omega arith) (no_surface _ (sym c.is_word.ensures ∙ c.if-is_word.true))

pub returns-in_err-n : goal.returns-in_err-n
returns-in_err-n c next =
    let gone : c.from_residual.result ≡ None = search rules in
    not_read space optional_number c.args.line.now c.args.end next c.field_end-to.result c.field_end-to.ensures (omega arith)
    (other_surface _ (sym c.is_word.ensures ∙ c.if-is_word.false) (sym c.read_u64.ensures ∙ ap optional_of c.in_err-n.was))
    ∙ sym (ap (λ x. surface_then c.args.line.now x next) gone)

pub returns : goal.returns
returns c next =
    read_here space optional_number c.args.line.now c.args.end next c.field_end-to.result _ c.field_end-to.ensures (omega arith)
    (a_surface _ (sym c.is_word.ensures ∙ c.if-is_word.false) _ (sym c.read_u64.ensures ∙ ap optional_of c.in_ok-n.was))
    ∙ ap (λ (n : ℕ). next (some n) (fields_after space c.args.line.now c.field_end-to.result)) (sym c.new.ensures)
