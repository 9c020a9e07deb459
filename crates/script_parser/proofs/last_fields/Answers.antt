-- `script_parser::last_fields` meets its contract: a set up to the end of the line, or the end of the line.
use mathlib.Core.Path.{◌≡◌, sym, ap, ◌∙◌}
use mathlib.Core.Bool.{Bool, true, false}
use mathlib.Core.List.{List, []}
use Prim.Native.Nat.{ℕ}
use Rattle.std.specs.Prelude.{if◌then◌else◌, Option, None}
use Rattle.spec_replay.specs.Lines.{space}
use Rattle.spec_replay.specs.Script.{end, hex}
use Rattle.script_parser.specs.Fields.{fields_after, hex_then}
use Rattle.script_parser.specs.FieldsLaws.{fields_ended, fields_not_ended}
use Rattle.script_parser.specs.Meaning.{asked_of}
use Rattle.script_parser.specs.Forms.{Form, last_arguments, form_at}
use borrow.Author.Rules.{rules}
use Rattle.script_parser.proofs.last_fields.Goals as goal

with_set : (f : Form) (ns : List ℕ) (fs : List (List ℕ)) → f.with_set ≡ true → last_arguments f ns fs ≡ hex (λ set. end (f.makes ns set)) fs
with_set f ns fs e = ap (λ (t : Bool). (if t then hex (λ set. end (f.makes ns set)) else end (f.makes ns [])) fs) e

without_set : (f : Form) (ns : List ℕ) (fs : List (List ℕ)) → f.with_set ≡ false → last_arguments f ns fs ≡ end (f.makes ns []) fs
without_set f ns fs e = ap (λ (t : Bool). (if t then hex (λ set. end (f.makes ns set)) else end (f.makes ns [])) fs) e

pub set_command-requires : goal.set_command-requires
set_command-requires c =
    (c.requires, sym c.has_set.ensures ∙ c.if-has_set.true)

pub returns-in_err-from : goal.returns-in_err-from
returns-in_err-from c =
    let gone : c.from_residual.result ≡ None = search rules in
    ap (asked_of c.args.line.now) gone
    ∙ sym (with_set (form_at c.args.form) c.args.values (fields_after space c.args.line.now c.args.end) (sym c.has_set.ensures ∙ c.if-has_set.true)
    ∙ c.last_hex.ensures _ ∙ ap (λ (h : Option ℕ). hex_then c.args.line.now h ((form_at c.args.form).makes c.args.values)) c.in_err-from.was)

pub returns-then-has_set : goal.returns-then-has_set
returns-then-has_set c =
    c.set_command.ensures c.args.line.now
    ∙ sym (with_set (form_at c.args.form) c.args.values (fields_after space c.args.line.now c.args.end) (sym c.has_set.ensures ∙ c.if-has_set.true)
    ∙ c.last_hex.ensures _ ∙ ap (λ (h : Option ℕ). hex_then c.args.line.now h ((form_at c.args.form).makes c.args.values)) c.in_ok-from.was)

pub returns-then-end-line : goal.returns-then-end-line
returns-then-end-line c =
    sym (without_set (form_at c.args.form) c.args.values (fields_after space c.args.line.now c.args.end) (sym c.has_set.ensures ∙ c.if-has_set.false) ∙ fields_not_ended space c.args.line.now c.args.end _ c.if-end-line.true)

pub command_of-requires : goal.command_of-requires
command_of-requires c =
    sym c.has_set.ensures ∙ c.if-has_set.false

pub returns : goal.returns
returns c =
    c.command_of.ensures c.args.line.now
    ∙ sym (without_set (form_at c.args.form) c.args.values (fields_after space c.args.line.now c.args.end) (sym c.has_set.ensures ∙ c.if-has_set.false) ∙ fields_ended space c.args.line.now c.args.end _ c.if-end-line.false)
