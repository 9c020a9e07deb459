-- `script_parser::counted_fields` meets its contract: the numbers of the form, and what stands behind them.
use Prim.Native.Nat.{ℕ}
use Rattle.std.specs.Prelude.{Option, None}
use mathlib.Core.Path.{◌≡◌, sym, ap, ◌∙◌}
use Rattle.spec_replay.specs.Lines.{space}
use Rattle.script_parser.specs.Fields.{fields_after, numbers, filled, numbers_then}
use borrow.Author.Rules.{rules}
use Rattle.script_parser.specs.Meaning.{asked_of}
use Rattle.script_parser.specs.Forms.{last_arguments, form_arguments, form_at}
use Rattle.script_parser.specs.declared.fields.NumberFields.{NumberFields}
use Rattle.script_parser.proofs.counted_fields.Goals as goal
use Rattle.script_parser.proofs.counted_fields.Goals.{After-read_numbers}

by-numbers : (c : After-read_numbers) (r : Option NumberFields) → c.read_numbers.result ≡ r
    → form_arguments (form_at c.args.form) (fields_after space c.args.line.now c.args.end) ≡ numbers_then space c.args.line.now r (last_arguments (form_at c.args.form))
by-numbers c r is =
    let form = form_at c.args.form in
    ap (λ (k : ℕ). numbers k (λ ns. last_arguments form (filled k ns)) (fields_after space c.args.line.now c.args.end)) (sym c.number_count-count.ensures.0)
    ∙ c.read_numbers.ensures (last_arguments form)
    ∙ ap (λ x. numbers_then space c.args.line.now x (last_arguments form)) is

pub returns-in_err-numbers : goal.returns-in_err-numbers
returns-in_err-numbers c =
    let gone : c.from_residual.result ≡ None = search rules in
    ap (asked_of c.args.line.now) gone ∙ sym (by-numbers (goal.at.returns-in_err-numbers c).After-read_numbers _ c.in_err-numbers.was)

pub returns : goal.returns
returns c = c.last_fields.ensures ∙ sym (by-numbers (goal.at.returns c).After-read_numbers _ c.in_ok-numbers.was)
