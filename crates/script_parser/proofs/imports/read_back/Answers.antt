-- `script_parser::imports::read_back` meets its contract: four numbers, and hex behind them.
use Rattle.std.specs.Prelude as code
use Prim.Native.Nat.{ℕ}
use mathlib.Core.List.{List}
use mathlib.Core.Path.{◌≡◌, sym, ap, ◌∙◌}
use Rattle.spec_replay.specs.Lines.{space}
use Rattle.spec_replay.specs.Script.{Command, end, hex}
use Rattle.projection_patch.specs.Meaning.{surface_of}
use Rattle.script_parser.specs.Fields.{fields_after, hex_then, numbers_then}
use borrow.Author.Rules.{rules}
use Rattle.script_parser.specs.Meaning.{asked_of}
use Rattle.script_parser.specs.Imports.{import_made, behind_surface}
use Rattle.script_parser.specs.declared.fields.NumberFields.{NumberFields}
use Rattle.script_parser.proofs.imports.read_back.Goals as goal
use Rattle.script_parser.proofs.imports.read_back.Goals.{After-read_numbers}

by-numbers : (c : After-read_numbers) (r : code.Option NumberFields) → c.read_numbers.result ≡ r
    → behind_surface c.args.room c.args.front (surface_of c.args.surface) (fields_after space c.args.line.now c.args.end)
    ≡ numbers_then space c.args.line.now r (λ ns. hex (λ list. end (import_made c.args.room c.args.front (surface_of c.args.surface) ns list)))
by-numbers c r is =
    c.read_numbers.ensures (λ ns. hex (λ list. end (import_made c.args.room c.args.front (surface_of c.args.surface) ns list)))
    ∙ ap (λ x. numbers_then space c.args.line.now x (λ ns. hex (λ list. end (import_made c.args.room c.args.front (surface_of c.args.surface) ns list)))) is

-- what is read behind the numbers
abbrev made : After-read_numbers → List ℕ → List ℕ → Command
made c back list = import_made c.args.room c.args.front (surface_of c.args.surface) back list

pub returns-in_err-back : goal.returns-in_err-back
returns-in_err-back c =
    let gone : c.from_residual.result ≡ code.None = search rules in
    ap (asked_of c.args.line.now) gone ∙ sym (by-numbers (goal.at.returns-in_err-back c).After-read_numbers _ c.in_err-back.was)

pub returns-in_err-from : goal.returns-in_err-from
returns-in_err-from c =
    let gone : c.from_residual-in_err-from.result ≡ code.None = search rules in
    let behind : List ℕ → Command = made (goal.at.returns-in_err-from c).After-read_numbers c.in_ok-back.back.values in
    ap (asked_of c.args.line.now) gone
    ∙ sym (by-numbers (goal.at.returns-in_err-from c).After-read_numbers _ c.in_ok-back.was ∙ c.last_hex.ensures behind ∙ ap (λ x. hex_then c.args.line.now x behind) c.in_err-from.was)

pub returns : goal.returns
returns c =
    let behind : List ℕ → Command = made (goal.at.returns c).After-read_numbers c.in_ok-back.back.values in
    c.import_command.ensures c.args.line.now
    ∙ sym (by-numbers (goal.at.returns c).After-read_numbers _ c.in_ok-back.was ∙ c.last_hex.ensures behind ∙ ap (λ x. hex_then c.args.line.now x behind) c.in_ok-from.was)
