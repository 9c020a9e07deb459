-- `script_parser::imports::read_front` meets its contract: four numbers, a surface, and the rest behind it.
use Rattle.std.specs.Prelude as code
use Prim.Native.Nat.{ℕ}
use mathlib.Core.Option.{Option}
use mathlib.Core.Path.{◌≡◌, sym, ap, ◌∙◌}
use Rattle.spec_replay.specs.Lines.{space}
use Rattle.spec_replay.specs.Script.{Arguments, optional}
use Rattle.script_parser.specs.Fields.{fields_after, numbers_then}
use borrow.Author.Rules.{rules}
use Rattle.script_parser.specs.Meaning.{asked_of}
use Rattle.script_parser.specs.Imports.{surface_then, behind_surface, behind_room}
use Rattle.script_parser.specs.declared.fields.NumberFields.{NumberFields}
use Rattle.script_parser.proofs.imports.read_front.Goals as goal
use Rattle.script_parser.proofs.imports.read_front.Goals.{After-read_numbers}

by-numbers : (c : After-read_numbers) (r : code.Option NumberFields) → c.read_numbers.result ≡ r
    → behind_room c.args.room (fields_after space c.args.line.now c.args.end) ≡ numbers_then space c.args.line.now r (λ ns. optional (λ s. behind_surface c.args.room ns s))
by-numbers c r is =
    c.read_numbers.ensures (λ ns. optional (λ s. behind_surface c.args.room ns s))
    ∙ ap (λ x. numbers_then space c.args.line.now x (λ ns. optional (λ s. behind_surface c.args.room ns s))) is

pub returns-in_err-front : goal.returns-in_err-front
returns-in_err-front c =
    let gone : c.from_residual.result ≡ code.None = search rules in
    ap (asked_of c.args.line.now) gone ∙ sym (by-numbers (goal.at.returns-in_err-front c).After-read_numbers _ c.in_err-front.was)

pub returns-in_err-surface : goal.returns-in_err-surface
returns-in_err-surface c =
    let gone : c.from_residual-in_err-surface.result ≡ code.None = search rules in
    let behind : Option ℕ → Arguments = λ s. behind_surface c.args.room c.in_ok-front.front.values s in
    ap (asked_of c.args.line.now) gone
    ∙ sym (by-numbers (goal.at.returns-in_err-surface c).After-read_numbers _ c.in_ok-front.was ∙ c.surface_after.ensures behind ∙ ap (λ x. surface_then c.args.line.now x behind) c.in_err-surface.was)

pub returns : goal.returns
returns c =
    let behind : Option ℕ → Arguments = λ s. behind_surface c.args.room c.in_ok-front.front.values s in
    c.read_back.ensures
    ∙ sym (by-numbers (goal.at.returns c).After-read_numbers _ c.in_ok-front.was ∙ c.surface_after.ensures behind ∙ ap (λ x. surface_then c.args.line.now x behind) c.in_ok-surface.was)
