-- `script_parser::parse_line` meets its contract: a line that is too long, an empty one, a comment, and fields.
use Prim.Native.Nat.{ℕ}
use Rattle.std.specs.Prelude.{Option, Some, None}
use Rattle.std.specs.Option.{unwrap_or}
use mathlib.Core.List.{List}
use mathlib.Core.Path.{◌≡◌, refl, sym, ap, ◌∙◌}
use Rattle.script_parser.specs.Meaning.{script_command_of, asked_of}
use Rattle.script_parser.specs.declared.ScriptCommand.{ScriptCommand}
use Rattle.script_parser.specs.declared.ScriptCommand.TheVariants.{Other}
use native.Mathlib.Omega.{arith}
use borrow.Author.Rules.{rules}
use Rattle.script_parser.proofs.Whole.{line_too_long, empty_line, comment, by_fields}
use Rattle.script_parser.proofs.parse_line.Goals as goal

pub returns-then-line-gt-LINE_BYTES : goal.returns-then-line-gt-LINE_BYTES
returns-then-line-gt-LINE_BYTES c = sym (line_too_long c.args.line.now c.if-line-gt-LINE_BYTES.true)

pub returns-then-is_empty : goal.returns-then-is_empty
returns-then-is_empty c = sym (empty_line c.args.line.now (search rules))

pub returns-then-line-eq35 : goal.returns-then-line-eq35
returns-then-line-eq35 c =
    sym (comment c.args.line.now (omega arith) (search rules) c.if-line-eq35.true)

-- a command, or any other line
commanded : (line : List ℕ) (o : Option ScriptCommand) → script_command_of line (unwrap_or o Other) ≡ asked_of line o
commanded line (Some k) = refl
commanded line None = refl

pub returns : goal.returns
returns c =
    ap (script_command_of c.args.line.now) c.unwrap_or.ensures
    ∙ commanded c.args.line.now c.parse_fields.result
    ∙ c.parse_fields.ensures
    ∙ sym (by_fields c.args.line.now (omega arith) (search rules) c.if-line-eq35.false)
