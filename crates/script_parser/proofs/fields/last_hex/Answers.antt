-- `script_parser::fields::last_hex` meets its contract: no field, a field that is not the last, and the last field.
use native.Mathlib.Omega.{arith}
use Rattle.spec_replay.specs.Lines.{space}
use Rattle.spec_replay.specs.Hex.{read_hex}
use Rattle.spec_replay.specs.Script.{end}
use Rattle.script_parser.specs.FieldsLaws.{missing, hex_not_last, hex_last}
use Rattle.script_parser.proofs.fields.last_hex.Goals as goal

pub returns-then-line-end : goal.returns-then-line-end
returns-then-line-end c next =
    missing space read_hex c.args.line.now c.args.end (λ set. end (next set)) c.if-line-end.true

pub returns-then-field_end-line : goal.returns-then-field_end-line
returns-then-field_end-line c next =
    hex_not_last c.args.line.now c.args.end next c.field_end.result c.field_end.ensures (omega arith) c.if-field_end-line.true

pub returns : goal.returns
returns c next =
    hex_last c.args.line.now c.args.end next c.field_end.result c.field_end.ensures (omega arith) (omega arith)
