-- `script_parser::imports::read_import` meets its contract: a room up to the bound and the rest behind it, or any other line.
use Prim.Native.Nat.{ℕ}
use Rattle.std.specs.Prelude.{Option, None}
use mathlib.Core.Path.{◌≡◌, sym, ap, ◌∙◌}
use native.Mathlib.Omega.{arith}
use Rattle.spec_patch.specs.Sizes.{set_bytes}
use Rattle.spec_replay.specs.Lines.{space}
use Rattle.spec_replay.specs.Script.{Arguments, import_arguments}
use Rattle.script_parser.specs.Fields.{fields_after, number_then}
use Rattle.script_parser.specs.Forms.{up_to}
use Rattle.script_parser.specs.FormsLaws.{fits_bound, exceeds_bound}
use borrow.Author.Rules.{rules}
use Rattle.script_parser.specs.Meaning.{asked_of}
use Rattle.script_parser.specs.Imports.{behind_room}
use Rattle.script_parser.specs.ImportsLaws.{import_room}
use Rattle.script_parser.proofs.imports.read_import.Goals as goal
use Rattle.script_parser.proofs.imports.read_import.Goals.{After-number_after}

-- what is read behind the room
abbrev behind_number : ℕ → Arguments
behind_number n fs = up_to set_bytes n (λ room. behind_room room fs)

by_number : (c : After-number_after) (r : Option (ℕ × ℕ)) → c.number_after.result ≡ r → import_arguments (fields_after space c.args.line.now c.args.end) ≡ number_then space c.args.line.now r behind_number
by_number c r is = import_room (fields_after space c.args.line.now c.args.end) ∙ c.number_after.ensures behind_number ∙ ap (λ x. number_then space c.args.line.now x behind_number) is

pub returns-in_err-room : goal.returns-in_err-room
returns-in_err-room c =
    let gone : c.from_residual.result ≡ None = search rules in
    ap (asked_of c.args.line.now) gone ∙ sym (by_number (goal.at.returns-in_err-room c).After-number_after _ c.in_err-room.was)

pub returns-then-room-gt32768 : goal.returns-then-room-gt32768
returns-then-room-gt32768 c =
    exceeds_bound set_bytes _ (λ room. behind_room room (fields_after space c.args.line.now c.in_ok-room.to)) c.if-room-gt32768.true
    ∙ sym (by_number (goal.at.returns-then-room-gt32768 c).After-number_after _ c.in_ok-room.was)

pub returns : goal.returns
returns c =
    c.read_front.ensures
    ∙ fits_bound set_bytes _ (λ room. behind_room room (fields_after space c.args.line.now c.in_ok-room.to)) (omega arith)
    ∙ sym (by_number (goal.at.returns c).After-number_after _ c.in_ok-room.was)
