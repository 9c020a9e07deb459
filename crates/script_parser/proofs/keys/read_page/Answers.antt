-- `script_parser::keys::read_page` meets its contract: two numbers, the second of which is tested, and keys behind them.
use Rattle.std.specs.Prelude.{Option, None}
use mathlib.Core.Path.{◌≡◌, sym, ap, ◌∙◌}
use native.Mathlib.Omega.{arith}
use Prim.Native.Nat.{ℕ}
use mathlib.Core.List.{List}
use borrow.Author.Rules.{rules}
use Rattle.spec_replay.specs.Lines.{space}
use Rattle.spec_replay.specs.Script.{Command, page, up_to_end, places_of_page, line_keys, page_arguments}
use Rattle.script_parser.specs.Fields.{fields_after, numbers_then}
use Rattle.script_parser.specs.Forms.{number_in}
use Rattle.script_parser.specs.Keys.{keys_then, page_then}
use Rattle.script_parser.specs.KeysLaws.{keys_behind_room, page_numbers}
use Rattle.script_parser.specs.FormsLaws.{fits_bound, exceeds_bound}
use Rattle.script_parser.specs.declared.fields.NumberFields.{NumberFields}
use Rattle.script_parser.specs.declared.keys.KeyFields.{KeyFields}
use Rattle.script_parser.proofs.keys.read_page.Goals as goal
use Rattle.script_parser.proofs.keys.read_page.Goals.{After-read_numbers, After-read_keys}

by-numbers : (c : After-read_numbers) (r : Option NumberFields) → c.read_numbers.result ≡ r
    → page_arguments (fields_after space c.args.line.now c.args.end) ≡ numbers_then space c.args.line.now r keys_behind_room
by-numbers c r is =
    page_numbers (fields_after space c.args.line.now c.args.end) ∙ c.read_numbers.ensures keys_behind_room ∙ ap (λ x. numbers_then space c.args.line.now x keys_behind_room) is

pub returns-in_err-numbers-clause-told : goal.returns-in_err-numbers-clause-told
returns-in_err-numbers-clause-told c =
    let gone : c.from_residual.result ≡ None = search rules in
    by-numbers (goal.at.returns-in_err-numbers-clause-told c).After-read_numbers _ c.in_err-numbers.was ∙ sym (ap page_then gone)

pub returns-then-room-gt-PLACES-clause-told : goal.returns-then-room-gt-PLACES-clause-told
returns-then-room-gt-PLACES-clause-told c =
    let values : List ℕ = c.in_ok-numbers.numbers.values in
    by-numbers (goal.at.returns-then-room-gt-PLACES-clause-told c).After-read_numbers _ c.in_ok-numbers.was
    ∙ sym (exceeds_bound places_of_page (number_in values 1) (λ room. up_to_end line_keys (page (number_in values 0) room) (fields_after space c.args.line.now c.in_ok-numbers.numbers.end)) c.if-room-gt-PLACES.true)

-- the keys are read behind the room
by_keys : (c : After-read_keys) → page_arguments (fields_after space c.args.line.now c.args.end) ≡ keys_behind_room c.in_ok-numbers.numbers.values (fields_after space c.args.line.now c.in_ok-numbers.numbers.end)
    → (r : Option KeyFields) → c.read_keys.result ≡ r → page_arguments (fields_after space c.args.line.now c.args.end)
    ≡ keys_then r (page (number_in c.in_ok-numbers.numbers.values 0) (number_in c.in_ok-numbers.numbers.values 1))
by_keys c numbered r is =
    let values : List ℕ = c.in_ok-numbers.numbers.values in
    numbered
    ∙ sym (fits_bound places_of_page (number_in values 1) (λ room. up_to_end line_keys (page (number_in values 0) room) (fields_after space c.args.line.now c.in_ok-numbers.numbers.end)) (omega arith))
    ∙ c.read_keys.ensures.told (page (number_in values 0) (number_in values 1))
    ∙ ap (λ x. keys_then x (page (number_in values 0) (number_in values 1))) is

pub returns-in_err-keys-clause-told : goal.returns-in_err-keys-clause-told
returns-in_err-keys-clause-told c =
    let gone : c.from_residual-in_err-keys.result ≡ None = search rules in
    by_keys (goal.at.returns-in_err-keys-clause-told c).After-read_keys (by-numbers (goal.at.returns-in_err-keys-clause-told c).After-read_numbers _ c.in_ok-numbers.was) _ c.in_err-keys.was ∙ sym (ap page_then gone)

pub returns-clause-told : goal.returns-clause-told
returns-clause-told c = by_keys (goal.at.returns-clause-told c).After-read_keys (by-numbers (goal.at.returns-clause-told c).After-read_numbers _ c.in_ok-numbers.was) _ c.in_ok-keys.was
