-- `script_parser::members::read_member` meets its contract: seven numbers and no more, of which one is an edition.
use Rattle.std.specs.Prelude.{Option, None}
use mathlib.Core.Path.{◌≡◌, sym, ap, ◌∙◌}
use native.Mathlib.Omega.{arith}
use borrow.Author.Rules.{rules}
use Rattle.spec_group.specs.Group.{GroupBatch}
use Rattle.spec_replay.specs.Script.{Command, end, comma, member_parts}
use Rattle.script_parser.specs.Fields.{fields_after, numbers_then}
use Rattle.script_parser.specs.FieldsLaws.{fields_ended, fields_not_ended}
use Rattle.script_parser.specs.Members.{member_made, member_then}
use Rattle.script_parser.specs.MembersLaws.{member_numbers}
use Rattle.script_parser.specs.declared.fields.NumberFields.{NumberFields}
use Rattle.script_parser.proofs.members.read_member.Goals as goal
use Rattle.script_parser.proofs.members.read_member.Goals.{After-read_numbers}

by-numbers : (c : After-read_numbers) (next : GroupBatch → Command) (r : Option NumberFields) → c.read_numbers.result ≡ r
    → member_parts next (fields_after comma c.args.part.now 0) ≡ numbers_then comma c.args.part.now r (λ ns. end (member_made ns next))
by-numbers c next r is =
    member_numbers next (fields_after comma c.args.part.now 0)
    ∙ c.read_numbers.ensures (λ ns. end (member_made ns next))
    ∙ ap (λ x. numbers_then comma c.args.part.now x (λ ns. end (member_made ns next))) is

pub returns-in_err-numbers : goal.returns-in_err-numbers
returns-in_err-numbers c next =
    let gone : c.from_residual.result ≡ None = search rules in
    by-numbers (goal.at.returns-in_err-numbers c).After-read_numbers next _ c.in_err-numbers.was ∙ sym (ap (λ x. member_then x next) gone)

pub returns-then-numbers-part : goal.returns-then-numbers-part
returns-then-numbers-part c next =
    by-numbers (goal.at.returns-then-numbers-part c).After-read_numbers next _ c.in_ok-numbers.was
    ∙ fields_not_ended comma c.args.part.now c.in_ok-numbers.numbers.end _ c.if-numbers-part.true

pub returns : goal.returns
returns c next =
    by-numbers (goal.at.returns c).After-read_numbers next _ c.in_ok-numbers.was
    ∙ fields_ended comma c.args.part.now c.in_ok-numbers.numbers.end _ (omega arith)
    ∙ sym (c.member_of.ensures next)
