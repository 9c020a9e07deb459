-- `script_parser::members::read_group` meets its contract. The invariant: the batches of the fields so far stand in the first places. The measure is what is left of the line.
use Rattle.std.specs.Prelude.{None, IfSome}
use mathlib.Core.Path.{◌≡◌, refl, sym, ap, ◌∙◌}
use native.Mathlib.Omega.{arith}
use borrow.Author.Rules.{rules}
use Rattle.script_parser.specs.Members.{group_then}
use Rattle.script_parser.specs.MembersLaws.{Gathered, gathered_start, gathered_none, gathered_last, gathered_many, gathered_off, gathered_turn}
use Rattle.script_parser.proofs.members.read_group.Goals as goal

pub loop-at-init : goal.loop-at-init
loop-at-init c = gathered_start c.args.line.now c.args.end _ refl

pub returns-then-line-to-clause-told : goal.returns-then-line-to-clause-told
returns-then-line-to-clause-told c = gathered_last c.loop-at.invariant c.field_end-to.result c.field_end-to.ensures c.loop-at-test.true c.if-line-to.true

pub returns-then-line-to-clause-within : goal.returns-then-line-to-clause-within
returns-then-line-to-clause-within c = (c.loop-at.invariant.few, c.loop-at.invariant.places)

pub returns-then-count-ge-MOST-clause-told : goal.returns-then-count-ge-MOST-clause-told
returns-then-count-ge-MOST-clause-told c = gathered_many c.loop-at.invariant c.field_end-to.result c.field_end-to.ensures c.loop-at-test.true (omega arith) c.if-count-ge-MOST.true

pub slice_bounds-read_member-start : goal.slice_bounds-read_member-start
slice_bounds-read_member-start c = omega (arith, c.field_end-to.ensures)

pub slice_bounds-read_member-end : goal.slice_bounds-read_member-end
slice_bounds-read_member-end c = omega arith

pub returns-in_err-members-clause-told : goal.returns-in_err-members-clause-told
returns-in_err-members-clause-told c =
    let gone : c.from_residual.result ≡ None = search rules in
    gathered_off c.loop-at.invariant c.field_end-to.result c.field_end-to.ensures c.loop-at-test.true (omega arith) (omega arith) c.read_member.result c.read_member.ensures c.in_err-members.was
    ∙ sym (ap (group_then c.args.line.now) gone)

pub loop-at-smaller : goal.loop-at-smaller
loop-at-smaller c = omega (arith, c.field_end-to.ensures, c.loop-at-test.true)

pub loop-at-preserved : goal.loop-at-preserved
loop-at-preserved c =
    gathered_turn c.loop-at.invariant c.field_end-to.result c.field_end-to.ensures c.loop-at-test.true (omega arith) (omega arith) c.read_member.result c.read_member.ensures _ c.in_ok-members.was

pub returns-clause-told : goal.returns-clause-told
returns-clause-told c = gathered_none c.loop-at.invariant (omega arith)
