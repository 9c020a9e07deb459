-- `script_parser::keys::read_keys` meets its contract. The invariant: the keys of the fields so far stand in the first places. The measure is the places left.
use Rattle.std.specs.Prelude.{None}
use mathlib.Core.Path.{◌≡◌, refl, sym, ap, ◌∙◌}
use native.Mathlib.Omega.{arith}
use borrow.Author.Rules.{rules}
use Rattle.script_parser.specs.Keys.{keys_then}
use Rattle.script_parser.specs.KeysLaws.{KeyedLine, keyed_start, keyed_end, keyed_many, keyed_off, keyed_turn}
use Rattle.script_parser.proofs.keys.read_keys.Goals as goal

pub loop-at-init : goal.loop-at-init
loop-at-init c = keyed_start c.args.line.now c.args.end _ refl

pub returns-then-count-ge-MOST-clause-told : goal.returns-then-count-ge-MOST-clause-told
returns-then-count-ge-MOST-clause-told c = keyed_many c.loop-at.invariant c.loop-at-test.true c.if-count-ge-MOST.true

pub returns-in_err-key-clause-told : goal.returns-in_err-key-clause-told
returns-in_err-key-clause-told c next =
    let gone : c.from_residual.result ≡ None = search rules in
    keyed_off c.loop-at.invariant c.loop-at-test.true (omega arith) c.number_after.result c.number_after.ensures c.in_err-key.was next
    ∙ sym (ap (λ x. keys_then x next) gone)

pub loop-at-preserved : goal.loop-at-preserved
loop-at-preserved c =
    keyed_turn c.loop-at.invariant c.loop-at-test.true (omega arith) c.number_after.result c.number_after.ensures _ _ c.in_ok-key.was

pub returns-clause-told : goal.returns-clause-told
returns-clause-told c = keyed_end c.loop-at.invariant (omega arith)

pub returns-clause-within : goal.returns-clause-within
returns-clause-within c = (c.loop-at.invariant.few, c.loop-at.invariant.places)
