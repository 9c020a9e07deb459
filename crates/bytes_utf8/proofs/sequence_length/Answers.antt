-- `bytes_utf8::sequence_length` meets its contract. The loop's invariant: the tails that are left stand there exactly if all do.
use Prim.Native.Nat.{◌-◌}
use mathlib.Core.Path.{◌≡◌, ap, ◌∙◌}
use mathlib.Core.Bool.{true, false}
use native.Mathlib.Omega.{arith}
use lib.ListN.{drop}
use Rattle.bytes_utf8.specs.Characters.{matches, if_any}
use Rattle.bytes_utf8.proofs.CharacterLaws.{matches_told, tails_told, sequence_there, sequence_missing, some_length}
use Rattle.bytes_utf8.proofs.sequence_length.Goals as goal

pub returns-then-not-is_tail : goal.returns-then-not-is_tail
returns-then-not-is_tail c =
    ap if_any (sequence_missing c.args.low c.args.high c.args.length (drop 1 c.args.text.now) (matches_told _ _ c.args.text.now 1 false c.is_tail.ensures c.if-not-is_tail.true))

pub loop-i-init : goal.loop-i-init
loop-i-init c =
    (omega arith, c.requires.3, matches_told _ _ c.args.text.now 1 true c.is_tail.ensures c.if-not-is_tail.false)

pub returns-then-not-is_tail-2 : goal.returns-then-not-is_tail-2
returns-then-not-is_tail-2 c =
    ap if_any (sequence_missing c.args.low c.args.high c.args.length (drop 1 c.args.text.now)
    (c.loop-i.invariant.2 ∙ tails_told c.args.text.now c.args.length _ false c.loop-i-test.true c.is_tail-in-loop-i.ensures c.if-not-is_tail-2.true))

pub loop-i-preserved : goal.loop-i-preserved
loop-i-preserved c = (
  omega arith,
  omega arith,
  c.loop-i.invariant.2 ∙ tails_told c.args.text.now c.args.length _ true c.loop-i-test.true c.is_tail-in-loop-i.ensures c.if-not-is_tail-2.false,
)

pub returns : goal.returns
unfolding matches
returns c =
    let none : c.args.length - c.loop-i.i ≡ 0 = omega arith in
    some_length c.args.length c.requires.3 (sequence_there c.args.low c.args.high c.args.length (drop 1 c.args.text.now) c.requires.3 (c.loop-i.invariant.2 ∙ rw none))
