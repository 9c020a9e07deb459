-- `bytes_utf8::check_from` meets its contract. The loop's invariant is `Reached`; its measure is what is left of the text.
use mathlib.Core.Path.{refl, sym}
use native.Mathlib.Omega.{arith}
use borrow.Author.Rules.{rules}
use Rattle.bytes_utf8.specs.Classes.{after_class}
use Rattle.bytes_utf8.proofs.Reached.{reached_front, reached_ascii, reached_end, reached_refused}
use Rattle.bytes_utf8.proofs.check_from.Goals as goal

pub loop-i-init : goal.loop-i-init
loop-i-init c = reached_front c.requires.1

pub row_end-twos-requires : goal.row_end-twos-requires
unfolding after_class
row_end-twos-requires c = (c.requires.0, c.loop-i.invariant, (omega arith, omega arith, refl))

pub loop-i-preserved-then-i-end : goal.loop-i-preserved-then-i-end
loop-i-preserved-then-i-end c = reached_ascii c.row_end-twos.ensures.0 c.ascii_end-end.ensures

pub overflow_add-characters : goal.overflow_add-characters
overflow_add-characters c = let r = loop-i-preserved-then-i-end c in search rules

pub returns-then-next-i : goal.returns-then-next-i
returns-then-next-i c =
    sym (reached_refused c.loop-i.invariant c.loop-i-test.true (c.other_end-next.ensures.2 c.if-next-i.true))

pub returns : goal.returns
returns c = sym (reached_end c.loop-i.invariant c.loop-i-test.false)
