-- `bytes_utf8::ascii_end` meets its contract: the loop's invariant is the claim of the position reached.
use Prim.Native.Nat.{◌+◌}
use mathlib.Core.Path.{◌≡◌, sym, ◌∙◌}
use native.Mathlib.Omega.{arith}
use lib.ListN.{length}
use borrow.Author.Rules.{rules}
use Rattle.bytes_utf8.specs.Characters.{AsciiBetween}
use Rattle.bytes_utf8.proofs.AsciiLaws.{ascii_none, ascii_joined, ascii_one}
use Rattle.bytes_utf8.proofs.TableLaws.{class_ascii}
use Rattle.bytes_utf8.proofs.ascii_end.Goals as goal
use Rattle.bytes_utf8.proofs.ascii_end.Goals.{Else-class_of-ne0}

-- the first byte is passed
first : (c : Else-class_of-ne0) → AsciiBetween c.args.text.now c.args.from (c.args.from + 1)
first c =
    ascii_one (search rules) (class_ascii _ (c.type_inv.text c.args.from).fits (sym c.class_of.ensures ∙ c.if-class_of-ne0.false))

pub returns-then-from-text : goal.returns-then-from-text
returns-then-from-text c = search (rules, ascii_none)

pub returns-then-class_of-ne0 : goal.returns-then-class_of-ne0
returns-then-class_of-ne0 c = search (rules, ascii_none)

pub returns-then-next-text : goal.returns-then-next-text
returns-then-next-text c = first (goal.at.returns-then-next-text c).Else-class_of-ne0

pub returns-then-class_of-ne0-2 : goal.returns-then-class_of-ne0-2
returns-then-class_of-ne0-2 c = first (goal.at.returns-then-class_of-ne0-2 c).Else-class_of-ne0

pub loop-i-init : goal.loop-i-init
loop-i-init c = ascii_joined (first (goal.at.loop-i-init c).Else-class_of-ne0) c.groups_end-i.ensures

pub loop-i-preserved : goal.loop-i-preserved
loop-i-preserved c =
    ascii_joined c.loop-i.invariant (ascii_one c.loop-i-test.true (class_ascii _ (c.type_inv.text c.loop-i.i).fits (sym c.class_of-in-loop-i.ensures ∙ c.if-class_of-ne0-3.false)))

pub returns : goal.returns
returns c = let end : c.loop-i.i ≡ length c.args.text.now = omega (arith, c.groups_end-i.ensures.within) in rw (← end) c.loop-i.invariant
