-- `bytes_utf8::is_tail` meets its contract: the class of the byte at the position decides, and past the end there is none.
use mathlib.Core.Path.{◌≡◌, sym, ◌∙◌}
use mathlib.Core.Bool.{◌&&◌}
use mathlib.Core.List.{[], ◌∷◌}
use lib.Dec.{leb}
use lib.ListN.{drop}
use borrow.Author.Tests.{le-leb, lt-leb}
use Rattle.bytes_utf8.specs.Classes.{tails}
use Rattle.bytes_utf8.specs.Characters.{matches}
use Rattle.bytes_utf8.proofs.CharacterLaws.{matches_past, tail_at}
use Rattle.bytes_utf8.proofs.is_tail.Goals as goal
use Rattle.bytes_utf8.proofs.is_tail.Goals.{After-class_of-class}

decided : (c : After-class_of-class) → matches (tails c.args.low c.args.high ∷ []) (drop c.args.at c.args.text.now) ≡ (leb c.args.low c.class_of-class.result && leb c.class_of-class.result c.args.high)
decided c =
    tail_at c.args.text.now c.args.at _ _ _ c.if-at-text.true (c.type_inv.text c.args.at).fits c.requires.1 c.requires.2 c.class_of-class.ensures

pub returns-then-low-class : goal.returns-then-low-class
returns-then-low-class c = sym (decided (goal.at.returns-then-low-class c).After-class_of-class ∙ rw (le-leb _ _ c.if-low-class.true))

pub returns-else-low-class : goal.returns-else-low-class
returns-else-low-class c = sym (decided (goal.at.returns-else-low-class c).After-class_of-class ∙ rw (lt-leb _ _ c.if-low-class.false))

pub returns : goal.returns
returns c = sym (matches_past _ _ c.args.text.now c.args.at c.if-at-text.false)
