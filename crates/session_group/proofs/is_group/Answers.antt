-- `is_group` meets its contract: the count first, then the lengths.
use mathlib.Core.Path.{sym, ◌∙◌}
use borrow.Author.Rules.{rules}
use Rattle.session_group.specs.GroupsLaws.{none_named, many_named, some_named}
use Rattle.session_group.proofs.is_group.Goals as goal

pub returns-then-count-lt1 : goal.returns-then-count-lt1
returns-then-count-lt1 c = sym (none_named c.args.count c.args.batches c.args.bytes c.if-count-lt1.true)

pub returns-then-count-gt-MOST : goal.returns-then-count-gt-MOST
returns-then-count-gt-MOST c = sym (many_named c.args.count c.args.batches c.args.bytes c.if-count-gt-MOST.true)

pub returns : goal.returns
returns c =
    c.adds_up.ensures ∙ sym (some_named c.args.count c.args.batches c.args.bytes c.if-count-lt1.false c.if-count-gt-MOST.false)
