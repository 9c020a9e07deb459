-- `check_quick::quick_operations::operation_found` meets its contract: the tests in their order.
use mathlib.Core.Path.{refl, sym, ◌∙◌}
use mathlib.Core.Bool.{true}
use Rattle.spec_lists.proofs.ListLaws.{or_true}
use Rattle.check_quick.specs.QuickLaws.{or_false}
use borrow.Author.Rules.{rules}
use Rattle.check_quick.proofs.quick_operations.operation_found.Goals as goal

pub returns-then-seen_by_mark : goal.returns-then-seen_by_mark
returns-then-seen_by_mark c =
    record { found = rw (sym c.seen_by_mark.ensures.seen ∙ c.if-seen_by_mark.true) (sym (or_true c.args.found true refl)); kept = c.seen_by_mark.ensures.kept; marked = c.seen_by_mark.ensures.marked }

pub returns-then-before_self : goal.returns-then-before_self
returns-then-before_self c =
    record { found = rw (sym c.seen_by_mark.ensures.seen ∙ c.if-seen_by_mark.false, c.if-before_self.true) (sym (or_true c.args.found true refl)); kept = c.seen_by_mark.ensures.kept; marked = c.seen_by_mark.ensures.marked }

pub returns : goal.returns
returns c =
    record { found = rw (sym c.seen_by_mark.ensures.seen ∙ c.if-seen_by_mark.false, c.if-before_self.false) (sym (or_false c.args.found)); kept = c.seen_by_mark.ensures.kept; marked = c.seen_by_mark.ensures.marked }
