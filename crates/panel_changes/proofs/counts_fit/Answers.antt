-- `panel_changes::counts_fit` meets its contract.
use borrow.Author.Rules.{rules}
use Rattle.panel_changes.specs.SetChanges.{change_counts_fit}
use Rattle.panel_changes.proofs.counts_fit.Goals as goal

pub returns-then-counts-le-AVAILABILITIES : goal.returns-then-counts-le-AVAILABILITIES
unfolding change_counts_fit
returns-then-counts-le-AVAILABILITIES c = search rules

pub returns-else-counts-le-AVAILABILITIES : goal.returns-else-counts-le-AVAILABILITIES
unfolding change_counts_fit
returns-else-counts-le-AVAILABILITIES c = search rules
