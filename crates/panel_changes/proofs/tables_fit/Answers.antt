-- `panel_changes::tables_fit` meets its contract.
use borrow.Author.Rules.{rules}
use Rattle.panel_changes.specs.SetChanges.{tables_fit}
use Rattle.panel_changes.proofs.tables_fit.Goals as goal

pub returns-then-availability-eq-AVAILABILITY_BYTES : goal.returns-then-availability-eq-AVAILABILITY_BYTES
unfolding tables_fit
returns-then-availability-eq-AVAILABILITY_BYTES c = search rules

pub returns-else-availability-eq-AVAILABILITY_BYTES : goal.returns-else-availability-eq-AVAILABILITY_BYTES
unfolding tables_fit
returns-else-availability-eq-AVAILABILITY_BYTES c = search rules
