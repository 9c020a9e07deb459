-- `no_entry` meets its contract.
use borrow.Author.Rules.{rules}
use Rattle.panel_lookups.specs.Nth.{entry_lookup}
use Rattle.panel_lookups.proofs.positions.no_entry.Goals as goal

pub returns : goal.returns
unfolding entry_lookup
returns c = λ i. record { key = 0; value = c.no_value-value.ensures i }
