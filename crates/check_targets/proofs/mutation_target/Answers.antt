-- `check_targets::mutation_target` meets its contract: each kind of operation with the ids that it names.
use mathlib.Core.Path.{◌∙◌}
use Rattle.spec_checks.specs.Target.{mutation_target}
use Rattle.check_targets.proofs.mutation_target.Goals as goal

pub returns-in-SetBindingValue : goal.returns-in-SetBindingValue
unfolding mutation_target
returns-in-SetBindingValue c = λ texts. c.target_of.ensures ∙ rw (c.raw.ensures, c.in-SetBindingValue.is)

pub returns-in-SetNodeAvailability : goal.returns-in-SetNodeAvailability
unfolding mutation_target
returns-in-SetNodeAvailability c = λ texts. c.target_of-in-SetNodeAvailability.ensures ∙ rw (c.raw-in-SetNodeAvailability.ensures, c.in-SetNodeAvailability.is)

pub returns-in-CollectionInsert : goal.returns-in-CollectionInsert
unfolding mutation_target
returns-in-CollectionInsert c = λ texts. c.target_of-in-CollectionInsert.ensures ∙ rw (c.raw-in-CollectionInsert-2.ensures, c.raw-in-CollectionInsert.ensures, c.in-CollectionInsert.is)

pub returns-in-CollectionUpdate : goal.returns-in-CollectionUpdate
unfolding mutation_target
returns-in-CollectionUpdate c = λ texts. c.target_of-in-CollectionUpdate.ensures ∙ rw (c.raw-in-CollectionUpdate-2.ensures, c.raw-in-CollectionUpdate.ensures, c.in-CollectionUpdate.is)

pub returns-in-CollectionRemove : goal.returns-in-CollectionRemove
unfolding mutation_target
returns-in-CollectionRemove c = λ texts. c.target_of-in-CollectionRemove.ensures ∙ rw (c.raw-in-CollectionRemove-2.ensures, c.raw-in-CollectionRemove.ensures, c.in-CollectionRemove.is)

pub returns-in-CollectionMove : goal.returns-in-CollectionMove
unfolding mutation_target
returns-in-CollectionMove c = λ texts. c.target_of-in-CollectionMove.ensures ∙ rw (c.raw-in-CollectionMove-2.ensures, c.raw-in-CollectionMove.ensures, c.in-CollectionMove.is)
