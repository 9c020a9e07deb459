-- `session_explain::rules::rule_of` meets its contract, operation by operation.
use mathlib.Core.Path.{sym, ap}
use Rattle.spec_explain.specs.OperationRule.{rule_of}
use Rattle.projection_patch.specs.Meaning.{operation_of}
use Rattle.session_explain.specs.Reasons.{operation_rule_to}
use Rattle.session_explain.specs.RulesLaws.{insert_told, move_told}
use borrow.Author.Rules.{rules}
use Rattle.session_explain.proofs.rules.rule_of.Goals as goal

pub returns-in-SetBindingValue : goal.returns-in-SetBindingValue
unfolding rule_of
returns-in-SetBindingValue c = λ p texts s v. sym (ap (λ o. operation_rule_to (rule_of p (operation_of texts o))) c.in-SetBindingValue.is)

pub returns-in-SetNodeAvailability : goal.returns-in-SetNodeAvailability
unfolding rule_of
returns-in-SetNodeAvailability c = λ p texts s v. sym (ap (λ o. operation_rule_to (rule_of p (operation_of texts o))) c.in-SetNodeAvailability.is)

pub returns-in-CollectionInsert : goal.returns-in-CollectionInsert
returns-in-CollectionInsert c = λ p texts s v. insert_told p texts c.raw.ensures c.raw-in-CollectionInsert.ensures c.in-CollectionInsert.is _ (λ w. c.insert_rule.ensures p w s v)

pub returns-in-CollectionUpdate : goal.returns-in-CollectionUpdate
unfolding rule_of
returns-in-CollectionUpdate c = λ p texts s v. sym (ap (λ o. operation_rule_to (rule_of p (operation_of texts o))) c.in-CollectionUpdate.is)

pub returns-in-CollectionRemove : goal.returns-in-CollectionRemove
unfolding rule_of
returns-in-CollectionRemove c = λ p texts s v. sym (ap (λ o. operation_rule_to (rule_of p (operation_of texts o))) c.in-CollectionRemove.is)

pub returns-in-CollectionMove : goal.returns-in-CollectionMove
returns-in-CollectionMove c = λ p texts s v. move_told p texts c.raw-in-CollectionMove.ensures c.raw-in-CollectionMove-2.ensures c.in-CollectionMove.is _ (c.move_rule.ensures p s v)
