-- `apply_operation` meets its contract: each operation changes one table, and the others stay.
use mathlib.Core.Path.{refl}
use native.Mathlib.Omega.{arith}
use borrow.Author.Rules.{rules}
use Rattle.spec_projection.specs.Apply.{apply_operation}
use Rattle.spec_projection.specs.Effects.{target_of}
use Rattle.panel_plan.specs.Plan.{with_source}
use Rattle.panel_operations.specs.OperationLaws.{binding_planned, availability_planned, entry_planned}
use Rattle.panel_operations.proofs.apply_operation.Goals as goal

pub returns-in-SetBindingValue : goal.returns-in-SetBindingValue
unfolding apply_operation target_of with_source
returns-in-SetBindingValue c =
    let all = binding_planned c.args.counts c.args.bindings.now c.args.availability.now c.args.entries.now c.set_binding.new.table c.args.patch (omega arith) c.args.source _ _ c.in-SetBindingValue.is c.set_binding.result _ _ refl c.set_binding.ensures in record { made = all.0; kept = all.1 }

pub returns-in-SetNodeAvailability : goal.returns-in-SetNodeAvailability
unfolding apply_operation target_of with_source
returns-in-SetNodeAvailability c =
    let all = availability_planned c.args.counts c.args.bindings.now c.args.availability.now c.args.entries.now c.set_availability.new.table c.args.patch (omega arith) c.args.source _ _ c.in-SetNodeAvailability.is c.set_availability.result _ refl c.set_availability.ensures in record { made = all.0; kept = all.1 }

pub returns-in-CollectionInsert : goal.returns-in-CollectionInsert
unfolding apply_operation target_of with_source
returns-in-CollectionInsert c =
    let all = entry_planned c.args.counts c.args.bindings.now c.args.availability.now c.args.entries.now c.insert.new.table c.args.patch (omega arith) c.args.source _ _ c.in-CollectionInsert.is c.insert.result _ refl c.insert.ensures in record { made = all.0; kept = all.1 }

pub returns-in-CollectionUpdate : goal.returns-in-CollectionUpdate
unfolding apply_operation target_of with_source
returns-in-CollectionUpdate c =
    let all = entry_planned c.args.counts c.args.bindings.now c.args.availability.now c.args.entries.now c.update.new.table c.args.patch (omega arith) c.args.source _ _ c.in-CollectionUpdate.is c.update.result _ refl c.update.ensures in record { made = all.0; kept = all.1 }

pub returns-in-CollectionRemove : goal.returns-in-CollectionRemove
unfolding apply_operation target_of with_source
returns-in-CollectionRemove c =
    let all = entry_planned c.args.counts c.args.bindings.now c.args.availability.now c.args.entries.now c.remove.new.table c.args.patch (omega arith) c.args.source _ _ c.in-CollectionRemove.is c.remove.result _ refl c.remove.ensures in record { made = all.0; kept = all.1 }

pub returns-in-CollectionMove : goal.returns-in-CollectionMove
unfolding apply_operation target_of with_source
returns-in-CollectionMove c =
    let all = entry_planned c.args.counts c.args.bindings.now c.args.availability.now c.args.entries.now c.move_before.new.table c.args.patch (omega arith) c.args.source _ _ c.in-CollectionMove.is c.move_before.result _ refl c.move_before.ensures in record { made = all.0; kept = all.1 }
