-- `settle_operation` meets its contract, case by case: an operation's key, and a neighbour that it names.
use Rattle.set_dependencies.specs.declared.settled_rows.SettledPlaces.{SettledPlaces}
use Rattle.std.specs.Prelude as code
use Prim.Native.Nat.{ℕ}
use mathlib.Core.Path.{◌≡◌, sym, subst}
use mathlib.Core.List.{List, []}
use borrow.Author.Rules.{rules}
use Rattle.spec_dependencies.specs.Expectations.{neighbour, expectations}
use Rattle.spec_dependencies.specs.Settled.{judge_all}
use Rattle.projection_patch.specs.Meaning.{operation_of}
use Rattle.projection_patch.specs.declared.patch.ProjectionPatchOperation.{ProjectionPatchOperation}
use Rattle.set_dependencies.specs.Settling.{Judges}
use Rattle.set_dependencies.proofs.settling.settle_operation.Goals as goal
use Rattle.set_dependencies.proofs.settling.settle_operation.Goals.{Start}

-- the contract, by what the operation is
by-case : (k : Start) {o : ProjectionPatchOperation} → k.args.operation ≡ o → (r : code.Option SettledPlaces) (exit : List ℕ)
    → Judges k.args.places k.args.table.now exit r (expectations (operation_of [] o)) → Judges k.args.places k.args.table.now exit r (expectations (operation_of [] k.args.operation))
by-case k is r exit = subst (λ o. Judges k.args.places k.args.table.now exit r (expectations (operation_of [] o))) (sym is)

pub returns-in-SetBindingValue : goal.returns-in-SetBindingValue
unfolding expectations judge_all
returns-in-SetBindingValue c = by-case (goal.at.returns-in-SetBindingValue c).Start c.in-SetBindingValue.is _ _ (λ t s room. s)

pub returns-in-SetNodeAvailability : goal.returns-in-SetNodeAvailability
unfolding expectations judge_all
returns-in-SetNodeAvailability c = by-case (goal.at.returns-in-SetNodeAvailability c).Start c.in-SetNodeAvailability.is _ _ (λ t s room. s)

pub returns-in-CollectionInsert : goal.returns-in-CollectionInsert
unfolding expectations
returns-in-CollectionInsert c =
    by-case (goal.at.returns-in-CollectionInsert c).Start c.in-CollectionInsert.is _ _ c.settle_beside.ensures

pub returns-in-CollectionUpdate : goal.returns-in-CollectionUpdate
unfolding expectations neighbour
returns-in-CollectionUpdate c =
    by-case (goal.at.returns-in-CollectionUpdate c).Start c.in-CollectionUpdate.is _ _ c.settle_beside-in-CollectionUpdate.ensures

pub returns-in-CollectionRemove : goal.returns-in-CollectionRemove
unfolding expectations neighbour
returns-in-CollectionRemove c =
    by-case (goal.at.returns-in-CollectionRemove c).Start c.in-CollectionRemove.is _ _ c.settle_beside-in-CollectionRemove.ensures

pub returns-in-CollectionMove : goal.returns-in-CollectionMove
unfolding expectations
returns-in-CollectionMove c =
    by-case (goal.at.returns-in-CollectionMove c).Start c.in-CollectionMove.is _ _ c.settle_beside-in-CollectionMove.ensures
