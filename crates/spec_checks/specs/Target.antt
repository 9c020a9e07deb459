-- What an operation changes, for kind 3: 01, 'Patch checks'; `mutation_target` of the Rust.
use Rattle.std.specs.Prelude.{ℕ, Bool, ◌&&◌, eqb}
use Rattle.spec_patch.specs.Patch.{Operation, set_binding, set_availability, insert, update, remove, move}

-- the kind of operation by its canonical number, and the ids that tell it from others of that kind
pub record MutationTarget : Type 0 where
  pub kind : ℕ
  pub first : ℕ
  pub second : ℕ

-- a binding, a node's availability, or a collection, key and kind of operation
unfoldable pub mutation_target : Operation → MutationTarget
mutation_target (set_binding node slot v) = record { kind = 1; first = node; second = slot }
mutation_target (set_availability node a) = record { kind = 2; first = node; second = 0 }
mutation_target (insert collection key before v) = record { kind = 3; first = collection; second = key }
mutation_target (update collection key v) = record { kind = 4; first = collection; second = key }
mutation_target (remove collection key) = record { kind = 5; first = collection; second = key }
mutation_target (move collection key before) = record { kind = 6; first = collection; second = key }

unfoldable pub same_target : Operation → Operation → Bool
same_target o u =
    let a = mutation_target o in
    let b = mutation_target u in
    eqb a.kind b.kind && (eqb a.first b.first && eqb a.second b.second)
