-- Every definition of what an operation does to a panel, opened at once for proofs that compute.
use Rattle.spec_projection.specs.FirstMatch
use Rattle.spec_projection.specs.Projection
use Rattle.spec_projection.specs.Entries
use Rattle.spec_projection.specs.Lookups
use Rattle.spec_projection.specs.Apply
use Rattle.spec_projection.specs.Effects

unfoldable pub opened_panels : Unit {0}
unfolding
    Rattle.spec_projection.specs.FirstMatch.find_first
    Rattle.spec_projection.specs.FirstMatch.insert_before_first
    Rattle.spec_projection.specs.FirstMatch.replace_first
    Rattle.spec_projection.specs.FirstMatch.remove_first
    Rattle.spec_projection.specs.Projection.empty
    Rattle.spec_projection.specs.Projection.binding_key
    Rattle.spec_projection.specs.Projection.availability_key
    Rattle.spec_projection.specs.Entries.is_entry
    Rattle.spec_projection.specs.Entries.is_later
    Rattle.spec_projection.specs.Entries.contains
    Rattle.spec_projection.specs.Entries.contains_neighbour
    Rattle.spec_projection.specs.Entries.insert_last
    Rattle.spec_projection.specs.Entries.insert_before
    Rattle.spec_projection.specs.Entries.insert_entry
    Rattle.spec_projection.specs.Entries.replace_entry
    Rattle.spec_projection.specs.Entries.remove_entry
    Rattle.spec_projection.specs.Lookups.binding_of
    Rattle.spec_projection.specs.Lookups.availability_of
    Rattle.spec_projection.specs.Lookups.entry_of
    Rattle.spec_projection.specs.Lookups.entries_in
    Rattle.spec_projection.specs.Lookups.entries_of
    Rattle.spec_projection.specs.Lookups.entry_at
    Rattle.spec_projection.specs.Lookups.entry_count
    Rattle.spec_projection.specs.Apply.operation_fault_number
    Rattle.spec_projection.specs.Apply.with_bindings
    Rattle.spec_projection.specs.Apply.with_availabilities
    Rattle.spec_projection.specs.Apply.with_entries
    Rattle.spec_projection.specs.Apply.apply_binding
    Rattle.spec_projection.specs.Apply.apply_availability
    Rattle.spec_projection.specs.Apply.apply_insert
    Rattle.spec_projection.specs.Apply.apply_update
    Rattle.spec_projection.specs.Apply.apply_remove
    Rattle.spec_projection.specs.Apply.apply_move
    Rattle.spec_projection.specs.Apply.apply_operation
    Rattle.spec_projection.specs.Apply.patch_steps
    Rattle.spec_projection.specs.Apply.replay_steps
    Rattle.spec_projection.specs.Apply.operations_of
    Rattle.spec_projection.specs.Apply.apply_step
    Rattle.spec_projection.specs.Apply.apply_steps
    Rattle.spec_projection.specs.Effects.target_of
    Rattle.spec_projection.specs.Effects.has_key
    Rattle.spec_projection.specs.Effects.insert_keyed
    Rattle.spec_projection.specs.Effects.move_keyed
    Rattle.spec_projection.specs.Effects.collection_after
opened_panels = tt
