-- Three pairs of lists, computed from the definitions alone: that both must run, that the order in a collection counts, and that lists
-- with operations of two collections between each other end as the grouped ones do.
use Rattle.std.specs.Prelude.{ℕ, zero, suc, ◌≡◌, refl, true, false}
use Rattle.std.proofs.Common.{inr, arith}
use mathlib.Core.List.{List, [], ◌∷◌, flat_map}
use Rattle.std.proofs.Math.Option.{none, some}
use Rattle.spec_lists.specs.Lists.{All}
use Rattle.spec_lists.specs.Order.{lex_less, upsert}
use Rattle.spec_patch.specs.Patch.{unsigned, pending, hidden, stale, Operation, set_binding, set_availability, insert, update, remove, move}
use Rattle.spec_projection.specs.Projection.{Entry, Projection, empty, binding_key, availability_key}
use Rattle.spec_projection.specs.FirstMatch.{find_first, insert_before_first, replace_first, remove_first}
use Rattle.spec_projection.specs.Entries.{is_entry, is_later, contains, contains_neighbour, insert_last, insert_before, insert_entry, replace_entry, remove_entry}
use Rattle.spec_projection.specs.Apply.{Outcome, done, stopped, projection_full, with_bindings, with_availabilities, with_entries, apply_binding, apply_availability, apply_insert, apply_update, apply_remove, apply_move, apply_operation}
use Rattle.spec_projection.specs.Effects.{Target, binding_target, node_target, collection_target, target_of}
use Rattle.spec_operation_order.specs.FreeOrder.{is_same_target, operations_on, OrderKept, apply_operations, OrderIsFree, AlikeOrFull, inserted, insert_count, HasRoom}
use Rattle.spec_operation_order.specs.Grouping.{grouped_by, is_among, distinct, covers}

-- ---- the lists

abbrev pub entry : ℕ → ℕ → ℕ → Entry
entry c k v = record { collection = c; key = k; mark = 0; value = unsigned v }

-- n entries of a collection, with the keys from k on
unfoldable pub entries_from : ℕ → ℕ → ℕ → List Entry
entries_from c k zero = []
entries_from c k (suc n) = entry c k 0 ∷ entries_from c (suc k) n

abbrev pub holding : List Entry → Projection
holding es = record { bindings = []; availabilities = []; entries = es }

-- a full panel: collection 9 with the keys 1 to 128
unfoldable pub full : Projection
full = holding (entries_from 9 1 128)

abbrev pub remove_then_insert : List Operation
remove_then_insert = remove 9 1 ∷ insert 8 1 none (unsigned 0) ∷ []

abbrev pub insert_then_remove : List Operation
insert_then_remove = insert 8 1 none (unsigned 0) ∷ remove 9 1 ∷ []

abbrev pub one_then_two : List Operation
one_then_two = insert 9 1 none (unsigned 0) ∷ insert 9 2 none (unsigned 0) ∷ []

abbrev pub two_then_one : List Operation
two_then_one = insert 9 2 none (unsigned 0) ∷ insert 9 1 none (unsigned 0) ∷ []

-- two collections, two bindings of one node, and two nodes
abbrev pub interleaved : List Operation
interleaved =
    insert 8 1 none (unsigned 10)
    ∷ set_availability 5 pending
    ∷ insert 9 1 none (unsigned 20)
    ∷ insert 8 2 (some 1) (unsigned 11)
    ∷ set_binding 5 0 (unsigned 1)
    ∷ update 9 1 (unsigned 21)
    ∷ set_availability 6 hidden
    ∷ move 8 1 (some 2)
    ∷ set_binding 5 1 (unsigned 7)
    ∷ insert 9 2 none (unsigned 22)
    ∷ set_binding 5 0 (unsigned 2)
    ∷ remove 8 2
    ∷ set_availability 5 stale
    ∷ []

abbrev pub targets : List Target
targets = collection_target 9 ∷ collection_target 8 ∷ node_target 6 ∷ node_target 5 ∷ binding_target 5 1 ∷ binding_target 5 0 ∷ []

abbrev pub grouped_examples : List Operation
grouped_examples =
    insert 9 1 none (unsigned 20) ∷ update 9 1 (unsigned 21) ∷ insert 9 2 none (unsigned 22)
    ∷ insert 8 1 none (unsigned 10) ∷ insert 8 2 (some 1) (unsigned 11) ∷ move 8 1 (some 2) ∷ remove 8 2
    ∷ set_availability 6 hidden
    ∷ set_availability 5 pending ∷ set_availability 5 stale
    ∷ set_binding 5 1 (unsigned 7)
    ∷ set_binding 5 0 (unsigned 1) ∷ set_binding 5 0 (unsigned 2)
    ∷ []

-- what both leave
abbrev pub afterwards : Projection
afterwards = record {
  bindings = record { node = 5; slot = 0; mark = 0; value = unsigned 2 } ∷ record { node = 5; slot = 1; mark = 0; value = unsigned 7 } ∷ [];
  availabilities = record { node = 5; mark = 0; availability = stale } ∷ record { node = 6; mark = 0; availability = hidden } ∷ [];
  entries = entry 8 1 10 ∷ entry 9 1 21 ∷ entry 9 2 22 ∷ [];
}

-- ---- what each list does

pub record ExampleRun : Type 0 where
  pub from : Projection
  pub operations : List Operation
  pub leaves : Outcome

abbrev pub example_runs : List ExampleRun
example_runs =
    record { from = full; operations = remove_then_insert; leaves = done (holding (entry 8 1 0 ∷ entries_from 9 2 127)) }
    ∷ record { from = full; operations = insert_then_remove; leaves = stopped projection_full }
    ∷ record { from = empty; operations = one_then_two; leaves = done (holding (entry 9 1 0 ∷ entry 9 2 0 ∷ [])) }
    ∷ record { from = empty; operations = two_then_one; leaves = done (holding (entry 9 2 0 ∷ entry 9 1 0 ∷ [])) }
    ∷ record { from = empty; operations = interleaved; leaves = done afterwards }
    ∷ record { from = empty; operations = grouped_examples; leaves = done afterwards }
    ∷ []

-- what applying operations computes through
unfoldable pub opened_orders : Unit {0}
unfolding
    apply_operations apply_operation apply_binding apply_availability apply_insert apply_update apply_remove apply_move with_bindings with_availabilities with_entries
    is_entry is_later contains contains_neighbour insert_last insert_before insert_entry replace_entry remove_entry find_first insert_before_first replace_first remove_first
    lex_less upsert binding_key availability_key empty
opened_orders = tt

pub runs_hold : All (λ (r : ExampleRun). apply_operations r.from r.operations ≡ r.leaves) example_runs
unfolding opened_orders full entries_from
runs_hold = (refl, (refl, (refl, (refl, (refl, (refl, tt))))))

-- ---- which operations of a list are on a target: all of a collection, whatever their keys; one slot, one node

pub record Share : Type 0 where
  pub target : Target
  pub operations : List Operation
  pub own : List Operation

abbrev pub shares : List Share
shares =
    record { target = collection_target 9; operations = one_then_two; own = one_then_two }
    ∷ record { target = collection_target 9; operations = two_then_one; own = two_then_one }
    ∷ record { target = collection_target 8; operations = remove_then_insert; own = insert 8 1 none (unsigned 0) ∷ [] }
    ∷ record { target = node_target 5; operations = interleaved; own = set_availability 5 pending ∷ set_availability 5 stale ∷ [] }
    ∷ record { target = binding_target 5 0; operations = interleaved; own = set_binding 5 0 (unsigned 1) ∷ set_binding 5 0 (unsigned 2) ∷ [] }
    ∷ []

pub shares_hold : All (λ (s : Share). operations_on s.target s.operations ≡ s.own) shares
unfolding operations_on is_same_target target_of
shares_hold = (refl, (refl, (refl, (refl, (refl, tt)))))

-- ---- grouping

pub grouped_is : grouped_by targets interleaved ≡ grouped_examples
unfolding grouped_by flat_map operations_on is_same_target target_of
grouped_is = refl

-- the two collections of the full panel's list, the later one first
pub full_grouped_is : grouped_by (collection_target 8 ∷ collection_target 9 ∷ []) remove_then_insert ≡ insert_then_remove
unfolding grouped_by flat_map operations_on is_same_target target_of
full_grouped_is = refl

-- a target that is named twice, and one that is left out
pub grouping_needs : (distinct targets ≡ true) × (distinct (node_target 5 ∷ node_target 5 ∷ []) ≡ false) × (covers targets interleaved ≡ true) × (covers (collection_target 9 ∷ []) interleaved ≡ false)
unfolding distinct covers is_among is_same_target target_of
grouping_needs = (refl, refl, refl, refl)

-- ---- the claims at these lists, by computing

-- nothing is claimed of the full panel, since one of the lists does not run
pub full_claim : OrderIsFree full remove_then_insert insert_then_remove
full_claim q r v k g h = cc runs_hold.1.0

-- it breaks off with 9
pub full_alike_or_full : AlikeOrFull full remove_then_insert insert_then_remove
full_alike_or_full q v k g = inr runs_hold.1.0

-- for want of room
pub full_no_room : HasRoom full remove_then_insert → ⊥
unfolding full entries_from insert_count inserted
full_no_room h = omega arith

-- an order that is not kept: both lists run and end differently
pub not_kept : OrderKept one_then_two two_then_one → ⊥
unfolding operations_on is_same_target target_of
not_kept k = let keys : ◌≡◌ {A = ℕ} 1 2 = cc (k (collection_target 9)) in omega arith
