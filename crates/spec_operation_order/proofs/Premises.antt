-- The instances under the theorems: each premise is met by some lists, and left out the claim would be false.
use Rattle.std.specs.Prelude.{ℕ, zero, suc, ◌+◌, ◌<◌, ◌≡◌, refl}
use Rattle.std.proofs.Common.{ap, arith, ne_eqb, eq-eqb}
use mathlib.Core.List.{List, [], ◌∷◌, head-eq_of_cons-eq, Permᴰ}
use Rattle.spec_lists.specs.Lists.{All}
use Rattle.spec_patch.specs.Fits.{StorableBy}
use Rattle.spec_patch.specs.Patch.{pending, Operation, set_availability}
use Rattle.spec_projection.specs.Projection.{NodeAvailability, Entry, Projection, empty}
use Rattle.spec_projection.specs.Entries.{is_entry}
use Rattle.spec_projection.specs.Apply.{done, ReplayStep, step_of, step_operations, apply_step, apply_steps}
use Rattle.spec_projection.specs.Marks.{without_marks}
use Rattle.spec_projection.specs.Valid.{Behind, Grouped, FitsEntry, Valid}
use Rattle.spec_projection.proofs.ValidLaws.{empty_valid}
use Rattle.spec_projection.specs.Effects.{collection_target, target_of}
use Rattle.spec_operation_order.specs.FreeOrder.{is_same_target, OrderKept, apply_operations, inserted, insert_count, HasRoom}
use Rattle.spec_operation_order.specs.Grouping.{is_among, distinct, covers}
use Rattle.spec_operation_order.proofs.GroupingLaws.{grouping_keeps}
use Rattle.spec_operation_order.proofs.Examples.{entry, entries_from, full, remove_then_insert, insert_then_remove, one_then_two, two_then_one, interleaved, targets, grouped_examples, afterwards, opened_orders, runs_hold, grouped_is, full_grouped_is, grouping_needs}
use Rattle.spec_operation_order.proofs.Theorem.{order_is_free, step_order_is_free, runs_with_room}

-- ---- the full panel is one that a session can hold

later_behind : (c i k n : ℕ) → i < k → All (Behind (entry c i 0)) (entries_from c k n)
unfolding entries_from is_entry
later_behind c i k zero h = tt
later_behind c i k (suc n) h =
    (record { collection = omega arith; other = rw (eq-eqb c c refl) (ne_eqb k i (omega arith)) }, later_behind c i (suc k) n (omega arith))

from_grouped : (c k n : ℕ) → Grouped (entries_from c k n)
unfolding entries_from
from_grouped c k zero = tt
from_grouped c k (suc n) = (later_behind c k (suc k) n (omega arith), from_grouped c (suc k) n)

from_fit : (c k n : ℕ) → c < 1000 → k + n < 1000 → All FitsEntry (entries_from c k n)
unfolding entries_from StorableBy
from_fit c k zero h g = tt
from_fit c k (suc n) h g = (record { collection = omega arith; key = omega arith; mark = omega arith; value = omega arith }, from_fit c (suc k) n h (omega arith))

pub full_valid : Valid full
unfolding full entries_from
full_valid = record {
  bindings = tt;
  availabilities = tt;
  entries = from_grouped 9 1 128;
  few_bindings = omega arith;
  few_availabilities = omega arith;
  few_entries = omega arith;
  fit_bindings = tt;
  fit_availabilities = tt;
  fit_entries = from_fit 9 1 128 (omega arith) (omega arith);
}

-- ---- both must run: a removal in one collection makes the place for an insert in another

pub full_kept : OrderKept remove_then_insert insert_then_remove
unfolding distinct covers is_among is_same_target target_of
full_kept = rw (← full_grouped_is) (grouping_keeps (collection_target 8 ∷ collection_target 9 ∷ []) remove_then_insert refl refl)

pub second_run_needed : ((p : Projection) (left right : List Operation) (q : Projection) → Valid p → OrderKept left right → apply_operations p left ≡ done q → apply_operations p right ≡ done q) → ⊥
second_run_needed claim =
    let z : ◌≡◌ {A = ℕ} 0 1 = cc (claim full remove_then_insert insert_then_remove _ full_valid full_kept runs_hold.0, runs_hold.1.0) in omega arith

-- ---- the order must be kept: that the lists are rearrangements of each other is not enough

pub order_needed : ((p : Projection) (left right : List Operation) (q r : Projection) → Valid p → Permᴰ left right → apply_operations p left ≡ done q → apply_operations p right ≡ done r → q ≡ r) → ⊥
order_needed claim =
    let same = claim empty one_then_two two_then_one _ _ empty_valid (Permᴰ.swap refl refl) runs_hold.1.1.0 runs_hold.1.1.1.0 in
    let keys : ◌≡◌ {A = ℕ} 1 2 = ap (λ (x : Entry). x.key) (head-eq_of_cons-eq (ap (λ (p : Projection). p.entries) same)) in omega arith

-- ---- the interleaved list and the grouped one meet all premises

pub grouped_kept : OrderKept interleaved grouped_examples
grouped_kept = rw (← grouped_is) (grouping_keeps targets interleaved grouping_needs.0 grouping_needs.2)

pub ends_alike : (q r : Projection) → apply_operations empty interleaved ≡ done q → apply_operations empty grouped_examples ≡ done r → q ≡ r
ends_alike q r g h = order_is_free empty interleaved grouped_examples q r empty_valid grouped_kept g h

-- there is room for the four inserts, so that the one runs because the other does
empty_room : HasRoom empty interleaved
unfolding empty insert_count inserted
empty_room = omega arith

pub runs_alike : apply_operations empty grouped_examples ≡ done afterwards
runs_alike = runs_with_room empty interleaved grouped_examples afterwards empty_valid grouped_kept empty_room runs_hold.1.1.1.1.0

-- ---- marks must be dropped: the same operation of two patches leaves two marks

abbrev pending_by : ℕ → List ReplayStep
pending_by id = step_of id (set_availability 5 pending) ∷ []

abbrev available_by : ℕ → Projection
available_by id = record { bindings = []; availabilities = record { node = 5; mark = id; availability = pending } ∷ []; entries = [] }

set_leaves : (id : ℕ) → apply_steps empty (pending_by id) ≡ done (available_by id)
unfolding opened_orders apply_steps apply_step
set_leaves id = refl

pub marks_dropped : ((p : Projection) (left right : List ReplayStep) (q r : Projection) → Valid p → OrderKept (step_operations left) (step_operations right) → apply_steps p left ≡ done q → apply_steps p right ≡ done r → q ≡ r) → ⊥
marks_dropped claim =
    let same = claim empty (pending_by 7) (pending_by 8) _ _ empty_valid (λ t. refl) (set_leaves 7) (set_leaves 8) in
    let marks : ◌≡◌ {A = ℕ} 7 8 = ap (λ (x : NodeAvailability). x.mark) (head-eq_of_cons-eq (ap (λ (p : Projection). p.availabilities) same)) in omega arith

-- without them both leave the same
pub set_alike : without_marks (available_by 7) ≡ without_marks (available_by 8)
set_alike = step_order_is_free empty (pending_by 7) (pending_by 8) _ _ empty_valid (λ t. refl) (set_leaves 7) (set_leaves 8)
