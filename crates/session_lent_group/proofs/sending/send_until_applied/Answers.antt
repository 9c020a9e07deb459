-- `send_until_applied` meets its contract. The invariant: nothing was changed, and the batches that are left end as all do.
use Prim.Native.Nat.{ℕ, ◌+◌, ◌-◌, ◌≤◌}
use mathlib.Core.Path.{◌≡◌, ap, subst, ◌∙◌}
use native.Mathlib.Omega.{arith}
use borrow.Author.Rules.{rules}
use lib.ListN.{length, take, drop}
use Rattle.projection_patch.specs.Meaning.{edition_of}
use Rattle.panel_changes.specs.PlanMemory.{no_plan}
use Rattle.session_gates.specs.Gates.{batch_envelope_of}
use Rattle.session_lent.specs.Batches.{ShapedCall}
use Rattle.session_lent.specs.Halves.{Anchors, Half, anchors_with, half_with}
use Rattle.session_lent_group.specs.declared.places.GroupLeft.{GroupLeft}
use Rattle.session_lent_group.specs.Sendings.{left_from}
use Rattle.session_lent_group.specs.SendingsLaws.{next_batch, rest_room, UnchangedUpTo, unchanged_start, unchanged_next, sent_moved, sent_broke, sent_ended}
use Rattle.session_lent_group.proofs.sending.send_until_applied.Goals as goal
use Rattle.session_lent_group.proofs.sending.send_until_applied.Goals.{After-send_one-answer, At-loop-place, In-loop-place}

abbrev anchorsIn : At-loop-place → Anchors
anchorsIn k = anchors_with k.args.nodes.now k.args.pairs.now k.args.collections.now

-- what is left at the turn
abbrev leftIn : At-loop-place → GroupLeft
leftIn k = left_from k.args.left k.loop-place.place k.loop-place.at

fits : (k : In-loop-place) → k.loop-place.at + (next_batch (leftIn (goal.at.In-loop-place k).At-loop-place)).bytes ≤ length k.args.sets.now
fits k = rest_room (leftIn (goal.at.In-loop-place k).At-loop-place) k.args.sets.now k.loop-place.invariant.fits (omega arith)

-- the half after the call
abbrev after_of : After-send_one-answer → Half
after_of c = half_with c.send_one-answer.new.to_head c.send_one-answer.new.to_bindings c.send_one-answer.new.to_availability c.send_one-answer.new.to_entries c.send_one-answer.new.to_lengths

-- it is given the next batch's part of the sets
called : (c : After-send_one-answer) →
    let x = next_batch (leftIn (goal.at.After-send_one-answer c).At-loop-place) in
    ShapedCall (edition_of x.edition) (batch_envelope_of x.envelope) x.declared_target_reference_count (take x.bytes (drop c.loop-place.at c.args.sets.now))
    c.args.head.now c.args.nodes.now c.args.pairs.now c.args.collections.now c.args.bindings.now c.args.availability.now c.args.entries.now
    c.loop-place.to_head c.loop-place.to_bindings c.loop-place.to_availability c.loop-place.to_entries c.loop-place.to_lengths no_plan c.send_one-answer.result
    (after_of c).head (after_of c).bindings (after_of c).availability (after_of c).entries (after_of c).lengths
called c =
    let x = next_batch (leftIn (goal.at.After-send_one-answer c).At-loop-place) in
    let size : (c.loop-place.at + x.bytes) - c.loop-place.at ≡ x.bytes = omega arith in
    subst
    (λ (n : ℕ). ShapedCall (edition_of x.edition) (batch_envelope_of x.envelope) x.declared_target_reference_count (take n (drop c.loop-place.at c.args.sets.now))
    c.args.head.now c.args.nodes.now c.args.pairs.now c.args.collections.now c.args.bindings.now c.args.availability.now c.args.entries.now
    c.loop-place.to_head c.loop-place.to_bindings c.loop-place.to_availability c.loop-place.to_entries c.loop-place.to_lengths no_plan c.send_one-answer.result
    (after_of c).head (after_of c).bindings (after_of c).availability (after_of c).entries (after_of c).lengths)
    size c.send_one-answer.ensures

pub loop-place-init : goal.loop-place-init
loop-place-init c =
    unchanged_start (anchors_with c.args.nodes.now c.args.pairs.now c.args.collections.now) c.args.head.now c.args.bindings.now c.args.availability.now c.args.entries.now c.args.sets.now c.args.left _ c.requires.0

pub bounds-left-place : goal.bounds-left-place
bounds-left-place c = search (rules, c.loop-place.invariant.fits.few)

pub overflow_add-end : goal.overflow_add-end
overflow_add-end c = omega (arith, fits (goal.at.overflow_add-end c).In-loop-place)

pub slice_bounds-send_one-count : goal.slice_bounds-send_one-count
slice_bounds-send_one-count c = omega arith

pub slice_bounds-send_one-start : goal.slice_bounds-send_one-start
slice_bounds-send_one-start c = omega (arith, fits (goal.at.slice_bounds-send_one-start c).In-loop-place)

pub slice_bounds-send_one-end : goal.slice_bounds-send_one-end
slice_bounds-send_one-end c = omega (arith, fits (goal.at.slice_bounds-send_one-end c).In-loop-place)

pub send_one-answer-requires : goal.send_one-answer-requires
send_one-answer-requires c =
    (c.requires.1.0, ap (λ (h : Half). length h.head) c.loop-place.invariant.kept ∙ c.requires.1.1)

pub overflow_add-result : goal.overflow_add-result
overflow_add-result c =
    record { fits = omega (arith, c.loop-place.invariant.fits.few) }

pub shape_of-to_head-in-Applied : goal.shape_of-to_head-in-Applied
shape_of-to_head-in-Applied c = let same = ap (λ (h : Half). length h.head) c.loop-place.invariant.kept in search (rules, same)

pub shape_of-to_bindings-in-Applied : goal.shape_of-to_bindings-in-Applied
shape_of-to_bindings-in-Applied c = let same = ap (λ (h : Half). length h.bindings) c.loop-place.invariant.kept in search (rules, same)

pub shape_of-to_availability-in-Applied : goal.shape_of-to_availability-in-Applied
shape_of-to_availability-in-Applied c = let same = ap (λ (h : Half). length h.availability) c.loop-place.invariant.kept in search (rules, same)

pub shape_of-to_entries-in-Applied : goal.shape_of-to_entries-in-Applied
shape_of-to_entries-in-Applied c = let same = ap (λ (h : Half). length h.entries) c.loop-place.invariant.kept in search (rules, same)

pub shape_of-to_lengths-in-Applied : goal.shape_of-to_lengths-in-Applied
shape_of-to_lengths-in-Applied c = let same = ap (λ (h : Half). length h.lengths) c.loop-place.invariant.kept in search (rules, same)

pub returns-in-Applied : goal.returns-in-Applied
returns-in-Applied c =
    let all = sent_moved (anchorsIn (goal.at.returns-in-Applied c).At-loop-place) c.args.head.now c.args.bindings.now c.args.availability.now c.args.entries.now c.args.sets.now c.args.left c.loop-place.invariant (omega arith) c.send_one-answer.result (after_of (goal.at.returns-in-Applied c).After-send_one-answer) (called (goal.at.returns-in-Applied c).After-send_one-answer) c.in-Applied.is in record { holding = all.0; whatever = all.1 }

pub shape_of-to_head-in-Rejected : goal.shape_of-to_head-in-Rejected
shape_of-to_head-in-Rejected c = let same = ap (λ (h : Half). length h.head) c.loop-place.invariant.kept in search (rules, same)

pub shape_of-to_bindings-in-Rejected : goal.shape_of-to_bindings-in-Rejected
shape_of-to_bindings-in-Rejected c = let same = ap (λ (h : Half). length h.bindings) c.loop-place.invariant.kept in search (rules, same)

pub shape_of-to_availability-in-Rejected : goal.shape_of-to_availability-in-Rejected
shape_of-to_availability-in-Rejected c = let same = ap (λ (h : Half). length h.availability) c.loop-place.invariant.kept in search (rules, same)

pub shape_of-to_entries-in-Rejected : goal.shape_of-to_entries-in-Rejected
shape_of-to_entries-in-Rejected c = let same = ap (λ (h : Half). length h.entries) c.loop-place.invariant.kept in search (rules, same)

pub shape_of-to_lengths-in-Rejected : goal.shape_of-to_lengths-in-Rejected
shape_of-to_lengths-in-Rejected c = let same = ap (λ (h : Half). length h.lengths) c.loop-place.invariant.kept in search (rules, same)

pub returns-in-Rejected : goal.returns-in-Rejected
returns-in-Rejected c =
    let all = sent_broke (anchorsIn (goal.at.returns-in-Rejected c).At-loop-place) c.args.head.now c.args.bindings.now c.args.availability.now c.args.entries.now c.args.sets.now c.args.left c.loop-place.invariant (omega arith) c.send_one-answer.result (after_of (goal.at.returns-in-Rejected c).After-send_one-answer) (called (goal.at.returns-in-Rejected c).After-send_one-answer) c.in-Rejected.is in record { holding = all.0; whatever = all.1 }

pub loop-place-preserved : goal.loop-place-preserved
loop-place-preserved c =
    unchanged_next (anchorsIn (goal.at.loop-place-preserved c).At-loop-place) c.args.head.now c.args.bindings.now c.args.availability.now c.args.entries.now c.args.sets.now c.args.left c.loop-place.invariant (omega arith) c.send_one-answer.result (after_of (goal.at.loop-place-preserved c).After-send_one-answer) (called (goal.at.loop-place-preserved c).After-send_one-answer) c.in-NoChange.is

pub shape_of-to_head : goal.shape_of-to_head
shape_of-to_head c = let same = ap (λ (h : Half). length h.head) c.loop-place.invariant.kept in search (rules, same)

pub shape_of-to_bindings : goal.shape_of-to_bindings
shape_of-to_bindings c = let same = ap (λ (h : Half). length h.bindings) c.loop-place.invariant.kept in search (rules, same)

pub shape_of-to_availability : goal.shape_of-to_availability
shape_of-to_availability c = let same = ap (λ (h : Half). length h.availability) c.loop-place.invariant.kept in search (rules, same)

pub shape_of-to_entries : goal.shape_of-to_entries
shape_of-to_entries c = let same = ap (λ (h : Half). length h.entries) c.loop-place.invariant.kept in search (rules, same)

pub shape_of-to_lengths : goal.shape_of-to_lengths
shape_of-to_lengths c = let same = ap (λ (h : Half). length h.lengths) c.loop-place.invariant.kept in search (rules, same)

pub returns : goal.returns
returns c =
    let all = sent_ended (anchorsIn (goal.at.returns c).At-loop-place) c.args.head.now c.args.bindings.now c.args.availability.now c.args.entries.now c.args.sets.now c.args.left c.loop-place.invariant (omega arith) in record { holding = all.0; whatever = all.1 }
