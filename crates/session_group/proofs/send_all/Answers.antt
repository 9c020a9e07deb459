-- `send_all` meets its contract. The invariant: the batches that are left end as the whole group does. The measure is the number of these.
use Prim.Native.Nat.{ℕ, ◌+◌, ◌-◌, ◌≤◌}
use mathlib.Core.Path.{◌≡◌, refl, sym, subst, ◌∙◌}
use mathlib.Core.List.{List, ◌∷◌}
use native.Mathlib.Omega.{arith}
use borrow.Author.Rules.{rules}
use lib.ListN.{length, get_or, take, drop}
use Rattle.spec_lists.proofs.ListLaws.{unmapped}
use Rattle.spec_session.specs.Session.{Session}
use Rattle.spec_group.specs.Group as model
use Rattle.spec_group.specs.Group.{group_batches, run_group, conclude_group}
use Rattle.projection_patch.specs.Meaning.{edition_of}
use Rattle.shell_player.specs.declared.session.ShellSession.{ShellSession}
use Rattle.shell_player.specs.Holds.{Holds}
use Rattle.shell_player.specs.Batches.{BatchCall}
use Rattle.session_group.specs.declared.GroupBatch.{GroupBatch}
use Rattle.session_group.specs.declared.ProjectionPatchGroup.{ProjectionPatchGroup}
use Rattle.session_group.specs.Groups.{batch_means, named_batch, answer_number, GroupBecame, AnswerFits}
use Rattle.session_group.specs.GroupsLaws.{no_batch, named_cons, named_none}
use Rattle.session_group.specs.SendingLaws.{Sending, sending_start, sending_fits, sending_next, sending_refused, sending_end}
use Rattle.session_group.proofs.send_all.Goals as goal
use Rattle.session_group.proofs.send_all.Goals.{After-apply_projection_patch_batch-step, In-loop-place, Start}

within : (c : Start) → c.args.count ≤ length c.args.batches
within c = let long : length c.args.batches ≡ group_batches = search (rules, unmapped) in omega arith

-- the batch in this place
abbrev batchIn : In-loop-place → GroupBatch
batchIn k = get_or k.args.batches k.loop-place.place no_batch

parted : (k : In-loop-place) → drop k.loop-place.place (named_batch k.args.count k.args.batches) ≡ batch_means (batchIn k) ∷ drop (k.loop-place.place + 1) (named_batch k.args.count k.args.batches)
parted k = named_cons k.args.count k.args.batches (within (goal.at.In-loop-place k).Start) k.loop-place.place k.loop-place-test.true

fits : (k : In-loop-place) → k.loop-place.at + (batchIn k).bytes ≤ length k.args.sets.now
fits k = sending_fits k.loop-place.invariant.1 (batchIn k) (parted k)

-- the call is given that batch's part of the sets
called : (k : After-apply_projection_patch_batch-step) →
    let b = batchIn (goal.at.After-apply_projection_patch_batch-step k).In-loop-place in
    BatchCall k.loop-place.next b.envelope b.declared_target_reference_count (take b.bytes (drop k.loop-place.at k.args.sets.now)) (edition_of b.edition) k.apply_projection_patch_batch-step.result
called k =
    let b = batchIn (goal.at.After-apply_projection_patch_batch-step k).In-loop-place in
    let size : (k.loop-place.at + b.bytes) - k.loop-place.at ≡ b.bytes = omega arith in
    subst (λ (n : ℕ). BatchCall k.loop-place.next b.envelope b.declared_target_reference_count (take n (drop k.loop-place.at k.args.sets.now)) (edition_of b.edition) k.apply_projection_patch_batch-step.result) size k.apply_projection_patch_batch-step.ensures.holding

-- what the contract says of an answer
abbrev Sent : ShellSession → ℕ → List model.GroupBatch → List ℕ → ProjectionPatchGroup → Type 0
Sent s count bs sets r =
    ((m : Session) → Holds s m → GroupBecame r (conclude_group m count (run_group 0 m bs sets)))
    × (AnswerFits count s r.session r.answer × (answer_number r.answer ≡ 0))

pub loop-place-init : goal.loop-place-init
loop-place-init c = (omega arith, sending_start c.args.session (named_batch c.args.count c.args.batches) c.args.sets.now c.requires.1)

pub overflow_add-end : goal.overflow_add-end
overflow_add-end c = omega (arith, fits (goal.at.overflow_add-end c).In-loop-place)

pub slice_bounds-apply_projection_patch_batch-count : goal.slice_bounds-apply_projection_patch_batch-count
slice_bounds-apply_projection_patch_batch-count c = omega arith

pub slice_bounds-apply_projection_patch_batch-start : goal.slice_bounds-apply_projection_patch_batch-start
slice_bounds-apply_projection_patch_batch-start c = omega (arith, fits (goal.at.slice_bounds-apply_projection_patch_batch-start c).In-loop-place)

pub slice_bounds-apply_projection_patch_batch-end : goal.slice_bounds-apply_projection_patch_batch-end
slice_bounds-apply_projection_patch_batch-end c = omega (arith, fits (goal.at.slice_bounds-apply_projection_patch_batch-end c).In-loop-place)

pub returns-then-is_rejected : goal.returns-then-is_rejected
returns-then-is_rejected c =
    let all = let refused = sym c.is_rejected.ensures ∙ c.if-is_rejected.true in
    subst (λ (r : ProjectionPatchGroup). Sent c.args.session c.args.count (named_batch c.args.count c.args.batches) c.args.sets.now r) (sym c.refused_at.ensures) (
      sending_refused c.loop-place.invariant.1 (batchIn (goal.at.returns-then-is_rejected c).In-loop-place) (parted (goal.at.returns-then-is_rejected c).In-loop-place) c.apply_projection_patch_batch-step.result (called (goal.at.returns-then-is_rejected c).After-apply_projection_patch_batch-step) c.args.count refused,
      ((c.loop-place-test.true, (refl, refl)), refl),
    ) in record { holding = all.0; whatever = all.1.0; numbered = all.1.1 }

pub loop-place-preserved : goal.loop-place-preserved
loop-place-preserved c =
    let taken = sym c.is_rejected.ensures ∙ c.if-is_rejected.false in
    (omega arith, sending_next c.loop-place.invariant.1 (batchIn (goal.at.loop-place-preserved c).In-loop-place) (parted (goal.at.loop-place-preserved c).In-loop-place) c.apply_projection_patch_batch-step.result (called (goal.at.loop-place-preserved c).After-apply_projection_patch_batch-step) taken)

pub returns : goal.returns
returns c =
    let all = let none = named_none c.args.count c.args.batches (within (goal.at.returns c).Start) c.loop-place.place c.loop-place-test.false in
    subst (λ (r : ProjectionPatchGroup). Sent c.args.session c.args.count (named_batch c.args.count c.args.batches) c.args.sets.now r) (sym c.all_taken.ensures) (
      sending_end c.loop-place.invariant.1 c.args.count none,
      ((refl, refl), refl),
    ) in record { holding = all.0; whatever = all.1.0; numbered = all.1.1 }
