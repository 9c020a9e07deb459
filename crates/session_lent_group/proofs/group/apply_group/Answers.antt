-- `apply_group` meets its contract: the second half to work in is looked at, then whether there is a group, then it is sent.
use Prim.Native.Nat.{◌≤◌}
use mathlib.Core.Path.{◌≡◌, refl, sym, subst, ◌∙◌}
use mathlib.Core.Bool.{true, false≢true}
use mathlib.Core.List.{[]}
use native.Mathlib.Omega.{arith}
use lib.ListN.{length}
use Rattle.spec_lists.proofs.ListLaws.{unmapped, and_right}
use Rattle.spec_lists.proofs.ListLaws.{and_both}
use Rattle.spec_group.specs.Group.{group_batches}
use Rattle.session_group.specs.GroupsLaws.{group_named}
use Rattle.session_lent.specs.Head.{head_numbers}
use Rattle.session_lent.specs.Halves.{Anchors, Half, anchors_with, half_with}
use Rattle.session_lent_group.specs.declared.places.GroupLeft.{GroupLeft}
use Rattle.session_lent_group.specs.Sendings.{LeftFits}
use Rattle.session_lent_group.specs.SendingsLaws.{RanFrom}
use Rattle.session_lent_group.specs.LentGroups.{work_shaped, own_shaped}
use Rattle.session_lent_group.specs.LentGroupsLaws.{work_head, own_heads, whole_fits, none_sent, group_answered}
use borrow.Author.Rules.{rules}
use Rattle.session_lent_group.proofs.group.apply_group.Goals as goal
use Rattle.session_lent_group.proofs.group.apply_group.Goals.{Start}

-- the slices as they are lent
abbrev anchorsIn : Start → Anchors
anchorsIn c = anchors_with c.args.nodes.now c.args.pairs.now c.args.collections.now

abbrev ownIn : Start → Half
ownIn c = half_with c.args.head.now c.args.bindings.now c.args.availability.now c.args.entries.now []

abbrev firstIn : Start → Half
firstIn c = half_with c.args.first_head.now c.args.first_bindings.now c.args.first_availability.now c.args.first_entries.now c.args.first_lengths.now

abbrev secondIn : Start → Half
secondIn c = half_with c.args.second_head.now c.args.second_bindings.now c.args.second_availability.now c.args.second_entries.now c.args.second_lengths.now

abbrev groupIn : Start → Type 0
groupIn c = c.args.count ≤ length c.args.batches

places : (c : Start) → length c.args.batches ≡ group_batches
places c = search (rules, unmapped, c.well_formed.1.1.1.1.1.1.1.0)

heads : (c : Start) → (length c.args.head.now ≡ head_numbers) × (length c.args.first_head.now ≡ head_numbers)
heads c = own_heads (anchorsIn c) (ownIn c) (firstIn c) c.requires

pub send_all-run-requires : goal.send_all-run-requires
send_all-run-requires c =
    let is = sym c.is_group.ensures ∙ c.if-not-is_group.false in
    let work = sym c.work_shaped.ensures ∙ c.if-not-work_shaped.false in
    let few = (group_named c.args.count c.args.batches (length c.args.sets.now) is).0 in
    let long = places (goal.at.send_all-run-requires c).Start in
    let named : groupIn (goal.at.send_all-run-requires c).Start = omega (arith, few, long) in
    (subst (λ (x : GroupLeft). LeftFits x c.args.sets.now) (sym c.first_left.ensures) (whole_fits c.args.batches c.args.count c.args.sets.now named is), ((heads (goal.at.send_all-run-requires c).Start).0, ((heads (goal.at.send_all-run-requires c).Start).1, work_head (secondIn (goal.at.send_all-run-requires c).Start) work)))

pub concluded-requires : goal.concluded-requires
concluded-requires c =
    let own-long = (heads (goal.at.concluded-requires c).Start).0 in
    let first_long = (heads (goal.at.concluded-requires c).Start).1 in
    let second-long = work_head (secondIn (goal.at.concluded-requires c).Start) (sym c.work_shaped.ensures ∙ c.if-not-work_shaped.false) in
    (own-long, (c.send_all-run.auto.first_head ∙ first_long, c.send_all-run.auto.second_head ∙ second-long))

pub returns : goal.returns
returns c =
    let is = sym c.is_group.ensures ∙ c.if-not-is_group.false in
    let work = sym c.work_shaped.ensures ∙ c.if-not-work_shaped.false in
    let first' = half_with c.send_all-run.new.first_head c.send_all-run.new.first_bindings c.send_all-run.new.first_availability c.send_all-run.new.first_entries c.send_all-run.new.first_lengths in
    let second' = half_with c.send_all-run.new.second_head c.send_all-run.new.second_bindings c.send_all-run.new.second_availability c.send_all-run.new.second_entries c.send_all-run.new.second_lengths in
    let ran = subst (λ (x : GroupLeft). RanFrom (anchorsIn (goal.at.returns c).Start) c.args.head.now c.args.bindings.now c.args.availability.now c.args.entries.now (firstIn (goal.at.returns c).Start) (secondIn (goal.at.returns c).Start) c.args.sets.now x first' second' c.send_all-run.result) c.first_left.ensures (c.send_all-run.ensures.holding, c.send_all-run.ensures.whatever) in
    let shaped = and_both (own_shaped (anchorsIn (goal.at.returns c).Start) (ownIn (goal.at.returns c).Start) (firstIn (goal.at.returns c).Start)) (work_shaped (secondIn (goal.at.returns c).Start)) c.requires work in
    record {
      answered = λ yes. group_answered (anchorsIn (goal.at.returns c).Start) c.args.head.now c.args.bindings.now c.args.availability.now c.args.entries.now c.args.batches c.args.count c.args.sets.now (firstIn (goal.at.returns c).Start) (secondIn (goal.at.returns c).Start) is first' second' c.send_all-run.result ran c.concluded.result c.concluded.ensures;
      refused = λ no. absurd (false≢true (sym no ∙ shaped));
    }

pub returns-then-not-is_group : goal.returns-then-not-is_group
returns-then-not-is_group c =
    let is = sym c.is_group.ensures ∙ c.if-not-is_group.true in
    let work = sym c.work_shaped.ensures ∙ c.if-not-work_shaped.false in
    let shaped = and_both (own_shaped (anchorsIn (goal.at.returns-then-not-is_group c).Start) (ownIn (goal.at.returns-then-not-is_group c).Start) (firstIn (goal.at.returns-then-not-is_group c).Start)) (work_shaped (secondIn (goal.at.returns-then-not-is_group c).Start)) c.requires work in
    record {
      answered = λ yes. none_sent (anchorsIn (goal.at.returns-then-not-is_group c).Start) c.args.head.now c.args.bindings.now c.args.availability.now c.args.entries.now c.args.batches c.args.count c.args.sets.now (firstIn (goal.at.returns-then-not-is_group c).Start) (secondIn (goal.at.returns-then-not-is_group c).Start) is;
      refused = λ no. absurd (false≢true (sym no ∙ shaped));
    }

pub returns-then-not-work_shaped : goal.returns-then-not-work_shaped
returns-then-not-work_shaped c =
    let other = sym c.work_shaped.ensures ∙ c.if-not-work_shaped.true in
    record {
      answered = λ yes. absurd (false≢true (sym other ∙ and_right (own_shaped (anchorsIn (goal.at.returns-then-not-work_shaped c).Start) (ownIn (goal.at.returns-then-not-work_shaped c).Start) (firstIn (goal.at.returns-then-not-work_shaped c).Start)) (work_shaped (secondIn (goal.at.returns-then-not-work_shaped c).Start)) yes));
      refused = λ no. (refl, (refl, refl));
    }
