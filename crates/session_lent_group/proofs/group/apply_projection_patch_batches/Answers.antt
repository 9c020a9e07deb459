-- `apply_projection_patch_batches` meets its contract: the anchors, the own half and the first half to work in are looked at first.
use mathlib.Core.Path.{refl, sym, ◌∙◌}
use mathlib.Core.Bool.{true, false≢true}
use mathlib.Core.List.{[]}
use Rattle.spec_lists.proofs.ListLaws.{and_left}
use Rattle.session_lent.specs.Halves.{anchors_with, half_with}
use Rattle.session_lent_group.specs.LentGroups.{work_shaped, own_shaped}
use borrow.Author.Rules.{rules}
use Rattle.session_lent_group.proofs.group.apply_projection_patch_batches.Goals as goal

pub apply_group-requires : goal.apply_group-requires
apply_group-requires c = sym c.memory_shaped.ensures ∙ c.if-not-memory_shaped.false

pub returns : goal.returns
returns c = c.apply_group.ensures

pub returns-then-not-memory_shaped : goal.returns-then-not-memory_shaped
returns-then-not-memory_shaped c =
    let other = sym c.memory_shaped.ensures ∙ c.if-not-memory_shaped.true in
    let anchors = anchors_with c.args.nodes.now c.args.pairs.now c.args.collections.now in
    let own = half_with c.args.head.now c.args.bindings.now c.args.availability.now c.args.entries.now [] in
    let first = half_with c.args.first_head.now c.args.first_bindings.now c.args.first_availability.now c.args.first_entries.now c.args.first_lengths.now in
    let second = half_with c.args.second_head.now c.args.second_bindings.now c.args.second_availability.now c.args.second_entries.now c.args.second_lengths.now in
    record {
      answered = λ yes. absurd (false≢true (sym other ∙ and_left (own_shaped anchors own first) (work_shaped second) yes));
      refused = λ no. (refl, (refl, refl));
    }
