-- `create_session` meets its contract: every slice is written where a session is made, and none otherwise.
use mathlib.Core.Path.{refl, sym, ap, ap₂, ◌∙◌}
use Rattle.session_lent.specs.Steps.{creation_answer}
use lib.ListN.{length}
use Rattle.session_lent.specs.LentSession.{anchors_shaped}
use Rattle.session_lent.specs.CreationLaws.{room_head}
use borrow.Author.Rules.{rules}
use Rattle.session_lent.proofs.creation.create_session.Goals as goal

pub store_new-requires : goal.store_new-requires
store_new-requires c = room_head _ _ _ _ _ _ (sym c.room_shaped.ensures ∙ c.if-not-room_shaped.false)

pub returns : goal.returns
returns c =
    let room = sym c.room_shaped.ensures ∙ c.if-not-room_shaped.false in
    let fits = sym c.anchors_shaped.ensures ∙ c.if-not-anchors_shaped.false in
    record {
      told = sym (ap₂ creation_answer room fits);
      head_left = c.store_new.ensures;
      bindings_left = c.clear.ensures;
      availability_left = c.clear-2.ensures;
      entries_left = c.clear-3.ensures;
      lengths_left = c.clear-4.ensures;
    }

pub returns-then-not-anchors_shaped : goal.returns-then-not-anchors_shaped
returns-then-not-anchors_shaped c =
    let room = sym c.room_shaped.ensures ∙ c.if-not-room_shaped.false in
    let over = sym c.anchors_shaped.ensures ∙ c.if-not-anchors_shaped.true in
    record { told = sym (ap₂ creation_answer room over); head_left = refl; bindings_left = refl; availability_left = refl; entries_left = refl; lengths_left = refl }

pub returns-then-not-room_shaped : goal.returns-then-not-room_shaped
returns-then-not-room_shaped c =
    let none = sym c.room_shaped.ensures ∙ c.if-not-room_shaped.true in
    record { told = sym (ap (λ k. creation_answer k (anchors_shaped (length c.args.nodes.now) (length c.args.pairs.now) (length c.args.collections.now))) none); head_left = refl; bindings_left = refl; availability_left = refl; entries_left = refl; lengths_left = refl }
