-- `apply_projection_patch_batch` meets its contract: the memory's shape is tested first.
use mathlib.Core.Path.{◌≡◌, refl, sym, ◌∙◌}
use mathlib.Core.Bool.{Bool, true, ◌&&◌, false≢true}
use lib.Dec.{eqb}
use lib.ListN.{length}
use Rattle.spec_lists.proofs.ListLaws.{and_left, and_right}
use Rattle.panel_rows.specs.Rows.{length_bytes}
use Rattle.session_lent.specs.LentSession.{anchors_shaped, half_shaped}
use Rattle.session_lent.specs.BatchesLaws.{half_head}
use borrow.Author.Rules.{rules}
use Rattle.session_lent.proofs.batch.apply_projection_patch_batch.Goals as goal

second : (x y z w : Bool) → (x && (y && (z && w))) ≡ true → y ≡ true
second x y z w h = and_left y (z && w) (and_right x (y && (z && w)) h)

third : (x y z w : Bool) → (x && (y && (z && w))) ≡ true → z ≡ true
third x y z w h = and_left z w (and_right y (z && w) (and_right x (y && (z && w)) h))

pub apply_shaped-requires : goal.apply_shaped-requires
apply_shaped-requires c =
    let shaped = sym c.memory_shaped.ensures ∙ c.if-not-memory_shaped.false in
    (half_head c.args.head.now _ _ _ (second (anchors_shaped (length c.args.nodes.now) (length c.args.pairs.now) (length c.args.collections.now)) (half_shaped c.args.head.now (length c.args.bindings.now) (length c.args.availability.now) (length c.args.entries.now)) (half_shaped c.args.to_head.now (length c.args.to_bindings.now) (length c.args.to_availability.now) (length c.args.to_entries.now)) (eqb (length c.args.to_lengths.now) length_bytes) shaped), half_head c.args.to_head.now _ _ _ (third (anchors_shaped (length c.args.nodes.now) (length c.args.pairs.now) (length c.args.collections.now)) (half_shaped c.args.head.now (length c.args.bindings.now) (length c.args.availability.now) (length c.args.entries.now)) (half_shaped c.args.to_head.now (length c.args.to_bindings.now) (length c.args.to_availability.now) (length c.args.to_entries.now)) (eqb (length c.args.to_lengths.now) length_bytes) shaped))

pub returns : goal.returns
returns c =
    let shaped = sym c.memory_shaped.ensures ∙ c.if-not-memory_shaped.false in
    record { called = record { answered = λ yes. (c.apply_shaped.result, (refl, c.apply_shaped.ensures.called)); refused = λ no. absurd (false≢true (sym no ∙ shaped)) }; cleared = c.apply_shaped.ensures.cleared }

pub returns-then-not-memory_shaped : goal.returns-then-not-memory_shaped
returns-then-not-memory_shaped c =
    let other = sym c.memory_shaped.ensures ∙ c.if-not-memory_shaped.true in
    record { called = record { answered = λ yes. absurd (false≢true (sym other ∙ yes)); refused = λ no. (refl, (refl, (refl, (refl, (refl, refl))))) }; cleared = λ m l h clear. clear }
