-- `create_shell_session` meets its contract: an anchor list over its capacity yields no session.
use mathlib.Core.Path.{sym, ap, ◌∙◌}
use Rattle.active_projection_target_catalog.specs.declared.catalog.ActiveProjectionTargetCatalog.{ActiveProjectionTargetCatalog}
use Rattle.shell_player.specs.Steps.{new_state}
use Rattle.session_creation.proofs.CreationLaws.{refused_creation, made_creation}
use borrow.Author.Rules.{rules}
use Rattle.session_creation.proofs.create_shell_session.Goals as goal

pub returns-then-anchors_within : goal.returns-then-anchors_within
returns-then-anchors_within c =
    made_creation c.args.id c.args.limits c.args.nodes.now c.args.pairs c.args.given c.args.collections.now _ (sym c.anchors_within.ensures ∙ c.if-anchors_within.true)
    (c.new.ensures ∙ ap (λ (k : ActiveProjectionTargetCatalog). new_state (record { session_id = record { 0 = c.args.id }; limits = c.args.limits; catalog = k })) c.from_snapshot.ensures)

pub returns : goal.returns
returns c =
    refused_creation c.args.id c.args.limits c.args.nodes.now c.args.pairs c.args.given c.args.collections.now _ (sym c.anchors_within.ensures ∙ c.if-anchors_within.false) c.no_session.ensures
