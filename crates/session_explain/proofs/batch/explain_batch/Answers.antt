-- `session_explain::batch::explain_batch` meets its contract: what the steps tell, under the session's cap.
use Rattle.std.proofs.Common.{◌∙◌}
use Rattle.projection_patch.specs.Meaning.{edition_of}
use Rattle.session_gates.specs.Gates.{batch_envelope_of}
use Rattle.shell_player.specs.CommitLaws.{struct_seen}
use Rattle.session_explain.specs.BatchLaws.{told_is, value_cap}
use Rattle.session_explain.proofs.batch.explain_batch.Goals as goal

pub returns : goal.returns
returns c = λ m h.
    let ed = edition_of c.args.edition in
    let e = batch_envelope_of c.args.envelope in
    c.under_cap.ensures
    ∙ told_is ed m e c.args.declared_target_reference_count c.args.set.now (value_cap ed m e c.args.declared_target_reference_count c.args.set.now (struct_seen _ m h)) (c.explain_steps.ensures m h)
