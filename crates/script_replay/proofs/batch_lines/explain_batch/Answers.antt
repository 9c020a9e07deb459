-- `script_replay::batch_lines::explain_batch` meets its contract: the batch that is asked about is that of the line.
use mathlib.Core.Path.{ap}
use Rattle.spec_session.specs.Batch.{BatchEnvelope}
use Rattle.spec_replay.specs.Script.{Command, explain_batch}
use Rattle.spec_replay.specs.Replay.{replay_line}
use Rattle.session_gates.specs.Gates.{batch_envelope_of}
use Rattle.script_replay.specs.LineLaws.{line_step}
use borrow.Author.Rules.{rules}
use Rattle.script_replay.proofs.batch_lines.explain_batch.Goals as goal

pub returns : goal.returns
unfolding replay_line
returns c =
    let command : BatchEnvelope → Command = λ e. explain_batch e c.args.batch.target_references c.args.set.now in
    λ m h n. line_step n m _ (command (batch_envelope_of c.envelope_of-envelope.result)) (ap command c.envelope_of-envelope.ensures) (c.explain_batch.ensures m h)
