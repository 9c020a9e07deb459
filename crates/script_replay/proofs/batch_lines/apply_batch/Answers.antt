-- `script_replay::batch_lines::apply_batch` meets its contract: the envelope and the declared count are those of the line.
use mathlib.Core.Path.{ap}
use Rattle.spec_session.specs.Batch.{BatchEnvelope}
use Rattle.spec_replay.specs.Script.{Command, batch}
use Rattle.spec_replay.specs.Replay.{replay_line}
use Rattle.session_gates.specs.Gates.{batch_envelope_of}
use Rattle.script_replay.specs.LineLaws.{line_step}
use borrow.Author.Rules.{rules}
use Rattle.script_replay.proofs.batch_lines.apply_batch.Goals as goal

pub returns : goal.returns
unfolding replay_line
returns c =
    let command : BatchEnvelope → Command = λ e. batch e c.args.batch.target_references c.args.set.now in
    λ m h n. line_step n m _ (command (batch_envelope_of c.envelope_of-envelope.result)) (ap command c.envelope_of-envelope.ensures) (c.apply_batch.ensures m h)
