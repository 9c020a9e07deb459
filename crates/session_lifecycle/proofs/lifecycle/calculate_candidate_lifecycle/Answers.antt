-- `calculate_candidate_lifecycle` meets its contract: the no-op keeps the lifecycle, and each command enters its own.
use Rattle.spec_session.specs.Lifecycle.{transition}
use Rattle.session_lifecycle.specs.Meaning.{stimulus_of}
use Rattle.session_lifecycle.proofs.lifecycle.calculate_candidate_lifecycle.Goals as goal

pub returns-in-ExplicitNoOp : goal.returns-in-ExplicitNoOp
unfolding transition stimulus_of
returns-in-ExplicitNoOp c = rw c.in-ExplicitNoOp.is

pub returns-in-Command : goal.returns-in-Command
unfolding stimulus_of
returns-in-Command c = rw c.in-Command.is c.entered_by.ensures
