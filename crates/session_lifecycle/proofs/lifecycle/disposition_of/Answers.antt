-- `disposition_of` meets its contract: commands are applied, the no-op changes nothing.
use mathlib.Core.Path.{◌≡◌, refl, sym, ap, ◌∙◌}
use Rattle.spec_session.specs.Lifecycle as step
use Rattle.spec_session.specs.Lifecycle.{disposition_of}
use Rattle.session_lifecycle.specs.Meaning.{command_of, stimulus_of, disposition_means}
use Rattle.session_lifecycle.specs.declared.lifecycle.ShellLifecycleStimulus.{ShellLifecycleStimulus}
use Rattle.session_lifecycle.specs.declared.lifecycle.ShellLifecycleStimulus.TheVariants.{Command}
use Rattle.session_lifecycle.specs.declared.lifecycle.ShellLifecycleCommand.{ShellLifecycleCommand}
use Rattle.session_lifecycle.specs.declared.lifecycle.ShellLifecycleCommand.TheVariants.{Activate, Suspend, Resume, Close}
use Rattle.session_lifecycle.proofs.lifecycle.disposition_of.Goals as goal

command_applies : (k : ShellLifecycleCommand) → disposition_of (stimulus_of (Command k)) ≡ step.applied
unfolding disposition_of stimulus_of command_of
command_applies Activate = refl
command_applies Suspend = refl
command_applies Resume = refl
command_applies Close = refl

pub returns-in-Command : goal.returns-in-Command
unfolding disposition_means
returns-in-Command c = sym (ap (λ (f : ShellLifecycleStimulus). disposition_of (stimulus_of f)) c.in-Command.is ∙ command_applies _)

pub returns-in-ExplicitNoOp : goal.returns-in-ExplicitNoOp
unfolding disposition_means disposition_of stimulus_of
returns-in-ExplicitNoOp c = sym (ap (λ (f : ShellLifecycleStimulus). disposition_of (stimulus_of f)) c.in-ExplicitNoOp.is)
