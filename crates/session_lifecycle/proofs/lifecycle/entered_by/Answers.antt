-- `entered_by` meets its contract: each listed pair by itself, and of each lifecycle the commands that are left.
use Rattle.std.specs.Prelude.{◌≡◌, refl}
use Rattle.std.proofs.Math.Option.{none}
use Rattle.spec_session.specs.Session.{created, active, suspended, closed}
use Rattle.spec_session.specs.Lifecycle.{transition}
use Rattle.session_lifecycle.specs.declared.lifecycle.ShellLifecycleCommand.{ShellLifecycleCommand}
use Rattle.session_lifecycle.specs.declared.lifecycle.ShellLifecycleCommand.TheVariants.{Activate, Suspend, Resume, Close}
use Rattle.session_lifecycle.specs.Meaning.{command_of}
use Rattle.session_lifecycle.proofs.lifecycle.entered_by.Goals as goal

pub returns-in-Created-Activate : goal.returns-in-Created-Activate
unfolding transition command_of
returns-in-Created-Activate c = rw (c.in-Created-Activate.is-0, c.in-Created-Activate.is-1)

pub returns-in-Active-Suspend : goal.returns-in-Active-Suspend
unfolding transition command_of
returns-in-Active-Suspend c = rw (c.in-Active-Suspend.is-0, c.in-Active-Suspend.is-1)

pub returns-in-Suspended-Resume : goal.returns-in-Suspended-Resume
unfolding transition command_of
returns-in-Suspended-Resume c = rw (c.in-Suspended-Resume.is-0, c.in-Suspended-Resume.is-1)

pub returns-in-Closed-Close : goal.returns-in-Closed-Close
unfolding transition command_of
returns-in-Closed-Close c = rw (c.in-Closed-Close.is-0, c.in-Closed-Close.is-1)

pub returns-in_default-Close : goal.returns-in_default-Close
unfolding transition command_of
returns-in_default-Close c = rw (c.in_default-Close.is-0, c.in_default-Close.is-1)

pub returns-in_default-Close-2 : goal.returns-in_default-Close-2
unfolding transition command_of
returns-in_default-Close-2 c = rw (c.in_default-Close.is-0, c.in_default-Close.is-1)

pub returns-in_default-Close-3 : goal.returns-in_default-Close-3
unfolding transition command_of
returns-in_default-Close-3 c = rw (c.in_default-Close.is-0, c.in_default-Close.is-1)

pub returns-in_default : goal.returns-in_default
unfolding transition command_of
returns-in_default c = rw c.in_default.is-0 (left c.args.command c.in_default.not-Activate-1 c.in_default.not-Close-1)
  where
    left : (k : ShellLifecycleCommand) → (k ≡ Activate → ⊥) → (k ≡ Close → ⊥) → none ≡ transition created (command_of k)
    left Activate other unclosed = absurd (other refl)
    left Suspend other unclosed = refl
    left Resume other unclosed = refl
    left Close other unclosed = absurd (unclosed refl)

pub returns-in_default-2 : goal.returns-in_default-2
unfolding transition command_of
returns-in_default-2 c = rw c.in_default.is-0 (left c.args.command c.in_default.not-Suspend-1 c.in_default.not-Close-1)
  where
    left : (k : ShellLifecycleCommand) → (k ≡ Suspend → ⊥) → (k ≡ Close → ⊥) → none ≡ transition active (command_of k)
    left Activate other unclosed = refl
    left Suspend other unclosed = absurd (other refl)
    left Resume other unclosed = refl
    left Close other unclosed = absurd (unclosed refl)

pub returns-in_default-3 : goal.returns-in_default-3
unfolding transition command_of
returns-in_default-3 c = rw c.in_default.is-0 (left c.args.command c.in_default.not-Resume-1 c.in_default.not-Close-1)
  where
    left : (k : ShellLifecycleCommand) → (k ≡ Resume → ⊥) → (k ≡ Close → ⊥) → none ≡ transition suspended (command_of k)
    left Activate other unclosed = refl
    left Suspend other unclosed = refl
    left Resume other unclosed = absurd (other refl)
    left Close other unclosed = absurd (unclosed refl)

pub returns-in_default-4 : goal.returns-in_default-4
unfolding transition command_of
returns-in_default-4 c = rw c.in_default.is-0 (left c.args.command c.in_default.not-Close-1)
  where
    left : (k : ShellLifecycleCommand) → (k ≡ Close → ⊥) → none ≡ transition closed (command_of k)
    left Activate unclosed = refl
    left Suspend unclosed = refl
    left Resume unclosed = refl
    left Close unclosed = absurd (unclosed refl)
