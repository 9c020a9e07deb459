-- What is claimed of the two forms of a session: each call gives the other's answer, and the struct that is handed back has the numbers and the bytes
-- of the memory; both store the model's next session.
use Rattle.std.specs.Prelude.{Option, Some, Result, Ok, Err}
use Rattle.std.specs.Prelude.{◌≡◌, List, ℕ}
use Rattle.spec_session.specs.Session.{Session}
use Rattle.session_creation.specs.declared.CreationRefusal.TheVariants.{AnchorsOverCapacity}
use Rattle.session_creation.specs.declared.ShellSessionCreation.{ShellSessionCreation}
use Rattle.shell_player.specs.Holds.{Holds}
use Rattle.shell_player.specs.declared.session.ShellTransition.{ShellTransition}
use Rattle.shell_player.specs.declared.batch.ProjectionPatchBatch.{ProjectionPatchBatch}
use Rattle.session_lent.specs.declared.creation.LentCreationRefusal.{LentCreationRefusal}
use Rattle.session_lent.specs.declared.creation.LentCreationRefusal.TheVariants as creation
use Rattle.session_lifecycle.specs.declared.lifecycle.ShellTransitionResult.{ShellTransitionResult}
use Rattle.session_steps.specs.declared.answers.ProjectionPatchApplicationResult.{ProjectionPatchApplicationResult}
use Rattle.session_lent.specs.Halves.{Anchors, Half, HeldIn}
use Rattle.session_lent_laws.specs.Memory.{Memory, Panel, struct_in}

-- creation in slices that a session can be made in: both make it, or both tell 13
abbrev pub CreationAlike : Result (Unit {0}) LentCreationRefusal → Anchors → Half → ShellSessionCreation → Type 0
CreationAlike (Ok u) k h r = (r.answer ≡ Ok tt) × ((r.session ≡ struct_in k h) × ((m : Session) × (Holds r.session m × HeldIn k h m)))
CreationAlike (Err creation.AnchorsOverCapacity) k h r = r.answer ≡ Err AnchorsOverCapacity
CreationAlike (Err creation.NoSession) k h r = ⊥

-- the half with another head
abbrev pub with_head : Half → List ℕ → Half
with_head h x = record { head = x; bindings = h.bindings; availability = h.availability; entries = h.entries; lengths = h.lengths }

-- a lifecycle step
pub record TransitionAlike (k : Anchors) (h : Half) (r : Option ShellTransitionResult) (t : ShellTransition) (next : Session) : Type 0 where
  pub answer : r ≡ Some t.result
  pub session : t.session ≡ struct_in k h
  pub by_value : Holds t.session next
  pub lent : HeldIn k h next

-- a batch, after which the caller exchanges the halves where it was applied
pub record BatchAlike (k : Anchors) (p : Memory) (r : Option ProjectionPatchApplicationResult) (b : ProjectionPatchBatch) (next : Session) : Type 0 where
  pub answer : r ≡ Some b.result
  pub session : b.session ≡ struct_in k p.held
  pub by_value : Holds b.session next
  pub lent : Panel k p next
