-- What the calls on lent slices answer and leave, for any slices whatever and for those that hold a session.
use Rattle.std.specs.Prelude.{Option, Some, None, Result, Ok, Err}
use Rattle.std.specs.Prelude.{ℕ, ◌%◌, ◌≡◌, Bool, ◌&&◌, List, eqb, length, set, if◌then◌else◌}
use Rattle.spec_session.specs.Session.{Session, Limits, Creation, made, refused}
use Rattle.spec_session.specs.Lifecycle.{Stimulus, LifecycleStep, lifecycle_step}
use Rattle.bytes_records.specs.Moves.{zeros}
use Rattle.panel_rows.specs.Rows.{length_bytes}
use Rattle.panel_changes.specs.SetChanges.{tables_fit}
use Rattle.session_lifecycle.specs.Meaning.{lifecycle_of, answer_of, bare}
use Rattle.session_lifecycle.specs.declared.lifecycle.ShellTransitionDisposition.{ShellTransitionDisposition}
use Rattle.session_lifecycle.specs.declared.lifecycle.ShellTransitionDisposition.TheVariants as step
use Rattle.session_lifecycle.specs.declared.lifecycle.ShellTransitionResult.{ShellTransitionResult}
use Rattle.session_lent.specs.Head.{head_numbers, lifecycle_number, state_at, limits_at, new_head}
use Rattle.session_lent.specs.LentSession.{LentSession, anchors_shaped}
use Rattle.session_lent.specs.declared.creation.LentCreationRefusal.{LentCreationRefusal}
use Rattle.session_lent.specs.declared.creation.LentCreationRefusal.TheVariants as creation

-- ---- the lifecycle step

-- the head afterwards: another lifecycle where the step was applied, and as it was otherwise
abbrev pub stepped_head : List ℕ → ShellTransitionDisposition → ℕ → List ℕ
stepped_head h step.Applied n = set h 1 n
stepped_head h step.NoChange n = h
stepped_head h step.Rejected n = h

-- a step of the slices is the model's
pub record TransitionBecame (result : ShellTransitionResult) (head nodes pairs collections bindings availability entries lengths : List ℕ) (s : LifecycleStep) : Type 0 where
  pub answer : answer_of result ≡ s.answer
  pub next : LentSession head nodes pairs collections bindings availability entries lengths s.next

-- what was answered, for a head of eleven numbers
pub record TransitionAnswered (h : List ℕ) (u : Stimulus) (n : ℕ) (r : Option ShellTransitionResult) (h' : List ℕ) : Type 0 where
  pub result : ShellTransitionResult
  pub told : r ≡ Some result
  pub answer : answer_of result ≡ (lifecycle_step (bare (limits_at h) (state_at h)) u n).answer
  pub left : h' ≡ stepped_head h result.disposition (lifecycle_number (lifecycle_of result.state.lifecycle))

pub record TransitionCall (h : List ℕ) (u : Stimulus) (n : ℕ) (r : Option ShellTransitionResult) (h' : List ℕ) : Type 0 where
  pub answered : length h ≡ head_numbers → TransitionAnswered h u n r h'
  pub refused : (length h ≡ head_numbers → ⊥) → (r ≡ None) × (h' ≡ h)

-- ---- creation

-- slices that a session can be made in
unfoldable pub room_shaped : (head pairs bindings availability entries lengths : ℕ) → Bool
room_shaped head pairs bindings availability entries lengths = eqb head head_numbers && (eqb (pairs % 2) 0 && (eqb lengths length_bytes && tables_fit bindings availability entries))

abbrev pub creation_answer : (room anchored : Bool) → Result (Unit {0}) LentCreationRefusal
creation_answer room anchored = if room then (if anchored then Ok tt else Err creation.AnchorsOverCapacity) else Err creation.NoSession

-- what stands in a slice after creation
abbrev pub after_creation : Result (Unit {0}) LentCreationRefusal → List ℕ → List ℕ → List ℕ
after_creation (Ok tt) new old = new
after_creation (Err creation.AnchorsOverCapacity) new old = old
after_creation (Err creation.NoSession) new old = old

-- the slices hold the session that was made; 13 where there is none
abbrev pub CreatedIn : Creation → Result (Unit {0}) LentCreationRefusal → (head nodes pairs collections b a e l : List ℕ) → Type 0
CreatedIn (made m) r head nodes pairs collections b a e l = (r ≡ Ok tt) × LentSession head nodes pairs collections b a e l m
CreatedIn (refused x) r head nodes pairs collections b a e l = r ≡ Err creation.AnchorsOverCapacity

pub record CreationCall (id : ℕ) (limits : Limits) (nodes pairs collections head b a e l : List ℕ) (r : Result (Unit {0}) LentCreationRefusal) (head' b' a' e' l' : List ℕ) : Type 0 where
  pub told : r ≡ creation_answer (room_shaped (length head) (length pairs) (length b) (length a) (length e) (length l)) (anchors_shaped (length nodes) (length pairs) (length collections))
  pub head_left : head' ≡ after_creation r (new_head id limits) head
  pub bindings_left : b' ≡ after_creation r (zeros (length b)) b
  pub availability_left : a' ≡ after_creation r (zeros (length a)) a
  pub entries_left : e' ≡ after_creation r (zeros (length e)) e
  pub lengths_left : l' ≡ after_creation r (zeros (length l)) l
