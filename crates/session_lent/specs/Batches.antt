-- What a batch on lent slices answers and leaves. The slices that it reads stay by their type; those that it writes to are told.
use Rattle.std.specs.Prelude as code
use Rattle.std.specs.Prelude.{Option, Some, None}
use Rattle.std.specs.Prelude.{ℕ, ◌≡◌, Bool, true, false, ◌&&◌, List, eqb, length}
use Rattle.spec_patch.specs.Edition.{Edition}
use Rattle.spec_session.specs.Session.{Session}
use Rattle.spec_session.specs.Diagnostics.{SessionRefusal}
use Rattle.spec_session.specs.Batch.{BatchStep, BatchEnvelope, refuse, batch}
use Rattle.panel_rows.specs.Rows.{length_bytes}
use Rattle.session_gates.specs.Gates.{preflight_by}
use Rattle.panel_changes.specs.PlanMemory.{PlanTables, ClearPlan}
use Rattle.local_projection_state.specs.declared.ProjectionCounts.{ProjectionCounts}
use Rattle.panel_changes.specs.declared.SetRefusal.{SetRefusal}
use Rattle.session_steps.specs.Answers.{batch_answer_of, rejected_at, AnswerRow}
use Rattle.session_steps.specs.declared.answers.ProjectionPatchApplicationDisposition.{ProjectionPatchApplicationDisposition}
use Rattle.session_steps.specs.declared.answers.ProjectionPatchApplicationDisposition.TheVariants.{Applied, NoChange, Rejected}
use Rattle.session_steps.specs.declared.answers.ProjectionPatchApplicationResult.{ProjectionPatchApplicationResult}
use Rattle.session_lent.specs.Head.{head_numbers, state_at, limits_at}
use Rattle.session_lent.specs.LentSession.{LentSession, LentRoom, anchors_shaped, half_shaped}

-- ---- slices that stay

abbrev pub SameHalf : (h b a e l h' b' a' e' l' : List ℕ) → Type 0
SameHalf h b a e l h' b' a' e' l' = (h' ≡ h) × ((b' ≡ b) × ((a' ≡ a) × ((e' ≡ e) × (l' ≡ l))))

-- a set that is not applied leaves the half that it was to be written to
abbrev pub KeptUnlessChanged : code.Result ProjectionCounts SetRefusal → (h b a e l h' b' a' e' l' : List ℕ) → Type 0
KeptUnlessChanged (code.Ok n) h b a e l h' b' a' e' l' = Unit {0}
KeptUnlessChanged (code.Err f) h b a e l h' b' a' e' l' = SameHalf h b a e l h' b' a' e' l'

-- ---- the step of a session that is held

-- the next session stands in the other half where the batch was applied; otherwise it is the session from before
abbrev pub NextIn : ProjectionPatchApplicationDisposition → (m next : Session) → (head nodes pairs collections b a e l : List ℕ) → Type 0
NextIn Applied m next head nodes pairs collections b a e l = LentSession head nodes pairs collections b a e l next
NextIn NoChange m next head nodes pairs collections b a e l = next ≡ m
NextIn Rejected m next head nodes pairs collections b a e l = next ≡ m

pub record LentStep (result : ProjectionPatchApplicationResult) (m : Session) (head nodes pairs collections b a e l : List ℕ) (s : BatchStep) : Type 0 where
  pub answer : batch_answer_of result ≡ s.answer
  pub next : NextIn result.disposition m s.next head nodes pairs collections b a e l

-- ---- the calls: what is read, what is written to before, the answer, and what is written to afterwards

module _ (ed : Edition) (v : BatchEnvelope) (declared : ℕ) (set head nodes pairs collections b a e toH toB toA toE toL : List ℕ) (plan : PlanTables) where
  -- on memory of the right shape
  pub record ShapedCall (result : ProjectionPatchApplicationResult) (h' b' a' e' l' : List ℕ) : Type 0 where
    pub became : (m : Session) (l : List ℕ) → LentSession head nodes pairs collections b a e l m → LentRoom toH toB toA toE toL → ClearPlan plan → LentStep result m h' nodes pairs collections b' a' e' l' (batch ed m v declared set)
    pub kept : (result.disposition ≡ Applied → ⊥) → SameHalf toH toB toA toE toL h' b' a' e' l'
    pub row : AnswerRow (limits_at head).diagnostics (state_at head).cursor v.sequence (batch_answer_of result)
    pub preflight : (f : SessionRefusal) (n : ℕ) → preflight_by (state_at head).id (limits_at head) (state_at head).lifecycle v ≡ refuse f n → batch_answer_of result ≡ rejected_at (limits_at head).diagnostics f n (state_at head).cursor

  -- the anchors and both halves have the lengths and counts of a session's memory; of the half that is read, the lengths of collections are not asked for
  abbrev pub memory_shaped : Bool
  memory_shaped =
      anchors_shaped (length nodes) (length pairs) (length collections)
      && (half_shaped head (length b) (length a) (length e) && (half_shaped toH (length toB) (length toA) (length toE) && eqb (length toL) length_bytes))

  -- memory of that shape is answered; of any other nothing is changed
  pub record BatchCallOnSlices (r : Option ProjectionPatchApplicationResult) (h' b' a' e' l' : List ℕ) : Type 0 where
    pub answered : memory_shaped ≡ true → (result : ProjectionPatchApplicationResult) × ((r ≡ Some result) × ShapedCall result h' b' a' e' l')
    pub refused : memory_shaped ≡ false → (r ≡ None) × SameHalf toH toB toA toE toL h' b' a' e' l'

-- the memory of a plan, lent without rows, is given back so
abbrev pub PlanGivenBack : (head nodes pairs collections b a e : List ℕ) (plan plan' : PlanTables) → Type 0
PlanGivenBack head nodes pairs collections b a e plan plan' = (m : Session) (l : List ℕ) → LentSession head nodes pairs collections b a e l m → ClearPlan plan → ClearPlan plan'
