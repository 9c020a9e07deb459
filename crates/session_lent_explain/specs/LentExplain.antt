-- What the call that explains a batch on lent slices answers, for any slices whatever and for those that hold a session.
use Rattle.std.specs.Prelude.{ℕ, Bool, ◌&&◌, List, Option, length}
use Rattle.spec_patch.specs.Edition.{Edition}
use Rattle.spec_session.specs.Session.{Session}
use Rattle.spec_session.specs.Batch.{BatchEnvelope}
use Rattle.spec_explain.specs.Explain.{explain}
use Rattle.session_explain.specs.Reasons.{explanation_to}
use Rattle.session_lent.specs.LentSession.{LentSession, anchors_shaped, half_shaped}
use Rattle.session_lent_views.specs.Views.{Viewed}
use Rattle.session_explain.specs.declared.reasons.BatchExplanation.{BatchExplanation}

-- anchors and the half that is read hold a session; the lengths of its collections are not asked for
pub record HoldsSession (head nodes pairs collections bindings availability entries : List ℕ) (m : Session) : Type 0 where
  pub lengths : List ℕ
  pub held : LentSession head nodes pairs collections bindings availability entries lengths m

-- they have the lengths and counts of a session's memory
unfoldable pub session_shaped : (head nodes pairs collections bindings availability entries : List ℕ) → Bool
session_shaped head nodes pairs collections b a e = anchors_shaped (length nodes) (length pairs) (length collections) && half_shaped head (length b) (length a) (length e)

-- for every session that is held, why the batch is refused on it
abbrev pub ExplainView : Edition → BatchEnvelope → (declared : ℕ) → (set head nodes pairs collections b a e : List ℕ) → Option BatchExplanation → Type 0
ExplainView ed v declared set head nodes pairs collections b a e r =
    Viewed (session_shaped head nodes pairs collections b a e) (HoldsSession head nodes pairs collections b a e) (λ (m : Session). explanation_to (explain ed m v declared set)) r
