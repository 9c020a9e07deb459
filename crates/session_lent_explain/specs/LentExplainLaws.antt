-- Slices that hold a session have its shape, and the steps on what they tell give the session's reason.
use Rattle.std.specs.Prelude.{ℕ, ◌≡◌, Result, Ok, Err, true, false, ◌&&◌, List, length}
use Rattle.std.proofs.Common.{sym, ap, subst, ◌∙◌}
use Rattle.spec_patch.specs.Edition.{Edition}
use Rattle.spec_patch.specs.Patch.{Patch}
use Rattle.spec_patch.specs.Read.{patches, read_set}
use Rattle.spec_projection.specs.Projection.{Projection}
use Rattle.spec_session.specs.Session.{Limits, Catalogue, Session}
use Rattle.spec_session.specs.Batch.{BatchEnvelope}
use Rattle.spec_explain.specs.Walk.{walk_patches}
use Rattle.spec_explain.specs.Explain.{step_kept, applies, explain_steps, explain}
use Rattle.session_lifecycle.specs.Meaning.{lifecycle_of, cursor_of, shell_state_of, limits_of}
use Rattle.session_lifecycle.specs.declared.state.ShellLifecycleLimits.{ShellLifecycleLimits}
use Rattle.session_lifecycle.specs.declared.state.ShellLocalState.{ShellLocalState}
use Rattle.local_projection_state.specs.Stores.{StoredTables}
use Rattle.local_projection_state.specs.declared.ProjectionCounts.{ProjectionCounts}
use Rattle.session_gates.specs.Lent.{Lent}
use Rattle.session_gates.specs.Seen.{Seen}
use Rattle.session_explain.specs.Reasons.{step_to, explanation_to, capped_to}
use Rattle.session_explain.specs.Steps.{checks_by}
use Rattle.session_explain.specs.BatchLaws.{told_is, checks_tell, operations_tell, lent_checked, lent_cap}
use Rattle.session_explain.specs.StepsLaws.{check_steps}
use Rattle.session_explain.specs.declared.reasons.BatchReason.{BatchReason}
use Rattle.session_explain.specs.declared.reasons.BatchExplanation.{BatchExplanation}
use Rattle.session_lent.specs.Head.{state_at, limits_at, counts_at}
use Rattle.session_lent.specs.LentSession.{anchors_shaped, half_shaped}
use Rattle.session_lent.specs.HeadLaws.{limits_told}
use Rattle.session_lent.specs.BatchesLaws.{held_anchors, held_half, held_tables, lent_seen}
use Rattle.session_lent_explain.specs.LentExplain.{HoldsSession, session_shaped}

pub session_shaped_lem : (head nodes pairs collections b a e : List ℕ) (m : Session) → HoldsSession head nodes pairs collections b a e m → session_shaped head nodes pairs collections b a e ≡ true
unfolding session_shaped
session_shaped_lem head nodes pairs collections b a e m h =
    rw (held_anchors head nodes pairs collections b a e h.lengths m h.held, held_half head nodes pairs collections b a e h.lengths m h.held)

-- the shape, by its two parts
module _ (head nodes pairs collections b a e : List ℕ) where
  pub both_shaped : anchors_shaped (length nodes) (length pairs) (length collections) ≡ true → half_shaped head (length b) (length a) (length e) ≡ true → session_shaped head nodes pairs collections b a e ≡ true
  unfolding session_shaped
  both_shaped x y = rw (x, y)

  pub half_unshaped : anchors_shaped (length nodes) (length pairs) (length collections) ≡ true → half_shaped head (length b) (length a) (length e) ≡ false → session_shaped head nodes pairs collections b a e ≡ false
  unfolding session_shaped
  half_unshaped x y = rw (x, y)

  pub anchors_unshaped : anchors_shaped (length nodes) (length pairs) (length collections) ≡ false → session_shaped head nodes pairs collections b a e ≡ false
  unfolding session_shaped
  anchors_unshaped x = rw x

-- ---- the steps on what the head tells

module _ (ed : Edition) (v : BatchEnvelope) (declared : ℕ) (set head nodes pairs collections b a e : List ℕ) (limits : ShellLifecycleLimits) (state : ShellLocalState) (limits_are : limits_of limits ≡ limits_at head) (state-is : shell_state_of state ≡ state_at head)
    (m : Session) (h : HoldsSession head nodes pairs collections b a e m) {r : Result (Unit {0}) BatchReason}
    (told : (c : Catalogue) → Lent c nodes pairs collections → r ≡ step_to (checks_by ed state.session_id.0 (limits_of limits) (lifecycle_of state.lifecycle) (cursor_of state.replay_cursor) c v declared set)) where
  sees : Seen m state.session_id.0 limits state nodes pairs collections
  sees = lent_seen head nodes pairs collections b a e limits state limits_are state-is m h.lengths h.held

  abbrev Whole : Result (Unit {0}) BatchReason
  Whole = step_to (explain_steps ed m v declared set)

  checked : r ≡ step_to (check_steps ed m v declared set)
  checked = lent_checked ed m v declared set sees (told m.catalogue sees.anchors_are)

  pub shaped_checks : {x : BatchReason} → r ≡ Err x → Err x ≡ Whole
  shaped_checks is = checks_tell ed m v declared set checked is

  pub shaped_operations : r ≡ Ok tt → {n : ProjectionCounts} → n ≡ counts_at head → {x : Result (Unit {0}) BatchReason}
      → ((p : Projection) (ps : List Patch) → StoredTables n b a e p → read_set ed set ≡ patches ps → x ≡ step_to (applies (walk_patches step_kept 0 p ps))) → x ≡ Whole
  shaped_operations is {n} counted by =
      let stored : StoredTables n b a e m.projection = subst (λ (k : ProjectionCounts). StoredTables k b a e m.projection) (sym counted) (held_tables m h.held) in
      operations_tell ed m v declared set checked is (λ ps read. by m.projection ps stored read)

  -- and so the call tells it, under the cap that the head tells
  its_cap : limits.max_diagnostics_per_transition ≡ m.limits.diagnostics
  its_cap = lent_cap ed m v declared set sees

  pub shaped_checks_told : {x : BatchReason} → r ≡ Err x → {out : BatchExplanation} → out ≡ capped_to limits.max_diagnostics_per_transition r → out ≡ explanation_to (explain ed m v declared set)
  shaped_checks_told is out = out ∙ told_is ed m v declared set its_cap (is ∙ shaped_checks is)

  pub shaped_operations_told : r ≡ Ok tt → {n : ProjectionCounts} → n ≡ counts_at head → {x : Result (Unit {0}) BatchReason}
      → ((p : Projection) (ps : List Patch) → StoredTables n b a e p → read_set ed set ≡ patches ps → x ≡ step_to (applies (walk_patches step_kept 0 p ps)))
      → {out : BatchExplanation} → out ≡ capped_to limits.max_diagnostics_per_transition x → out ≡ explanation_to (explain ed m v declared set)
  shaped_operations_told is counted by out = out ∙ told_is ed m v declared set its_cap (shaped_operations is counted by)

-- the cap that the head tells is the session's
module _ (head nodes pairs collections b a e : List ℕ) (limits : ShellLifecycleLimits) (limits_are : limits_of limits ≡ limits_at head) (m : Session) (h : HoldsSession head nodes pairs collections b a e m) where
  pub shaped_cap : limits.max_diagnostics_per_transition ≡ m.limits.diagnostics
  shaped_cap = ap (λ (l : Limits). l.diagnostics) (limits_are ∙ limits_told head m h.held.head_is)
