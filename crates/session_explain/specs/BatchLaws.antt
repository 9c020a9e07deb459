-- The reason of a batch on a session that is stored: that of its checks, or else that of its operations, under the cap.
use Rattle.std.specs.Prelude.{ℕ, Result, Ok, Err, ◌≡◌, List}
use Rattle.std.proofs.Common.{sym, ap₂, ◌∙◌}
use Rattle.std.proofs.Math.Path.{ap}
use Rattle.spec_patch.specs.Edition.{Edition}
use Rattle.spec_patch.specs.Patch.{Patch}
use Rattle.spec_patch.specs.Read.{SetReading, patches, read_set}
use Rattle.spec_session.specs.Session.{Limits, Session}
use Rattle.spec_session.specs.Batch.{BatchEnvelope}
use Rattle.spec_explain.specs.Walk.{walk_patches}
use Rattle.spec_explain.specs.Explain.{◌>>◌, patches_read, step_kept, applies, explain_steps, explain_batch, explain}
use Rattle.session_lifecycle.specs.Meaning.{lifecycle_of, cursor_of, limits_of}
use Rattle.session_lifecycle.specs.declared.state.ShellLifecycleLimits.{ShellLifecycleLimits}
use Rattle.session_lifecycle.specs.declared.state.ShellLocalState.{ShellLocalState}
use Rattle.active_projection_target_catalog.specs.Catalog.{catalogue_of}
use Rattle.session_gates.specs.Seen.{Seen}
use Rattle.session_steps.specs.Checks.{SeenSession}
use Rattle.session_steps.specs.declared.checks.ActivatedShellSessionContext.{ActivatedShellSessionContext}
use Rattle.session_explain.specs.Reasons.{step_to, explanation_to, first_to, capped_to}
use Rattle.session_explain.specs.Steps.{checks_by}
use Rattle.session_explain.specs.StepsLaws.{first_then, capped_is, check_steps, operation_steps, steps_are, checks_read}
use Rattle.session_explain.specs.declared.reasons.BatchReason.{BatchReason}
use Rattle.session_explain.specs.declared.reasons.BatchExplanation.{BatchExplanation}

module _ (ed : Edition) (m : Session) (e : BatchEnvelope) (declared : ℕ) (set : List ℕ) where
  abbrev operations : Result (Unit {0}) BatchReason
  operations = step_to (operation_steps ed m e declared set (patches_read (read_set ed set)))

  abbrev Whole : Result (Unit {0}) BatchReason
  Whole = step_to (explain_steps ed m e declared set)

  -- the steps' reason under the session's cap is what the call tells
  pub told_is : {x : Result (Unit {0}) BatchReason} {cap : ℕ} → cap ≡ m.limits.diagnostics → x ≡ Whole → capped_to cap x ≡ explanation_to (explain ed m e declared set)
  unfolding explain explain_batch
  told_is {x} cap_is is = ap (λ (n : ℕ). capped_to n x) cap_is ∙ ap (capped_to m.limits.diagnostics) is ∙ capped_is m.limits.diagnostics (explain_steps ed m e declared set)

  -- the reason of its checks is known
  module _ {r : Result (Unit {0}) BatchReason} (checked : r ≡ step_to (check_steps ed m e declared set)) where
    whole : first_to r operations ≡ Whole
    whole =
        ap (λ (y : Result (Unit {0}) BatchReason). first_to y operations) checked
        ∙ first_then (check_steps ed m e declared set) (operation_steps ed m e declared set (patches_read (read_set ed set))) ∙ ap step_to (sym (steps_are ed m e declared set))

    pub checks_tell : {x : BatchReason} → r ≡ Err x → Err x ≡ Whole
    checks_tell is = sym (ap (λ (y : Result (Unit {0}) BatchReason). first_to y operations) is) ∙ whole

    pub operations_tell : r ≡ Ok tt → {a : Result (Unit {0}) BatchReason} → ((ps : List Patch) → read_set ed set ≡ patches ps → a ≡ step_to (applies (walk_patches step_kept 0 m.projection ps))) → a ≡ Whole
    unfolding patches_read
    operations_tell is by =
        let read = checks_read ed m e declared set (sym checked ∙ is) in
        by read.0 read.1 ∙ ap (λ (x : SetReading). step_to (operation_steps ed m e declared set (patches_read x))) (sym read.1)
        ∙ sym (ap (λ (y : Result (Unit {0}) BatchReason). first_to y operations) is) ∙ whole

  -- and so the call tells it, under the session's cap
  module _ {cap : ℕ} (cap_is : cap ≡ m.limits.diagnostics) {r : Result (Unit {0}) BatchReason} (checked : r ≡ step_to (check_steps ed m e declared set)) where
    pub checks_told : {x : BatchReason} → r ≡ Err x → {out : BatchExplanation} → out ≡ capped_to cap r → out ≡ explanation_to (explain ed m e declared set)
    checks_told is out = out ∙ told_is cap_is (is ∙ checks_tell checked is)

    pub operations_told : r ≡ Ok tt → {a : Result (Unit {0}) BatchReason} → ((ps : List Patch) → read_set ed set ≡ patches ps → a ≡ step_to (applies (walk_patches step_kept 0 m.projection ps)))
        → {out : BatchExplanation} → out ≡ capped_to cap a → out ≡ explanation_to (explain ed m e declared set)
    operations_told is by out = out ∙ told_is cap_is (operations_tell checked is by)

  -- of a session by value
  module _ {context : ActivatedShellSessionContext} {state : ShellLocalState} (seen : SeenSession context state m) where
    pub value_cap : context.limits.max_diagnostics_per_transition ≡ m.limits.diagnostics
    value_cap = ap (λ (l : Limits). l.diagnostics) seen.limits_are

    module _ {r : Result (Unit {0}) BatchReason}
        (told : r ≡ step_to (checks_by ed context.session_id.0 (limits_of context.limits) (lifecycle_of state.lifecycle) (cursor_of state.replay_cursor) (catalogue_of context.catalog) e declared set)) where
      checked : r ≡ step_to (check_steps ed m e declared set)
      checked = told ∙ (λ j. step_to (checks_by ed (seen.id_is j) (seen.limits_are j) (seen.lifecycle_is j) (seen.cursor_is j) (seen.catalogue_is j) e declared set))

      pub checks_explain : {x : BatchReason} → r ≡ Err x → Err x ≡ Whole
      checks_explain is = checks_tell checked is

      pub operations_explain : r ≡ Ok tt → {a : Result (Unit {0}) BatchReason} → ((ps : List Patch) → read_set ed set ≡ patches ps → a ≡ step_to (applies (walk_patches step_kept 0 m.projection ps))) → a ≡ Whole
      operations_explain is by = operations_tell checked is by

      pub checks_explained : {x : BatchReason} → r ≡ Err x → {out : BatchExplanation} → out ≡ capped_to context.limits.max_diagnostics_per_transition r → out ≡ explanation_to (explain ed m e declared set)
      checks_explained is out = checks_told value_cap checked is out

      pub operations_explained : r ≡ Ok tt → {a : Result (Unit {0}) BatchReason} → ((ps : List Patch) → read_set ed set ≡ patches ps → a ≡ step_to (applies (walk_patches step_kept 0 m.projection ps)))
          → {out : BatchExplanation} → out ≡ capped_to context.limits.max_diagnostics_per_transition a → out ≡ explanation_to (explain ed m e declared set)
      operations_explained is by out = operations_told value_cap checked is by out

  -- of a session in lent memory
  module _ {id : ℕ} {limits : ShellLifecycleLimits} {state : ShellLocalState} {nodes bindings collections : List ℕ} (seen : Seen m id limits state nodes bindings collections) where
    pub lent_cap : limits.max_diagnostics_per_transition ≡ m.limits.diagnostics
    lent_cap = ap (λ (l : Limits). l.diagnostics) seen.limits_are

    pub lent_checked : {r : Result (Unit {0}) BatchReason} → r ≡ step_to (checks_by ed id (limits_of limits) (lifecycle_of state.lifecycle) (cursor_of state.replay_cursor) m.catalogue e declared set) → r ≡ step_to (check_steps ed m e declared set)
    lent_checked told = told ∙ (λ j. step_to (checks_by ed (seen.id_is j) (seen.limits_are j) (seen.lifecycle_is j) (seen.cursor_is j) m.catalogue e declared set))
