-- A lifecycle step of a struct that stores a session is the step of that session.
use Rattle.std.specs.Prelude.{ℕ, refl}
use Rattle.std.proofs.Math.Path.{◌≡◌, sym, subst}
use Rattle.std.proofs.Common.{ap, ap₂, ◌∙◌, arith}
use Rattle.spec_session.specs.Session as model
use Rattle.spec_session.specs.Lifecycle.{Stimulus, applied, no_change, rejected, LocalState, LifecycleAnswer, state_of, with_lifecycle, lifecycle_step}
use Rattle.spec_session.proofs.ValidSessionLaws.{lifecycle_step_unchanged, lifecycle_step_told, lifecycle_step_rest}
use Rattle.session_lifecycle.specs.Meaning.{disposition_means, answer_of, limits_of, shell_state_of, bare}
use Rattle.session_lifecycle.specs.MeaningLaws.{bare_answers}
use Rattle.session_lifecycle.specs.declared.lifecycle.ShellTransitionDisposition.{ShellTransitionDisposition}
use Rattle.session_lifecycle.specs.declared.lifecycle.ShellTransitionDisposition.TheVariants.{Applied, NoChange, Rejected}
use Rattle.session_lifecycle.specs.declared.lifecycle.ShellTransitionResult.{ShellTransitionResult}
use Rattle.session_lifecycle.specs.declared.state.ShellLocalState.{ShellLocalState}
use Rattle.spec_session.specs.ValidSession.{FewAnchors}
use Rattle.active_projection_target_catalog.specs.Catalog.{catalog_to}
use Rattle.local_projection_state.specs.Stores.{Stores}
use Rattle.session_steps.specs.States.{next_state}
use Rattle.shell_player.specs.declared.session.ShellSession.{ShellSession}
use Rattle.shell_player.specs.Holds.{Holds}
use Rattle.shell_player.specs.Steps.{with_state, next_session}

-- the struct with the state after the step
pub state_stored : (s : ShellSession) (d : ShellTransitionDisposition) (t : ShellLocalState) → with_state s (next_state s.state d t) ≡ next_session s d t
unfolding next_state next_session
state_stored s Applied t = refl
state_stored s NoChange t = refl
state_stored s Rejected t = refl

module _ (s : ShellSession) (m : model.Session) (holds : Holds s m) (u : Stimulus) (b : ℕ) (r : ShellTransitionResult)
    (answered : answer_of r ≡ (lifecycle_step (bare (limits_of s.context.limits) (shell_state_of s.state)) u b).answer) where
  -- the answer is that of the session
  pub same_answer : answer_of r ≡ (lifecycle_step m u b).answer
  same_answer =
      answered
      ∙ ap₂ (λ (l : model.Limits) (t : LocalState). (lifecycle_step (bare l t) u b).answer) holds.limits holds.state
      ∙ bare_answers m u b

  told : shell_state_of r.state ≡ state_of (lifecycle_step m u b).next
  told = ap (λ (a : LifecycleAnswer). a.state) same_answer ∙ sym (lifecycle_step_told m u b)

  moved : Holds (with_state s r.state) (lifecycle_step m u b).next
  unfolding with_lifecycle
  moved =
      let rest = lifecycle_step_rest m u b in
      record {
        id = holds.id ∙ sym (ap (λ (n : model.Session). n.id) rest);
        limits = holds.limits ∙ sym (ap (λ (n : model.Session). n.limits) rest);
        catalogue = holds.catalogue ∙ sym (ap (λ (n : model.Session). catalog_to n.catalogue) rest);
        few = subst (λ (n : model.Session). FewAnchors n.catalogue) (sym rest) holds.few;
        state = told;
        projection = subst (λ (n : model.Session). Stores s.local_projection n.projection) (sym rest) holds.projection;
      }

  stays : ((lifecycle_step m u b).answer.disposition ≡ applied → ⊥) → Holds s (lifecycle_step m u b).next
  stays h = subst (Holds s) (sym (lifecycle_step_unchanged m u b h)) holds

  -- and the struct after the step stores the next session
  pub next_holds : Holds (next_session s r.disposition r.state) (lifecycle_step m u b).next
  unfolding next_session disposition_means
  next_holds = go r.disposition (ap (λ (a : LifecycleAnswer). a.disposition) same_answer)
    where
      go : (d : ShellTransitionDisposition) → disposition_means d ≡ (lifecycle_step m u b).answer.disposition → Holds (next_session s d r.state) (lifecycle_step m u b).next
      go Applied e = moved
      go NoChange e = stays (λ h. let z : no_change ≡ applied = e ∙ h in absurd (let y : ◌≡◌ {A = ℕ} 0 1 = cc in omega arith))
      go Rejected e = stays (λ h. let z : rejected ≡ applied = e ∙ h in absurd (let y : ◌≡◌ {A = ℕ} 0 1 = cc in omega arith))
