-- The session that is left behind the reference is the step's, stored or not.
use Rattle.std.specs.Prelude.{◌≡◌, refl, Bool, true, false, not, T}
use Rattle.std.proofs.Common.{sym, ap, subst, ◌∙◌}
use Rattle.session_lifecycle.specs.declared.lifecycle.ShellTransitionDisposition.{ShellTransitionDisposition}
use Rattle.session_lifecycle.specs.declared.lifecycle.ShellTransitionDisposition.TheVariants.{Applied, NoChange, Rejected}
use Rattle.session_lifecycle.specs.declared.lifecycle.ShellTransitionInput.{ShellTransitionInput}
use Rattle.session_lifecycle.specs.declared.lifecycle.ShellTransitionResult.{ShellTransitionResult}
use Rattle.session_lifecycle.specs.declared.state.ShellLocalState.{ShellLocalState}
use Rattle.shell_player.specs.declared.session.ShellSession.{ShellSession}
use Rattle.shell_player.specs.declared.session.ShellTransition.{ShellTransition}
use Rattle.shell_player.specs.Steps.{next_session, after_transition}
use Rattle.session_apply.specs.Applied.{is_applied, StepsTo, Stepped, StepsInPlace}

next_is : (s : ShellSession) (r : ShellTransition) → r ≡ after_transition s r.result → r.session ≡ next_session s r.result.disposition r.result.state
unfolding after_transition
next_is s r e = ap (λ (t : ShellTransition). t.session) e

-- a session is its own next one where the answer is not Applied
unstored : (s : ShellSession) (d : ShellTransitionDisposition) (t : ShellLocalState) → is_applied d ≡ false → s ≡ next_session s d t
unfolding is_applied next_session
unstored s Applied t e = cc
unstored s NoChange t e = refl
unstored s Rejected t e = refl

untrue : (y : Bool) → T (not y) → y ≡ false
untrue true z = absurd z
untrue false z = refl

in_place_at : (s : ShellSession) (i : ShellTransitionInput) (r : ShellTransition) (t : ShellSession) → Stepped s i r → t ≡ r.session → StepsInPlace s i r.result t
in_place_at s i r t h e = record { stored = e ∙ next_is s r h.0; holding = subst (StepsTo s i r.result) (sym e) h.1.0; answered = h.1.1 }

module _ (s : ShellSession) (i : ShellTransitionInput) (r : ShellTransition) (by_value : Stepped s i r) where
  -- the next session is stored
  pub in_place_next : StepsInPlace s i r.result r.session
  in_place_next = in_place_at s i r r.session by_value refl

  -- and nothing is, where the answer is not Applied
  pub in_place_unstored : is_applied r.result.disposition ≡ false → StepsInPlace s i r.result s
  in_place_unstored e = in_place_at s i r s by_value (unstored s r.result.disposition r.result.state e ∙ sym (next_is s r by_value.0))

  -- or where a test of it fails
  pub in_place_same : (y : Bool) → y ≡ is_applied r.result.disposition → T (not y) → StepsInPlace s i r.result s
  in_place_same y e z = in_place_unstored (sym e ∙ untrue y z)

-- the same as a step by value
pub stepped : (s : ShellSession) (i : ShellTransitionInput) (r : ShellTransitionResult) (t : ShellSession) → StepsInPlace s i r t → Stepped s i (record { session = t; result = r })
unfolding after_transition
stepped s i r t h = (ap (λ (u : ShellSession). record { session = u; result = r }) h.stored, (h.holding, h.answered))
