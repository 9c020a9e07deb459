-- `ShellSession::transition` meets its contract: the state is stored where the answer is Applied.
use mathlib.Core.Path.{◌≡◌, sym, ap, subst, ◌∙◌}
use Rattle.spec_session.specs.Lifecycle.{lifecycle_step}
use Rattle.session_lifecycle.specs.Meaning.{stimulus_of}
use Rattle.shell_player.specs.Holds.{Holds}
use Rattle.shell_player.specs.declared.session.ShellSession.{ShellSession}
use Rattle.shell_player.specs.Steps.{with_state, next_session, after_transition}
use Rattle.shell_player.specs.StepsLaws.{state_stored, same_answer, next_holds}
use borrow.Author.Rules.{rules}
use Rattle.shell_player.proofs.session.ShellSession.transition.Goals as goal

pub returns : goal.returns
unfolding after_transition
returns c =
    let is : with_state c.args.self c.next_state-next.result ≡ next_session c.args.self c.evaluate_lifecycle_transition-result.result.disposition c.evaluate_lifecycle_transition-result.result.state = ap (with_state c.args.self) c.next_state-next.ensures ∙ state_stored c.args.self c.evaluate_lifecycle_transition-result.result.disposition c.evaluate_lifecycle_transition-result.result.state in record {
      whatever = ap (λ (s : ShellSession). record { session = s; result = c.evaluate_lifecycle_transition-result.result }) is;
      holding = λ m h. (
        same_answer c.args.self m h (stimulus_of c.args.input.stimulus) c.args.input.stimulus_bytes c.evaluate_lifecycle_transition-result.result c.evaluate_lifecycle_transition-result.ensures,
        subst (λ (s : ShellSession). Holds s (lifecycle_step m (stimulus_of c.args.input.stimulus) c.args.input.stimulus_bytes).next) (sym is) (next_holds c.args.self m h (stimulus_of c.args.input.stimulus) c.args.input.stimulus_bytes c.evaluate_lifecycle_transition-result.result c.evaluate_lifecycle_transition-result.ensures),
      );
      answered = c.evaluate_lifecycle_transition-result.ensures;
    }
