-- `evaluate_lifecycle_transition` meets its contract: the step enters a lifecycle or refuses.
use Rattle.std.specs.Prelude.{Result}
use Rattle.std.proofs.Common.{sym, ap, ◌∙◌}
use Rattle.spec_session.specs.Lifecycle.{LifecycleStep, LifecycleAnswer}
use Rattle.session_lifecycle.specs.declared.state.ShellLifecycle.{ShellLifecycle}
use Rattle.session_lifecycle.specs.declared.diagnostics.ShellRefusal.{ShellRefusal}
use Rattle.session_lifecycle.specs.Meaning.{entered_or_refused, bare, limits_of, shell_state_of, stimulus_of}
use Rattle.session_lifecycle.proofs.lifecycle.evaluate_lifecycle_transition.Goals as goal

pub returns-in-Ok : goal.returns-in-Ok
returns-in-Ok c =
    let answer : Result ShellLifecycle ShellRefusal → LifecycleAnswer = λ r. (entered_or_refused (bare (limits_of c.args.limits) (shell_state_of c.args.previous)) (stimulus_of c.args.input.stimulus) c.args.input.stimulus_bytes r).answer in
    c.enter.ensures _ ∙ sym (ap answer c.in-Ok.is) ∙ ap (λ (x : LifecycleStep). x.answer) c.entered_lifecycle.ensures

pub returns-in-Err : goal.returns-in-Err
returns-in-Err c =
    let answer : Result ShellLifecycle ShellRefusal → LifecycleAnswer = λ r. (entered_or_refused (bare (limits_of c.args.limits) (shell_state_of c.args.previous)) (stimulus_of c.args.input.stimulus) c.args.input.stimulus_bytes r).answer in
    c.reject.ensures ∙ sym (ap answer c.in-Err.is) ∙ ap (λ (x : LifecycleStep). x.answer) c.entered_lifecycle.ensures
