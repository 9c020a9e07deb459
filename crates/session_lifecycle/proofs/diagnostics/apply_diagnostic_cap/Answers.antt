-- `apply_diagnostic_cap` meets its contract, by whether a diagnostic is emitted.
use Rattle.std.proofs.Common.{ap, ◌∙◌}
use Rattle.spec_session.specs.Diagnostics.{Diagnostics}
use Rattle.session_lifecycle.specs.DiagnosticsLaws.{none_emitted, some_emitted}
use Rattle.session_lifecycle.proofs.diagnostics.apply_diagnostic_cap.Goals as goal

pub returns-then-emitted-eq0 : goal.returns-then-emitted-eq0
returns-then-emitted-eq0 c =
    ap (λ (d : Diagnostics). record d { logical = c.args.logical }) c.no_diagnostics.ensures ∙ none_emitted _ _ _ _ c.min-emitted.ensures c.if-emitted-eq0.true

pub returns : goal.returns
returns c = rw (c.number.ensures, c.evaluation_stage.ensures) (some_emitted _ _ _ _ c.min-emitted.ensures c.if-emitted-eq0.false)
