-- `set_binding` meets its contract: the binding's answer, with its counts.
use mathlib.Core.Path.{sym, ap, ◌∙◌}
use Rattle.std.specs.Prelude.{Err}
use Rattle.std.proofs.lemmas.Result.{err_from_is_err_and}
use Rattle.panel_operations.specs.OperationChange.{counted_change, bindings_now}
use Rattle.panel_operations.proofs.set_binding.Goals as goal

pub returns : goal.returns
returns c =
    record { change = c.set_binding_source.result; told = sym (ap (counted_change (bindings_now c.args.counts)) c.in_ok-bindings.was); made = λ p s v. rw (sym c.raw.ensures) (c.set_binding_source.ensures.made p s v); kept = c.set_binding_source.ensures.kept }

pub returns-in_err-bindings : goal.returns-in_err-bindings
returns-in_err-bindings c =
    let answer = err_from_is_err_and c.from_residual.result c.from_residual.ensures.1 in
    record { change = c.set_binding_source.result; told = answer.1 ∙ ap Err answer.2 ∙ sym (ap (counted_change (bindings_now c.args.counts)) c.in_err-bindings.was); made = λ p s v. rw (sym c.raw.ensures) (c.set_binding_source.ensures.made p s v); kept = c.set_binding_source.ensures.kept }
