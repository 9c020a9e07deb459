-- `set_availability` meets its contract: the availability's answer, with its counts.
use mathlib.Core.Path.{sym, ap, ◌∙◌}
use Rattle.std.specs.Prelude.{Err}
use Rattle.std.proofs.lemmas.Result.{err_from_is_err_and}
use Rattle.panel_operations.specs.OperationChange.{counted_change, availabilities_now}
use Rattle.panel_operations.proofs.set_availability.Goals as goal

pub returns : goal.returns
returns c =
    record { change = c.set_node_availability.result; told = sym (ap (counted_change (availabilities_now c.args.counts)) c.in_ok-availabilities.was); made = λ p s v. rw (sym c.raw.ensures) (c.set_node_availability.ensures.made p s v); kept = c.set_node_availability.ensures.kept }

pub returns-in_err-availabilities : goal.returns-in_err-availabilities
returns-in_err-availabilities c =
    let answer = err_from_is_err_and c.from_residual.result c.from_residual.ensures.1 in
    record { change = c.set_node_availability.result; told = answer.1 ∙ ap Err answer.2 ∙ sym (ap (counted_change (availabilities_now c.args.counts)) c.in_err-availabilities.was); made = λ p s v. rw (sym c.raw.ensures) (c.set_node_availability.ensures.made p s v); kept = c.set_node_availability.ensures.kept }
