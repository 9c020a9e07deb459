-- `move_before` meets its contract: the move's answer, with its counts.
use mathlib.Core.Path.{sym, ap, ◌∙◌}
use Rattle.std.specs.Prelude.{Err}
use Rattle.std.proofs.lemmas.Result.{err_from_is_err_and}
use Rattle.projection_patch.proofs.contract_primitives.CollectionKey.raw.Reads as contract-primitives-CollectionKey-raw-reads
use Rattle.projection_patch.proofs.contract_primitives.StaticNodeId.raw.Reads as contract-primitives-StaticNodeId-raw-reads
use Rattle.panel_operations.specs.OperationChange.{counted_change, entries_now}
use Rattle.panel_operations.proofs.move_before.Goals as goal

pub returns : goal.returns
returns c =
    record { change = c.move_entry.result; told = sym (ap (counted_change (entries_now c.args.counts)) c.in_ok-entries.was); made = λ p s v. rw (sym c.raw.ensures, sym c.raw-2.ensures) (c.move_entry.ensures.made p s v); kept = c.move_entry.ensures.kept }

pub returns-in_err-entries : goal.returns-in_err-entries
returns-in_err-entries c =
    let answer = err_from_is_err_and c.from_residual.result c.from_residual.ensures.1 in
    record { change = c.move_entry.result; told = answer.1 ∙ ap Err answer.2 ∙ sym (ap (counted_change (entries_now c.args.counts)) c.in_err-entries.was); made = λ p s v. rw (sym c.raw.ensures, sym c.raw-2.ensures) (c.move_entry.ensures.made p s v); kept = c.move_entry.ensures.kept }
