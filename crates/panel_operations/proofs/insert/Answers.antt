-- `insert` meets its contract: the insertion's answer, with its counts.
use mathlib.Core.Path.{sym, ap, ◌∙◌}
use Rattle.std.specs.Prelude.{Err}
use Rattle.std.proofs.lemmas.Result.{err_from_is_err_and}
use Rattle.projection_patch.proofs.contract_primitives.CollectionKey.raw.Reads as contract-primitives-CollectionKey-raw-reads
use Rattle.projection_patch.proofs.contract_primitives.StaticNodeId.raw.Reads as contract-primitives-StaticNodeId-raw-reads
use Rattle.panel_operations.specs.OperationChange.{counted_change, entries_now}
use Rattle.panel_operations.proofs.insert.Goals as goal

pub returns : goal.returns
returns c =
    record { change = c.insert_entry.result; told = sym (ap (counted_change (entries_now c.args.counts)) c.in_ok-more.was); made = λ p s v. rw (sym c.raw.ensures, sym c.raw-2.ensures) (c.insert_entry.ensures.made p s v); kept = c.insert_entry.ensures.kept }

pub returns-in_err-more : goal.returns-in_err-more
returns-in_err-more c =
    let answer = err_from_is_err_and c.from_residual.result c.from_residual.ensures.1 in
    record { change = c.insert_entry.result; told = answer.1 ∙ ap Err answer.2 ∙ sym (ap (counted_change (entries_now c.args.counts)) c.in_err-more.was); made = λ p s v. rw (sym c.raw.ensures, sym c.raw-2.ensures) (c.insert_entry.ensures.made p s v); kept = c.insert_entry.ensures.kept }
