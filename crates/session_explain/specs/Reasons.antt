-- What the reasons of spec_explain are as the types of this crate.
use Rattle.std.specs.Prelude.{ℕ, Result, Ok, Err, eqb, if◌then◌else◌}
use Rattle.std.specs.Prelude as code
use Rattle.std.proofs.Math.Option.{Option, none, some}
use Rattle.spec_session.specs.Session.{Limits}
use Rattle.spec_session.specs.Batch.{BatchEnvelope}
use Rattle.spec_explain.specs.OperationRule as operations
use Rattle.spec_explain.specs.Reason as model
use Rattle.spec_explain.specs.Explain as explaining
use Rattle.spec_lists.specs.Options.{optional_to}
use Rattle.patch_locate.specs.Answers.{unread_to}
use Rattle.check_set.specs.CheckAnswers.{place_to}
use Rattle.patch_locate.specs.declared.rules.Stop.{Stop}
use Rattle.projection_patch.specs.declared.read_values.ProjectionPatchReadFault.{ProjectionPatchReadFault}
use Rattle.session_explain.specs.declared.reasons.DeclaredLimit.{DeclaredLimit}
use Rattle.session_explain.specs.declared.reasons.DeclaredLimit.TheVariants as limits
use Rattle.session_explain.specs.declared.reasons.OperationRule.{OperationRule}
use Rattle.session_explain.specs.declared.reasons.OperationRule.TheVariants as rules
use Rattle.session_explain.specs.declared.reasons.BatchReason.{BatchReason}
use Rattle.session_explain.specs.declared.reasons.BatchReason.TheVariants as reasons
use Rattle.session_explain.specs.declared.reasons.BatchExplanation.{BatchExplanation}
use Rattle.session_explain.specs.declared.reasons.BatchExplanation.TheVariants as explanations

abbrev pub limit_to : model.Limit → DeclaredLimit
limit_to model.patch_limit = limits.Patches
limit_to model.byte_limit = limits.Bytes
limit_to model.both_limits = limits.Both

abbrev pub operation_rule_to : operations.OperationRule → OperationRule
operation_rule_to operations.key_present = rules.KeyPresent
operation_rule_to operations.key_absent = rules.KeyAbsent
operation_rule_to operations.neighbour_absent = rules.NeighbourAbsent
operation_rule_to operations.bindings_full = rules.BindingsFull
operation_rule_to operations.availabilities_full = rules.AvailabilitiesFull
operation_rule_to operations.entries_full = rules.EntriesFull

abbrev pub reason_to : model.Reason → BatchReason
reason_to (model.foreign_session named own) = reasons.ForeignSession named own
reason_to model.session_closed = reasons.SessionClosed
reason_to (model.declared_limits w a b c d) = reasons.DeclaredLimits (limit_to w) a b c d
reason_to (model.unreadable u) = reasons.Unreadable (unread_to u)
reason_to (model.has_findings place n f) = reasons.HasFindings (place_to place) n f.kind f.domain f.secondary
reason_to (model.counts_differ a b c d) = reasons.CountsDiffer a b c d
reason_to (model.references_over a b) = reasons.ReferencesOver a b
reason_to (model.unknown_target n i j) = reasons.UnknownTarget n i j
reason_to (model.cursor_mismatch t) = reasons.CursorMismatch (optional_to t)
reason_to (model.operation_fails i j r) = reasons.OperationFails i j (operation_rule_to r)

-- declared figures over their limits
abbrev pub over_to : DeclaredLimit → Limits → BatchEnvelope → BatchReason
over_to which l e = reasons.DeclaredLimits which e.patches l.patches e.stimulus_bytes l.stimulus_bytes

abbrev pub found_to : Option model.Reason → Result (Unit {0}) BatchReason
found_to none = Ok tt
found_to (some r) = Err (reason_to r)

-- what a step's test comes to
abbrev pub step_to : explaining.Explained (Unit {0}) → Result (Unit {0}) BatchReason
step_to (explaining.fine u) = Ok tt
step_to (explaining.because r) = Err (reason_to r)

abbrev pub explanation_to : explaining.Explanation → BatchExplanation
explanation_to explaining.no_reason = explanations.None
explanation_to explaining.withheld = explanations.Withheld
explanation_to (explaining.given r) = explanations.Given (reason_to r)

-- the reason of the first that refuses
abbrev pub first_to : Result (Unit {0}) BatchReason → Result (Unit {0}) BatchReason → Result (Unit {0}) BatchReason
first_to (Ok tt) second = second
first_to (Err r) second = Err r

-- with a cap of 0 the reason is withheld
abbrev pub capped_to : ℕ → Result (Unit {0}) BatchReason → BatchExplanation
capped_to cap (Ok tt) = explanations.None
capped_to cap (Err r) = if eqb cap 0 then explanations.Withheld else explanations.Given r

-- ---- what the searches of a step come to; a set that a step looks into is read

abbrev pub located_to : Result (Unit {0}) Stop → Result (Unit {0}) BatchReason
located_to (Ok u) = Ok tt
located_to (Err stop) = Err (reasons.Unreadable stop)

abbrev pub targets_to : ℕ → Result (code.Option (ℕ × ℕ)) ProjectionPatchReadFault → Result (Unit {0}) BatchReason
targets_to n (Ok code.None) = Ok tt
targets_to n (Ok (code.Some (i, j))) = Err (reasons.UnknownTarget n i j)
targets_to n (Err f) = Ok tt

abbrev pub operations_to : Result (code.Option (ℕ × ℕ × OperationRule)) ProjectionPatchReadFault → Result (Unit {0}) BatchReason
operations_to (Ok code.None) = Ok tt
operations_to (Ok (code.Some (i, j, r))) = Err (reasons.OperationFails i j r)
operations_to (Err f) = Ok tt
