-- What the reasons of the code stand for in spec_explain.
use Rattle.spec_checks.specs.Findings.{Place, in_patch, in_set}
use Rattle.spec_explain.specs.OperationRule as operations
use Rattle.spec_explain.specs.Reason as model
use Rattle.spec_explain.specs.Explain as explaining
use Rattle.spec_lists.specs.Options.{optional_of}
use Rattle.patch_locate.specs.Answers.{unread_of}
use Rattle.check_set.specs.declared.check_set.CheckPlace.{CheckPlace}
use Rattle.check_set.specs.declared.check_set.CheckPlace.TheVariants as places
use Rattle.session_explain.specs.declared.reasons.DeclaredLimit.{DeclaredLimit}
use Rattle.session_explain.specs.declared.reasons.DeclaredLimit.TheVariants as limits
use Rattle.session_explain.specs.declared.reasons.OperationRule.{OperationRule}
use Rattle.session_explain.specs.declared.reasons.OperationRule.TheVariants as rules
use Rattle.session_explain.specs.declared.reasons.BatchReason.{BatchReason}
use Rattle.session_explain.specs.declared.reasons.BatchReason.TheVariants as reasons
use Rattle.session_explain.specs.declared.reasons.BatchExplanation.{BatchExplanation}
use Rattle.session_explain.specs.declared.reasons.BatchExplanation.TheVariants as explanations

abbrev pub finding_place_of : CheckPlace → Place
finding_place_of (places.Patch i) = in_patch i
finding_place_of places.Set = in_set

abbrev pub limit_of : DeclaredLimit → model.Limit
limit_of limits.Patches = model.patch_limit
limit_of limits.Bytes = model.byte_limit
limit_of limits.Both = model.both_limits

abbrev pub operation_rule_of : OperationRule → operations.OperationRule
operation_rule_of rules.KeyPresent = operations.key_present
operation_rule_of rules.KeyAbsent = operations.key_absent
operation_rule_of rules.NeighbourAbsent = operations.neighbour_absent
operation_rule_of rules.BindingsFull = operations.bindings_full
operation_rule_of rules.AvailabilitiesFull = operations.availabilities_full
operation_rule_of rules.EntriesFull = operations.entries_full

abbrev pub printed_reason_of : BatchReason → model.Reason
printed_reason_of (reasons.ForeignSession named own) = model.foreign_session named own
printed_reason_of reasons.SessionClosed = model.session_closed
printed_reason_of (reasons.DeclaredLimits w a b c d) = model.declared_limits (limit_of w) a b c d
printed_reason_of (reasons.Unreadable stop) = model.unreadable (unread_of stop)
printed_reason_of (reasons.HasFindings place n k d s) = model.has_findings (finding_place_of place) n (record { kind = k; domain = d; secondary = s })
printed_reason_of (reasons.CountsDiffer a b c d) = model.counts_differ a b c d
printed_reason_of (reasons.ReferencesOver a b) = model.references_over a b
printed_reason_of (reasons.UnknownTarget n i j) = model.unknown_target n i j
printed_reason_of (reasons.CursorMismatch t) = model.cursor_mismatch (optional_of t)
printed_reason_of (reasons.OperationFails i j r) = model.operation_fails i j (operation_rule_of r)

abbrev pub explanation_of : BatchExplanation → explaining.Explanation
explanation_of explanations.None = explaining.no_reason
explanation_of explanations.Withheld = explaining.withheld
explanation_of (explanations.Given r) = explaining.given (printed_reason_of r)
