-- What a reason of the model is turned into stands for that reason.
use Rattle.std.specs.Prelude.{◌≡◌, refl, ℕ}
use Rattle.std.proofs.Common.{ap, ap₂}
use Rattle.std.proofs.Math.Option.{Option, none, some}
use Rattle.spec_checks.specs.Findings.{Place, in_patch, in_set}
use Rattle.spec_explain.specs.ReadingRule as readings
use Rattle.spec_explain.specs.OperationRule as operations
use Rattle.spec_explain.specs.Reason as model
use Rattle.spec_explain.specs.Explain.{Explanation, no_reason, withheld, given}
use Rattle.spec_lists.specs.Options.{optional_to, optional_of}
use Rattle.patch_locate.specs.Answers.{rule_to, reading_rule_of, inside_to, inside_of}
use Rattle.check_set.specs.CheckAnswers.{place_to}
use Rattle.session_explain.specs.Reasons.{limit_to, operation_rule_to, reason_to, explanation_to}
use Rattle.session_explain.specs.Meaning.{finding_place_of, limit_of, operation_rule_of, printed_reason_of, explanation_of}

rule_back : (r : readings.ReadingRule) → reading_rule_of (rule_to r) ≡ r
rule_back readings.set_too_long = refl
rule_back readings.wrong_heading = refl
rule_back readings.too_few_bytes = refl
rule_back readings.operation_tag = refl
rule_back readings.value_kind = refl
rule_back readings.optional_tag = refl
rule_back readings.availability_tag = refl
rule_back readings.quad_tag = refl
rule_back readings.score_range = refl
rule_back readings.not_utf8 = refl
rule_back readings.patch_count = refl
rule_back readings.operation_count_lem = refl
rule_back readings.text_length = refl
rule_back readings.character_count = refl
rule_back readings.bytes_left = refl

inside_back : (i : readings.Inside) → inside_of (inside_to i) ≡ i
inside_back readings.outside = refl
inside_back (readings.in_patch i) = refl
inside_back (readings.in_operation i j) = refl

place_back : (p : Place) → finding_place_of (place_to p) ≡ p
place_back (in_patch i) = refl
place_back in_set = refl

limit_back : (w : model.Limit) → limit_of (limit_to w) ≡ w
limit_back model.patch_limit = refl
limit_back model.byte_limit = refl
limit_back model.both_limits = refl

operation_back : (r : operations.OperationRule) → operation_rule_of (operation_rule_to r) ≡ r
operation_back operations.key_present = refl
operation_back operations.key_absent = refl
operation_back operations.neighbour_absent = refl
operation_back operations.bindings_full = refl
operation_back operations.availabilities_full = refl
operation_back operations.entries_full = refl

takes_back : (t : Option ℕ) → optional_of (optional_to t) ≡ t
takes_back none = refl
takes_back (some n) = refl

reason_back : (r : model.Reason) → printed_reason_of (reason_to r) ≡ r
reason_back (model.foreign_session named own) = refl
reason_back model.session_closed = refl
reason_back (model.declared_limits w a b c d) = ap (λ (x : model.Limit). model.declared_limits x a b c d) (limit_back w)
reason_back (model.unreadable u) =
    ap₂ (λ (rule : readings.ReadingRule) (inside : readings.Inside). model.unreadable (record { rule = rule; inside = inside; position = u.position })) (rule_back u.rule) (inside_back u.inside)
reason_back (model.has_findings place n f) = ap (λ (p : Place). model.has_findings p n f) (place_back place)
reason_back (model.counts_differ a b c d) = refl
reason_back (model.references_over a b) = refl
reason_back (model.unknown_target n i j) = refl
reason_back (model.cursor_mismatch t) = ap model.cursor_mismatch (takes_back t)
reason_back (model.operation_fails i j r) = ap (model.operation_fails i j) (operation_back r)

pub explanation_back : (e : Explanation) → explanation_of (explanation_to e) ≡ e
explanation_back no_reason = refl
explanation_back withheld = refl
explanation_back (given r) = ap given (reason_back r)
