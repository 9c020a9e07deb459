-- 01's numbers of the reasons, by the types of the code.
use Rattle.std.specs.Prelude.{ℕ, ◌≡◌, refl}
use Rattle.spec_explain.specs.ReadingRule.{Inside}
use Rattle.spec_explain.specs.Reason.{unreadable, reason_number}
use Rattle.patch_locate.specs.Answers.{reading_rule_of, inside_of}
use Rattle.patch_locate.specs.declared.rules.ReadingRule.{ReadingRule}
use Rattle.patch_locate.specs.declared.rules.ReadingRule.TheVariants as readings
use Rattle.session_explain.specs.declared.reasons.OperationRule.{OperationRule}
use Rattle.session_explain.specs.declared.reasons.OperationRule.TheVariants as rules
use Rattle.session_explain.specs.declared.reasons.BatchReason.{BatchReason}
use Rattle.session_explain.specs.declared.reasons.BatchReason.TheVariants as reasons
use Rattle.spec_session.specs.Diagnostics.{session_number}
use Rattle.session_explain.specs.Meaning.{printed_reason_of}

abbrev pub reading_number_told : ReadingRule → ℕ
reading_number_told readings.SetTooLong = 12
reading_number_told readings.WrongHeading = 10
reading_number_told readings.TooFewBytes = 10
reading_number_told readings.OperationTag = 10
reading_number_told readings.ValueKind = 10
reading_number_told readings.OptionalTag = 10
reading_number_told readings.AvailabilityTag = 10
reading_number_told readings.QuadTag = 10
reading_number_told readings.ScoreRange = 10
reading_number_told readings.NotUtf8 = 10
reading_number_told readings.PatchCount = 12
reading_number_told readings.OperationCount = 12
reading_number_told readings.TextLength = 12
reading_number_told readings.CharacterCount = 12
reading_number_told readings.BytesLeft = 10

abbrev pub operation_number_told : OperationRule → ℕ
operation_number_told rules.KeyPresent = 8
operation_number_told rules.KeyAbsent = 8
operation_number_told rules.NeighbourAbsent = 8
operation_number_told rules.BindingsFull = 9
operation_number_told rules.AvailabilitiesFull = 9
operation_number_told rules.EntriesFull = 9

abbrev pub number_told : BatchReason → ℕ
number_told (reasons.ForeignSession named own) = 1
number_told reasons.SessionClosed = 2
number_told (reasons.DeclaredLimits w a b c d) = 4
number_told (reasons.Unreadable stop) = reading_number_told stop.rule
number_told (reasons.HasFindings place n k d s) = 11
number_told (reasons.CountsDiffer a b c d) = 5
number_told (reasons.ReferencesOver a b) = 4
number_told (reasons.UnknownTarget n i j) = 6
number_told (reasons.CursorMismatch t) = 7
number_told (reasons.OperationFails i j r) = operation_number_told r

reading_is : (r : ReadingRule) (i : Inside) (p : ℕ) → reading_number_told r ≡ reason_number (unreadable (record { rule = reading_rule_of r; inside = i; position = p }))
reading_is readings.SetTooLong i p = refl
reading_is readings.WrongHeading i p = refl
reading_is readings.TooFewBytes i p = refl
reading_is readings.OperationTag i p = refl
reading_is readings.ValueKind i p = refl
reading_is readings.OptionalTag i p = refl
reading_is readings.AvailabilityTag i p = refl
reading_is readings.QuadTag i p = refl
reading_is readings.ScoreRange i p = refl
reading_is readings.NotUtf8 i p = refl
reading_is readings.PatchCount i p = refl
reading_is readings.OperationCount i p = refl
reading_is readings.TextLength i p = refl
reading_is readings.CharacterCount i p = refl
reading_is readings.BytesLeft i p = refl

-- it is the number of the refusal that the reason is behind
pub number_is : (r : BatchReason) → number_told r ≡ reason_number (printed_reason_of r)
number_is (reasons.ForeignSession named own) = refl
number_is reasons.SessionClosed = refl
number_is (reasons.DeclaredLimits w a b c d) = refl
number_is (reasons.HasFindings place n k d s) = refl
number_is (reasons.CountsDiffer a b c d) = refl
number_is (reasons.ReferencesOver a b) = refl
number_is (reasons.UnknownTarget n i j) = refl
number_is (reasons.CursorMismatch t) = refl
number_is (reasons.Unreadable stop) = reading_is stop.rule (inside_of stop.inside) stop.at
number_is (reasons.OperationFails i j rules.KeyPresent) = refl
number_is (reasons.OperationFails i j rules.KeyAbsent) = refl
number_is (reasons.OperationFails i j rules.NeighbourAbsent) = refl
number_is (reasons.OperationFails i j rules.BindingsFull) = refl
number_is (reasons.OperationFails i j rules.AvailabilitiesFull) = refl
number_is (reasons.OperationFails i j rules.EntriesFull) = refl
