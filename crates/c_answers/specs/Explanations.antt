-- What the call that explains a batch answers, as numbers: the rule has 01's number and one of its own, from 1 to 31 in the order of the words below.
use Rattle.std.specs.Prelude as code
use Rattle.std.specs.Prelude.{ℕ, ◌-◌, ◌≡◌, refl, List, [], ◌∷◌, get_or}
use Rattle.std.proofs.Math.Option.{Option, none, some}
use Rattle.spec_listing.specs.Ascii.{ascii}
use Rattle.spec_checks.specs.Findings as places
use Rattle.spec_explain.specs.ReadingRule as readings
use Rattle.spec_explain.specs.OperationRule as operations
use Rattle.spec_explain.specs.Reason as model
use Rattle.spec_explain.specs.Reason.{reason_number, reason_word}
use Rattle.spec_explain.specs.Explain as explaining
use Rattle.session_explain.specs.Meaning.{explanation_of}
use Rattle.session_explain.specs.declared.reasons.BatchExplanation.{BatchExplanation}
use Rattle.c_answers.specs.declared.figures.GeysertrayRulePlace.{GeysertrayRulePlace}
use Rattle.c_answers.specs.declared.figures.GeysertrayFigures.{GeysertrayFigures}
use Rattle.c_answers.specs.declared.explanations.GeysertrayExplanation.{GeysertrayExplanation}

-- ---- the number of a rule

abbrev pub limit_rule : model.Limit → ℕ
limit_rule model.patch_limit = 3
limit_rule model.byte_limit = 4
limit_rule model.both_limits = 5

abbrev pub reading_rule : readings.ReadingRule → ℕ
reading_rule readings.set_too_long = 6
reading_rule readings.wrong_heading = 7
reading_rule readings.too_few_bytes = 8
reading_rule readings.operation_tag = 9
reading_rule readings.value_kind = 10
reading_rule readings.optional_tag = 11
reading_rule readings.availability_tag = 12
reading_rule readings.quad_tag = 13
reading_rule readings.score_range = 14
reading_rule readings.not_utf8 = 15
reading_rule readings.patch_count = 16
reading_rule readings.operation_count_lem = 17
reading_rule readings.text_length = 18
reading_rule readings.character_count = 19
reading_rule readings.bytes_left = 20

abbrev pub operation_rule : operations.OperationRule → ℕ
operation_rule operations.key_present = 26
operation_rule operations.key_absent = 27
operation_rule operations.neighbour_absent = 28
operation_rule operations.bindings_full = 29
operation_rule operations.availabilities_full = 30
operation_rule operations.entries_full = 31

abbrev pub rule_number : model.Reason → ℕ
rule_number (model.foreign_session named own) = 1
rule_number model.session_closed = 2
rule_number (model.declared_limits w a b c d) = limit_rule w
rule_number (model.unreadable u) = reading_rule u.rule
rule_number (model.has_findings place n f) = 21
rule_number (model.counts_differ a b c d) = 22
rule_number (model.references_over a b) = 23
rule_number (model.unknown_target n i j) = 24
rule_number (model.cursor_mismatch t) = 25
rule_number (model.operation_fails i j r) = operation_rule r

-- the words of the rules 1 to 31
abbrev pub rule_words : List (List ℕ)
rule_words =
    ascii "foreign-session"
    ∷ ascii "closed"
    ∷ ascii "declared-patches"
    ∷ ascii "declared-bytes"
    ∷ ascii "declared-patches-and-bytes"
    ∷ ascii "set-too-long"
    ∷ ascii "heading"
    ∷ ascii "too-few-bytes"
    ∷ ascii "operation-tag"
    ∷ ascii "value-kind"
    ∷ ascii "optional"
    ∷ ascii "availability"
    ∷ ascii "quad"
    ∷ ascii "score"
    ∷ ascii "text-not-utf8"
    ∷ ascii "patch-count"
    ∷ ascii "operation-count"
    ∷ ascii "text-length"
    ∷ ascii "text-characters"
    ∷ ascii "bytes-left"
    ∷ ascii "findings"
    ∷ ascii "counts-differ"
    ∷ ascii "references"
    ∷ ascii "unknown-target"
    ∷ ascii "cursor"
    ∷ ascii "key-present"
    ∷ ascii "key-absent"
    ∷ ascii "neighbour-absent"
    ∷ ascii "bindings-full"
    ∷ ascii "availabilities-full"
    ∷ ascii "entries-full"
    ∷ []

-- ---- where the rule was broken

abbrev pub in_no_patch : GeysertrayRulePlace
in_no_patch = record { has_patch = 0; patch = 0; has_operation = 0; operation = 0 }

abbrev pub in_one_patch : ℕ → GeysertrayRulePlace
in_one_patch i = record { has_patch = 1; patch = i; has_operation = 0; operation = 0 }

abbrev pub in_one_operation : (patch operation : ℕ) → GeysertrayRulePlace
in_one_operation i j = record { has_patch = 1; patch = i; has_operation = 1; operation = j }

abbrev pub inside_place : readings.Inside → GeysertrayRulePlace
inside_place readings.outside = in_no_patch
inside_place (readings.in_patch i) = in_one_patch i
inside_place (readings.in_operation i j) = in_one_operation i j

abbrev pub findings_place : places.Place → GeysertrayRulePlace
findings_place (places.in_patch i) = in_one_patch i
findings_place places.in_set = in_no_patch

abbrev pub rule_place : model.Reason → GeysertrayRulePlace
rule_place (model.foreign_session named own) = in_no_patch
rule_place model.session_closed = in_no_patch
rule_place (model.declared_limits w a b c d) = in_no_patch
rule_place (model.unreadable u) = inside_place u.inside
rule_place (model.has_findings place n f) = findings_place place
rule_place (model.counts_differ a b c d) = in_no_patch
rule_place (model.references_over a b) = in_no_patch
rule_place (model.unknown_target n i j) = in_one_operation i j
rule_place (model.cursor_mismatch t) = in_no_patch
rule_place (model.operation_fails i j r) = in_one_operation i j

-- ---- the figures that it went by

abbrev pub figures_to : (count first second third fourth : ℕ) → GeysertrayFigures
figures_to n a b c d = record { count = n; first = a; second = b; third = c; fourth = d }

-- no figure where the cursor takes no number
abbrev pub taken_figure : Option ℕ → GeysertrayFigures
taken_figure none = figures_to 0 0 0 0 0
taken_figure (some n) = figures_to 1 n 0 0 0

abbrev pub rule_figures : model.Reason → GeysertrayFigures
rule_figures (model.foreign_session named own) = figures_to 2 named own 0 0
rule_figures model.session_closed = figures_to 0 0 0 0 0
rule_figures (model.declared_limits w a b c d) = figures_to 4 a b c d
rule_figures (model.unreadable u) = figures_to 1 u.position 0 0 0
rule_figures (model.has_findings place n f) = figures_to 4 n f.kind f.domain f.secondary
rule_figures (model.counts_differ a b c d) = figures_to 4 a b c d
rule_figures (model.references_over a b) = figures_to 2 a b 0 0
rule_figures (model.unknown_target n i j) = figures_to 1 n 0 0 0
rule_figures (model.cursor_mismatch t) = taken_figure t
rule_figures (model.operation_fails i j r) = figures_to 0 0 0 0 0

-- ---- the answer

-- nothing is explained: 0 the batch would be taken, 2 the rule is withheld, 3 no session, 4 no such edition
abbrev pub not_explained : ℕ → GeysertrayExplanation
not_explained d = record { disposition = d; number = 0; rule = 0; place = in_no_patch; figures = figures_to 0 0 0 0 0 }

abbrev pub explanation_told : explaining.Explanation → GeysertrayExplanation
explanation_told explaining.no_reason = not_explained 0
explanation_told explaining.withheld = not_explained 2
explanation_told (explaining.given r) = record { disposition = 2; number = reason_number r; rule = rule_number r; place = rule_place r; figures = rule_figures r }

abbrev pub lent_explanation_told : code.Option BatchExplanation → GeysertrayExplanation
lent_explanation_told (code.Some x) = explanation_told (explanation_of x)
lent_explanation_told code.None = not_explained 3

-- ---- the number of a rule tells its word

reading_at : (r : readings.ReadingRule) → get_or rule_words (reading_rule r - 1) [] ≡ readings.reading_word r
reading_at readings.set_too_long = refl
reading_at readings.wrong_heading = refl
reading_at readings.too_few_bytes = refl
reading_at readings.operation_tag = refl
reading_at readings.value_kind = refl
reading_at readings.optional_tag = refl
reading_at readings.availability_tag = refl
reading_at readings.quad_tag = refl
reading_at readings.score_range = refl
reading_at readings.not_utf8 = refl
reading_at readings.patch_count = refl
reading_at readings.operation_count_lem = refl
reading_at readings.text_length = refl
reading_at readings.character_count = refl
reading_at readings.bytes_left = refl

pub word_at : (r : model.Reason) → get_or rule_words (rule_number r - 1) [] ≡ reason_word r
word_at (model.foreign_session named own) = refl
word_at model.session_closed = refl
word_at (model.declared_limits model.patch_limit a b c d) = refl
word_at (model.declared_limits model.byte_limit a b c d) = refl
word_at (model.declared_limits model.both_limits a b c d) = refl
word_at (model.unreadable u) = reading_at u.rule
word_at (model.has_findings place n f) = refl
word_at (model.counts_differ a b c d) = refl
word_at (model.references_over a b) = refl
word_at (model.unknown_target n i j) = refl
word_at (model.cursor_mismatch t) = refl
word_at (model.operation_fails i j operations.key_present) = refl
word_at (model.operation_fails i j operations.key_absent) = refl
word_at (model.operation_fails i j operations.neighbour_absent) = refl
word_at (model.operation_fails i j operations.bindings_full) = refl
word_at (model.operation_fails i j operations.availabilities_full) = refl
word_at (model.operation_fails i j operations.entries_full) = refl
