-- Why a batch is refused: the rule, and the figures that it went by. Each reason has the number of the refusal that it is behind, and a word.
use Rattle.std.specs.Prelude.{ℕ, List}
use Rattle.std.proofs.Math.Option.{Option}
use Rattle.spec_listing.specs.Ascii.{ascii}
use Rattle.spec_checks.specs.Finding.{Finding}
use Rattle.spec_checks.specs.Findings.{Place}
use Rattle.spec_session.specs.Diagnostics as session
use Rattle.spec_session.specs.Diagnostics.{SessionRefusal, session_number, of_reading, of_operation}
use Rattle.spec_explain.specs.ReadingRule.{rule_fault, reading_word, Unread}
use Rattle.spec_explain.specs.OperationRule.{OperationRule, operation_fault, operation_word}

-- which of the declared figures is over its limit
pub data Limit : Type 0 where
  patch_limit byte_limit both_limits : Limit

-- in the order of 01's steps
pub data Reason : Type 0 where
  foreign_session : (named own : ℕ) → Reason
  session_closed : Reason
  declared_limits : Limit → (patches patchesLimit bytes bytesLimit : ℕ) → Reason
  unreadable : Unread → Reason
  has_findings : Place → (count : ℕ) → (first : Finding) → Reason
  counts_differ : (patches actualPatches references actualReferences : ℕ) → Reason
  references_over : (actual limit : ℕ) → Reason
  unknown_target : (count patch operation : ℕ) → Reason
  cursor_mismatch : (takes : Option ℕ) → Reason
  operation_fails : (patch operation : ℕ) → OperationRule → Reason

-- the refusal that a reason is behind
abbrev pub refusal_for : Reason → SessionRefusal
refusal_for (foreign_session named own) = session.session_mismatch
refusal_for session_closed = session.session_closed
refusal_for (declared_limits w a b c d) = session.limit_exceeded
refusal_for (unreadable u) = of_reading (rule_fault u.rule)
refusal_for (has_findings place n f) = session.checks_failed
refusal_for (counts_differ a b c d) = session.counts_differ
refusal_for (references_over a b) = session.limit_exceeded
refusal_for (unknown_target n i j) = session.unknown_target
refusal_for (cursor_mismatch t) = session.cursor_mismatch
refusal_for (operation_fails i j r) = of_operation (operation_fault r)

-- 01's number
abbrev pub reason_number : Reason → ℕ
reason_number r = session_number (refusal_for r)

-- how many diagnostics there are before the cap: as many as targets are unknown, else one
abbrev pub logical_of : Reason → ℕ
logical_of (foreign_session named own) = 1
logical_of session_closed = 1
logical_of (declared_limits w a b c d) = 1
logical_of (unreadable u) = 1
logical_of (has_findings place n f) = 1
logical_of (counts_differ a b c d) = 1
logical_of (references_over a b) = 1
logical_of (unknown_target n i j) = n
logical_of (cursor_mismatch t) = 1
logical_of (operation_fails i j r) = 1

-- a word for which limits were passed
abbrev pub limit_word : Limit → List ℕ
limit_word patch_limit = ascii "declared-patches"
limit_word byte_limit = ascii "declared-bytes"
limit_word both_limits = ascii "declared-patches-and-bytes"

-- the rule's name
abbrev pub reason_word : Reason → List ℕ
reason_word (foreign_session named own) = ascii "foreign-session"
reason_word session_closed = ascii "closed"
reason_word (declared_limits w a b c d) = limit_word w
reason_word (unreadable u) = reading_word u.rule
reason_word (has_findings place n f) = ascii "findings"
reason_word (counts_differ a b c d) = ascii "counts-differ"
reason_word (references_over a b) = ascii "references"
reason_word (unknown_target n i j) = ascii "unknown-target"
reason_word (cursor_mismatch t) = ascii "cursor"
reason_word (operation_fails i j r) = operation_word r
