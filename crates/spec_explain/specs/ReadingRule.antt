-- The rules that end the reading of a set, and where reading ended: 01, 'Canonical bytes' and step 4, and 02, 'Job 5', 'Job 6' and 'Job 13'.
use Rattle.std.specs.Prelude.{ℕ, List}
use Rattle.spec_listing.specs.Ascii.{ascii}
use Rattle.spec_patch.specs.Reader.{Fault, malformed, over_capacity}

pub data ReadingRule : Type 0 where
  set_too_long wrong_heading too_few_bytes operation_tag value_kind optional_tag availability_tag quad_tag score_range : ReadingRule
  not_utf8 patch_count operation_count_lem text_length character_count bytes_left : ReadingRule

-- 12 for what is over a capacity, 10 for the rest
abbrev pub rule_fault : ReadingRule → Fault
rule_fault set_too_long = over_capacity
rule_fault wrong_heading = malformed
rule_fault too_few_bytes = malformed
rule_fault operation_tag = malformed
rule_fault value_kind = malformed
rule_fault optional_tag = malformed
rule_fault availability_tag = malformed
rule_fault quad_tag = malformed
rule_fault score_range = malformed
rule_fault not_utf8 = malformed
rule_fault patch_count = over_capacity
rule_fault operation_count_lem = over_capacity
rule_fault text_length = over_capacity
rule_fault character_count = over_capacity
rule_fault bytes_left = malformed

-- the word of each rule
abbrev pub reading_word : ReadingRule → List ℕ
reading_word set_too_long = ascii "set-too-long"
reading_word wrong_heading = ascii "heading"
reading_word too_few_bytes = ascii "too-few-bytes"
reading_word operation_tag = ascii "operation-tag"
reading_word value_kind = ascii "value-kind"
reading_word optional_tag = ascii "optional"
reading_word availability_tag = ascii "availability"
reading_word quad_tag = ascii "quad"
reading_word score_range = ascii "score"
reading_word not_utf8 = ascii "text-not-utf8"
reading_word patch_count = ascii "patch-count"
reading_word operation_count_lem = ascii "operation-count"
reading_word text_length = ascii "text-length"
reading_word character_count = ascii "text-characters"
reading_word bytes_left = ascii "bytes-left"

-- in no patch; in the patch of an index from 0, before its operations; in an operation of a patch, both by index from 0
pub data Inside : Type 0 where
  outside : Inside
  in_patch : ℕ → Inside
  in_operation : (patch operation : ℕ) → Inside

-- the rule, the patch and the operation, and the position in the set of the field at which reading stopped
pub record Unread : Type 0 where
  pub rule : ReadingRule
  pub inside : Inside
  pub position : ℕ
