-- The call on a set: its refusals, its answer, and what it writes into a lent list of numbers. 02, Job 8.
use Rattle.std.specs.Prelude.{ℕ, leb, length, drop, if◌then◌else◌}
use mathlib.Core.List.{List, ◌++◌, flat_map}
use Rattle.spec_lists.specs.Lists.{is_empty}
use Rattle.spec_patch.specs.Edition.{Edition}
use Rattle.spec_patch.specs.Reader.{Fault, fault_number}
use Rattle.spec_patch.specs.Read.{SetReading, patches, fault, read_set}
use Rattle.spec_checks.specs.Findings.{findings}
use Rattle.spec_dependencies.specs.Dependencies.{CollectionKey, key_words, Dependencies, never_applicable, needs, dependencies}

-- a record is two u64: collection, key
abbrev pub pair_length : ℕ
pair_length = 2

unfoldable pub all_words : List CollectionKey → List ℕ
all_words = flat_map key_words

-- why the call is refused
pub data DependencyRefusal : Type 0 where
  unreadable : Fault → DependencyRefusal
  has_findings output_too_short : DependencyRefusal

-- 12 or 10; 11; 14
unfoldable pub refusal_number : DependencyRefusal → ℕ
refusal_number (unreadable f) = fault_number f
refusal_number has_findings = 11
refusal_number output_too_short = 14

-- the answer: a refusal; never applicable, with patch and operation; or how many keys must be there, and how many absent
pub data DependencyAnswer : Type 0 where
  refused : DependencyRefusal → DependencyAnswer
  answer_never : (patch operation : ℕ) → DependencyAnswer
  answer_needs : (held lacked : ℕ) → DependencyAnswer

-- the answer, and the lent list after the call
pub record Answered : Type 0 where
  pub answer : DependencyAnswer
  pub output : List ℕ

abbrev pub answered : DependencyAnswer → List ℕ → Answered
answered a lent = record { answer = a; output = lent }

-- the numbers from the start of the lent list, then what it held
unfoldable pub words_written : List ℕ → List ℕ → List ℕ
words_written words lent = words ++ drop (length words) lent

-- 14 where the records do not fit; never applicable writes nothing
unfoldable pub answer_by : Dependencies → List ℕ → Answered
answer_by (never_applicable i j) lent = answered (answer_never i j) lent
answer_by (needs held lacked) lent =
    let words = all_words (held ++ lacked) in
    if leb (length words) (length lent) then answered (answer_needs (length held) (length lacked)) (words_written words lent) else answered (refused output_too_short) lent

-- 12 or 10; then findings are 11; then the answer
unfoldable pub answer_reading : SetReading → List ℕ → Answered
answer_reading (fault f) lent = answered (refused (unreadable f)) lent
answer_reading (patches ps) lent = if is_empty (findings ps).found then answer_by (dependencies ps) lent else answered (refused has_findings) lent

-- the call on a set's bytes, with a lent list
unfoldable pub dependencies_of : Edition → List ℕ → List ℕ → Answered
dependencies_of ed set lent = answer_reading (read_set ed set) lent
