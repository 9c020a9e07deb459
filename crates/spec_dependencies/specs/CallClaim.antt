-- What the call answers and leaves, as statements: 02, Job 8. AnswerLaws proves that it does this, and that nothing else is written.
use Rattle.std.specs.Prelude.{ℕ, ◌+◌, ◌*◌, ◌≤◌, ◌<◌, ◌≡◌, List, [], ◌++◌, length, drop}
use Rattle.spec_patch.specs.Patch.{Patch}
use Rattle.spec_patch.specs.Edition.{Edition}
use Rattle.spec_patch.specs.Reader.{Fault}
use Rattle.spec_patch.specs.Read.{patches, fault, read_set}
use Rattle.spec_checks.specs.Findings.{findings}
use Rattle.spec_dependencies.specs.Dependencies.{CollectionKey, never_applicable, needs, dependencies}
use Rattle.spec_dependencies.specs.Answer.{pair_length, all_words, unreadable, has_findings, output_too_short, refused, answer_never, answer_needs, Answered, answered}

-- the answer of a set that reads and has no findings
pub data CleanAnswer (ps : List Patch) (lent : List ℕ) : Answered → Type 0 where
  never_given : (i j : ℕ) → dependencies ps ≡ never_applicable i j → CleanAnswer ps lent (answered (answer_never i j) lent)
  too_short : (held lacked : List CollectionKey) → dependencies ps ≡ needs held lacked → length lent < pair_length * (length held + length lacked)
      → CleanAnswer ps lent (answered (refused output_too_short) lent)
  listed : (held lacked : List CollectionKey) → dependencies ps ≡ needs held lacked → pair_length * (length held + length lacked) ≤ length lent
      → CleanAnswer ps lent (answered (answer_needs (length held) (length lacked)) (all_words (held ++ lacked) ++ drop (pair_length * (length held + length lacked)) lent))

-- the answer of the call, in its order: 12 or 10, then 11, then the rest
pub data Called (ed : Edition) (set lent : List ℕ) : Answered → Type 0 where
  not_read : (f : Fault) → read_set ed set ≡ fault f → Called ed set lent (answered (refused (unreadable f)) lent)
  with_findings : (ps : List Patch) → read_set ed set ≡ patches ps → ¬ ((findings ps).found ≡ []) → Called ed set lent (answered (refused has_findings) lent)
  given : (ps : List Patch) → read_set ed set ≡ patches ps → (findings ps).found ≡ [] → (a : Answered) → CleanAnswer ps lent a → Called ed set lent a
