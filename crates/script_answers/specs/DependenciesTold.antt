-- What the call that tells what a set depends on hands to its printing.
use Rattle.std.specs.Prelude.{ℕ, ◌+◌, ◌*◌, ◌≤◌, ◌≡◌, List, length}
use Rattle.spec_dependencies.specs.Dependencies.{CollectionKey}
use Rattle.spec_dependencies.specs.Answer.{pair_length, answer_needs, Answered}
use Rattle.set_dependencies.specs.DependsAnswers.{depends_answer_to}
use Rattle.set_dependencies.specs.declared.depends.DependenciesAnswer.{DependenciesAnswer}

-- the record that two numbers tell
abbrev pub collection_key_of : ℕ → ℕ → CollectionKey
collection_key_of c k = record { collection = c; key = k }

-- the answer of the call, and the numbers that it left, in which every record that it counts has its places
pub record DependenciesTold (a : Answered) (answer : DependenciesAnswer) (output : List ℕ) : Type 0 where
  pub answered : answer ≡ depends_answer_to a.answer
  pub written : output ≡ a.output
  pub counted : (held lacked : ℕ) → a.answer ≡ answer_needs held lacked → pair_length * (held + lacked) ≤ length output
