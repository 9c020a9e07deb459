-- Keys that are written one after another to the start of a lent list.
use Rattle.std.specs.Prelude.{ℕ, ◌+◌, ◌*◌, ◌≡◌, Bool, List, ◌++◌, length, take, drop}
use Rattle.spec_dependencies.specs.Settled.{Settled}
use Rattle.spec_dependencies.specs.Dependencies.{keys_at_start}
use Rattle.spec_dependencies.specs.Answer.{pair_length, all_words, words_written}

-- so many keys are written, and with those of the rows that are left there are so many in all, and the list is the whole one
pub record KeysLeft (b : Bool) (left : List Settled) (written : ℕ) (out : List ℕ) (total : ℕ) (whole : List ℕ) : Type 0 where
  pub counted : written + length (keys_at_start b left) ≡ total
  pub words : take (pair_length * written) out ++ words_written (all_words (keys_at_start b left)) (drop (pair_length * written) out) ≡ whole
