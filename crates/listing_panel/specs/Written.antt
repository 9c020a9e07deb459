-- What writing lines into a lent slice answers and leaves.
use Rattle.std.specs.Prelude.{ℕ, ◌≡◌, List, length, take, drop, Result, Ok, Err, Option, Some}
use Rattle.spec_patch.specs.Write as model
use Rattle.patch_part_writer.specs.Answer.{written_at, output_at}
use Rattle.patch_part_writer.specs.declared.written.WriteRefusal.{WriteRefusal}

-- the lines stand at the start of a text, and their printing ended behind them
pub record HoldsLines (text : List ℕ) (end : Option ℕ) (lines : List ℕ) : Type 0 where
  pub position : end ≡ Some (length lines)
  pub bytes : take (length lines) text ≡ lines

-- the lines at the start of the slice and their number, or 14 and nothing: every other byte stays
pub record Writes (before lines after : List ℕ) (r : Result ℕ WriteRefusal) : Type 0 where
  pub answer : r ≡ written_at before 0 (model.wrote lines)
  pub output : after ≡ output_at before 0 (model.wrote lines)

-- what holds of any answer: a refusal leaves every byte, and so many bytes written leave those behind them
abbrev pub KeptLines : List ℕ → List ℕ → Result ℕ WriteRefusal → Type 0
KeptLines before after (Ok n) = drop n after ≡ drop n before
KeptLines before after (Err f) = after ≡ before
