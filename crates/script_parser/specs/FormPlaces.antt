-- The form that the words of a line ask for.
use Rattle.std.specs.Prelude.{ℕ, ◌+◌, ◌≤◌, ◌<◌, ◌≡◌, List, length, drop}
use Rattle.spec_replay.specs.Lines.{space, split}
use Rattle.spec_replay.specs.Script.{fields_command}
use Rattle.script_parser.specs.Fields.{first_field, fields_after}
use Rattle.script_parser.specs.Words.{index_of}
use Rattle.script_parser.specs.Forms.{none_found, form_count, asked_by}
use Rattle.script_parser.specs.declared.words.FormAt.{FormAt}

-- the word behind the one that ends at an index: there is none, or its number is that in the table of words
pub record SecondWord (line : List ℕ) (at : ℕ) (words : List ℕ) (base : ℕ) (r : FormAt) : Type 0 where
  pub missing : length line ≤ at → r.form ≡ none_found
  pub found : at < length line → r.form ≡ base + index_of (first_field space (drop (at + 1) line)) (split space words)
  pub ended : at < length line → r.end ≡ at + 1 + length (first_field space (drop (at + 1) line))

-- the line is the form at its fields
pub record FormOf (line : List ℕ) (r : FormAt) : Type 0 where
  pub numbered : r.form < form_count
  pub asks : fields_command (split space line) ≡ asked_by r.form (fields_after space line r.end)
