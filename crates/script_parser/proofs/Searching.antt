-- A field sought among words, and the form that the words of a line ask for.
use Prim.Native.Nat.{ℕ, suc, ◌+◌, ◌-◌, ◌≤◌, ◌<◌}
use mathlib.Core.Path.{◌≡◌, sym, ap, ap₂, ◌∙◌}
use mathlib.Core.Bool.{true, false}
use mathlib.Core.List.{List, ◌∷◌}
use native.Mathlib.Omega.{arith}
use borrow.Author.Tests.{ltb-true, ltb-false}
use lib.Dec.{eqb, ltb}
use lib.ListN.{length, take, drop}
use Rattle.spec_lists.specs.Lists.{equal_lists}
use Rattle.spec_lists.proofs.ListLaws.{test_cases}
use Rattle.spec_replay.specs.Lines.{space, split}
use Rattle.spec_replay.specs.Script.{Arguments, read_by, Row, by_word, commands, fields_command}
use Rattle.script_parser.specs.Fields.{first_field, fields_after}
use Rattle.script_parser.specs.FieldsLaws.{fields_after_drop, none_after, some_after, one_after, split_first, field_part}
use Rattle.script_parser.specs.Words.{index_of, words_of, word_row_at, index_of_most, by_index}
use Rattle.script_parser.specs.Forms.{form_count, form_at, asked_by}
use Rattle.script_parser.specs.FormsLaws.{none_form}
use Rattle.script_parser.specs.FormPlaces.{SecondWord}
use Rattle.script_parser.specs.declared.words.FormAt.{FormAt}

-- ---- among the words from an index on

module _ (words field : List ℕ) (at to : ℕ) (e : to ≡ at + length (first_field space (drop at words))) where
  parts : split space (drop at words) ≡ take (to - at) (drop at words) ∷ fields_after space words to
  parts =
      split_first space (drop at words)
      ∙ ap₂ (λ (f : List ℕ) (fs : List (List ℕ)). f ∷ fs) (sym (field_part space words at to e)) (fields_after_drop space words at (length (first_field space (drop at words))) ∙ ap (fields_after space words) (sym e))

  -- the first of them
  pub word_here : equal_lists eqb (take (to - at) (drop at words)) field ≡ true → index_of field (split space (drop at words)) ≡ 0
  unfolding index_of
  word_here t = rw (parts, t)

  -- none of them
  pub word_nowhere : equal_lists eqb (take (to - at) (drop at words)) field ≡ false → length words ≤ to → index_of field (split space (drop at words)) ≡ 1
  unfolding index_of
  word_nowhere t h = rw (parts, t, none_after space words to h)

  -- one behind the first
  pub word_later : equal_lists eqb (take (to - at) (drop at words)) field ≡ false → to < length words → index_of field (split space (drop at words)) ≡ suc (index_of field (split space (drop (to + 1) words)))
  unfolding index_of
  word_later t h = rw (parts, t, some_after space words to h)

-- ---- the first word of a line

pub first_word : (line : List ℕ) (to k : ℕ) (words : List ℕ) → to ≡ 0 + length (first_field space (drop 0 line)) → words_of commands ≡ split space words
    → k ≡ index_of (take (to - 0) (drop 0 line)) (split space words) → fields_command (split space line) ≡ word_row_at (λ a. a) commands k (fields_after space line to)
unfolding fields_command read_by
first_word line to k words e same is =
    let ends : to ≡ length (first_field space line) = omega arith in
    ap (read_by (by_word commands) (λ a. a)) (split_first space line)
    ∙ by_index (λ a. a) commands (first_field space line) (fields_after space line (length (first_field space line)))
    ∙ ap₂ (λ (n i : ℕ). word_row_at (λ a. a) commands n (fields_after space line i)) (ap₂ (λ (f : List ℕ) (ws : List (List ℕ)). index_of f ws) (sym (field_part space line 0 to e)) same ∙ sym is) (sym ends)

-- ---- the second word

module _ {A : Type 0} (next : A → Arguments) (rows : List (Row A)) (base most : ℕ) (size : length (words_of rows) ≡ most) (within : base + most < form_count)
    (agree : (j : ℕ) → j ≤ most → (fs : List (List ℕ)) → word_row_at next rows j fs ≡ asked_by (base + j) fs)
    (line : List ℕ) (at : ℕ) (words : List ℕ) (same : words_of rows ≡ split space words) (r : FormAt) (s : SecondWord line at words base r) where
  abbrev second : List ℕ
  second = first_field space (drop (at + 1) line)

  few : index_of second (words_of rows) ≤ most
  few = omega (arith, index_of_most second (words_of rows))

  numbered_as : at < length line → base + index_of second (words_of rows) ≡ r.form
  numbered_as h = ap (λ (ws : List (List ℕ)). base + index_of second ws) same ∙ sym (s.found h)

  pub second_numbered : r.form < form_count
  second_numbered =
      test_cases (ltb at (length line)) (λ t. let is = numbered_as (ltb-true at (length line) t) in omega (arith, few, is))
      (λ t. omega (arith, s.missing (ltb-false at (length line) t)))

  there : at < length line → read_by (by_word rows) next (fields_after space line at) ≡ asked_by r.form (fields_after space line r.end)
  unfolding read_by
  there h =
      ap (read_by (by_word rows) next) (one_after space line at h)
      ∙ by_index next rows second (fields_after space line (at + 1 + length second))
      ∙ agree (index_of second (words_of rows)) few (fields_after space line (at + 1 + length second))
      ∙ ap₂ (λ (n i : ℕ). asked_by n (fields_after space line i)) (numbered_as h) (sym (s.ended h))

  nowhere : length line ≤ at → read_by (by_word rows) next (fields_after space line at) ≡ asked_by r.form (fields_after space line r.end)
  unfolding read_by asked_by form_at
  nowhere h =
      ap (read_by (by_word rows) next) (none_after space line at h)
      ∙ none_form (fields_after space line r.end)
      ∙ ap (λ (n : ℕ). asked_by n (fields_after space line r.end)) (sym (s.missing h))

  pub second_asks : read_by (by_word rows) next (fields_after space line at) ≡ asked_by r.form (fields_after space line r.end)
  second_asks = test_cases (ltb at (length line)) (λ t. there (ltb-true at (length line) t)) (λ t. nowhere (ltb-false at (length line) t))
