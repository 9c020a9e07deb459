-- `script_parser::words::find_form` meets its contract: the forms of the second words of apply, of value and of mark, and that of the first word.
use Prim.Native.Nat.{ℕ, ◌-◌, ◌≤◌}
use mathlib.Core.Path.{◌≡◌, refl, ap, ◌∙◌}
use mathlib.Core.List.{List}
use native.Mathlib.Omega.{arith}
use borrow.Author.Rules.{rules}
use lib.ListN.{take, drop}
use Rattle.spec_replay.specs.Lines.{space, split, prepend}
use Rattle.spec_replay.specs.Script.{ascii, apply, end, number_field, stimuli, apply_arguments, values, value_arguments, marks, mark_arguments, commands, fields_command}
use Rattle.script_parser.specs.Fields.{fields_after}
use Rattle.script_parser.specs.FieldsLaws.{field_within}
use Rattle.script_parser.specs.Words.{word_row_at, index_of_most}
use Rattle.script_parser.specs.Forms.{stimulus_base, value_base, mark_base, first_words}
use Rattle.script_parser.specs.FormsLaws.{first_form, stimulus_form, value_form, mark_form}
use Rattle.script_parser.proofs.Searching.{first_word, second_numbered, second_asks}
use Rattle.script_parser.proofs.words.find_form.Goals as goal
use Rattle.script_parser.proofs.words.find_form.Goals.{After-word_index-first}

-- the words of the tables
abbrev first_table : List ℕ
first_table = ascii "session node binding collection create apply batch check list show value senders wait turn edition convert mark depends print group length page import explain"

abbrev stimulus_table : List ℕ
stimulus_table = ascii "activate suspend resume close noop"

abbrev value_table : List ℕ
value_table = ascii "binding node entry"

few : (c : After-word_index-first) → c.word_index-first.result ≤ first_words
unfolding split prepend
few c = rw c.word_index-first.ensures.0 (index_of_most (take (c.field_end-end.result - 0) (drop 0 c.args.line.now)) (split space first_table))

by_first : (c : After-word_index-first) → fields_command (split space c.args.line.now)
    ≡ word_row_at (λ a. a) commands c.word_index-first.result (fields_after space c.args.line.now c.field_end-end.result)
unfolding split prepend commands
by_first c =
    first_word c.args.line.now c.field_end-end.result c.word_index-first.result first_table c.field_end-end.ensures refl c.word_index-first.ensures.0

pub slice_bounds-word_index-end-2 : goal.slice_bounds-word_index-end-2
slice_bounds-word_index-end-2 c =
    omega (arith, field_within space c.args.line.now 0 (omega arith), c.field_end-end.ensures)

pub returns-then-first-eq5 : goal.returns-then-first-eq5
unfolding stimuli split prepend apply_arguments commands
returns-then-first-eq5 c =
    record {
      numbered = second_numbered (λ s. number_field (λ n. end (apply s n))) stimuli stimulus_base 5 refl (omega arith) stimulus_form c.args.line.now _ stimulus_table refl c.second_form.result c.second_form.ensures;
      asks =
          by_first (goal.at.returns-then-first-eq5 c).After-word_index-first ∙ ap (λ (k : ℕ). word_row_at (λ a. a) commands k (fields_after space c.args.line.now c.field_end-end.result)) c.if-first-eq5.true
          ∙ second_asks (λ s. number_field (λ n. end (apply s n))) stimuli stimulus_base 5 refl (omega arith) stimulus_form c.args.line.now _ stimulus_table refl c.second_form.result c.second_form.ensures;
    }

pub returns-then-first-eq10 : goal.returns-then-first-eq10
unfolding values split prepend value_arguments commands
returns-then-first-eq10 c =
    record {
      numbered = second_numbered (λ a. a) values value_base 3 refl (omega arith) value_form c.args.line.now _ value_table refl c.second_form-then-first-eq10.result c.second_form-then-first-eq10.ensures;
      asks =
          by_first (goal.at.returns-then-first-eq10 c).After-word_index-first ∙ ap (λ (k : ℕ). word_row_at (λ a. a) commands k (fields_after space c.args.line.now c.field_end-end.result)) c.if-first-eq10.true
          ∙ second_asks (λ a. a) values value_base 3 refl (omega arith) value_form c.args.line.now _ value_table refl c.second_form-then-first-eq10.result c.second_form-then-first-eq10.ensures;
    }

pub returns-then-first-eq16 : goal.returns-then-first-eq16
unfolding marks split prepend mark_arguments commands
returns-then-first-eq16 c =
    record {
      numbered = second_numbered (λ a. a) marks mark_base 3 refl (omega arith) mark_form c.args.line.now _ value_table refl c.second_form-then-first-eq16.result c.second_form-then-first-eq16.ensures;
      asks =
          by_first (goal.at.returns-then-first-eq16 c).After-word_index-first ∙ ap (λ (k : ℕ). word_row_at (λ a. a) commands k (fields_after space c.args.line.now c.field_end-end.result)) c.if-first-eq16.true
          ∙ second_asks (λ a. a) marks mark_base 3 refl (omega arith) mark_form c.args.line.now _ value_table refl c.second_form-then-first-eq16.result c.second_form-then-first-eq16.ensures;
    }

pub returns : goal.returns
returns c =
    record { numbered = omega (arith, few (goal.at.returns c).After-word_index-first); asks = by_first (goal.at.returns c).After-word_index-first ∙ first_form c.word_index-first.result (few (goal.at.returns c).After-word_index-first) c.if-first-eq5.false c.if-first-eq10.false c.if-first-eq16.false _ }
