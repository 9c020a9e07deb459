-- `script_parser::words::second_form` meets its contract: no word, and the number of the word in its table.
use Prim.Native.Nat.{ℕ, ◌+◌}
use mathlib.Core.Path.{refl, ap, ◌∙◌}
use mathlib.Core.List.{List}
use native.Mathlib.Omega.{arith}
use borrow.Author.Rules.{rules}
use Rattle.spec_replay.specs.Lines.{space, split}
use Rattle.script_parser.specs.FieldsLaws.{field_within, field_part}
use Rattle.script_parser.specs.Words.{index_of}
use Rattle.script_parser.proofs.words.second_form.Goals as goal

pub returns-then-line-end : goal.returns-then-line-end
returns-then-line-end c = record { missing = λ h. refl; found = λ h. absurd (omega arith); ended = λ h. absurd (omega arith) }

pub slice_bounds-word_index-end : goal.slice_bounds-word_index-end
slice_bounds-word_index-end c =
    omega (arith, field_within space c.args.line.now (c.args.end + 1) (omega arith), c.field_end-to.ensures)

pub returns : goal.returns
returns c =
    record {
      missing = λ h. absurd (omega (arith, c.if-line-end.false));
      found = λ h. ap (λ (n : ℕ). c.args.base + n) (c.word_index-index.ensures.0 ∙ ap (λ (f : List ℕ). index_of f (split space c.args.words.now)) (field_part space c.args.line.now (c.args.end + 1) c.field_end-to.result c.field_end-to.ensures));
      ended = λ h. c.field_end-to.ensures;
    }
