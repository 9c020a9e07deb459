-- `script_parser::words::word_index` meets its contract. The invariant: behind the first i words the field is sought in the rest. The measure is what is left of the words.
use Prim.Native.Nat.{◌+◌, ◌-◌, ◌≤◌}
use mathlib.Core.Path.{◌≡◌, sym, ◌∙◌}
use native.Mathlib.Omega.{arith}
use lib.ListN.{length, drop}
use borrow.Author.Rules.{rules}
use Rattle.spec_replay.specs.Lines.{space, split}
use Rattle.script_parser.specs.Words.{index_of}
use Rattle.script_parser.specs.FieldsLaws.{field_within}
use Rattle.script_parser.proofs.Searching.{word_here, word_nowhere, word_later}
use Rattle.script_parser.proofs.words.word_index.Goals as goal
use Rattle.script_parser.proofs.words.word_index.Goals.{After-field_end-end}

ends : (c : After-field_end-end) → (c.loop-at.at ≤ c.field_end-end.result) × (c.field_end-end.result ≤ length c.args.words.now)
ends c = (omega (arith, c.field_end-end.ensures), omega (arith, c.field_end-end.ensures, field_within space c.args.words.now c.loop-at.at c.loop-at.invariant.0))

pub loop-at-init : goal.loop-at-init
loop-at-init c = (omega arith, (omega arith, omega arith))

pub slice_bounds-is_word-start : goal.slice_bounds-is_word-start
slice_bounds-is_word-start c = omega arith

pub slice_bounds-is_word-end : goal.slice_bounds-is_word-end
slice_bounds-is_word-end c = omega (arith, ends c)

pub returns-then-is_word : goal.returns-then-is_word
returns-then-is_word c =
    let here = word_here c.args.words.now c.args.field.now c.loop-at.at c.field_end-end.result c.field_end-end.ensures (sym c.is_word.ensures ∙ c.if-is_word.true) in
    (omega (arith, here), omega arith)

pub overflow_add-result : goal.overflow_add-result
overflow_add-result c = omega arith

pub returns-then-words-end : goal.returns-then-words-end
returns-then-words-end c =
    let nowhere = word_nowhere c.args.words.now c.args.field.now c.loop-at.at c.field_end-end.result c.field_end-end.ensures (sym c.is_word.ensures ∙ c.if-is_word.false) c.if-words-end.true in
    (omega (arith, nowhere), omega arith)

pub overflow_add-at : goal.overflow_add-at
overflow_add-at c = omega arith

pub overflow_add-i : goal.overflow_add-i
overflow_add-i c = omega arith

pub loop-at-smaller : goal.loop-at-smaller
loop-at-smaller c = omega (arith, ends (goal.at.loop-at-smaller c).After-field_end-end)

pub loop-at-preserved : goal.loop-at-preserved
loop-at-preserved c =
    let later = word_later c.args.words.now c.args.field.now c.loop-at.at c.field_end-end.result c.field_end-end.ensures (sym c.is_word.ensures ∙ c.if-is_word.false) (omega arith) in
    (omega arith, (omega (arith, c.field_end-end.ensures), omega (arith, later)))
