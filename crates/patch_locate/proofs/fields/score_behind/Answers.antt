-- `patch_locate::fields::score_behind` meets its contract: only the second edition has scores.
use Prim.Native.Nat.{ℕ, ◌+◌}
use mathlib.Core.Path.{◌≡◌, refl, sym, ap, ◌∙◌}
use mathlib.Core.Bool.{true, false}
use mathlib.Core.List.{List}
use native.Mathlib.Omega.{arith}
use lib.ListN.{length, drop}
use Rattle.spec_patch.specs.Edition.{Edition, v1, v2, added_kinds, kinds, has_kind}
use Rattle.spec_explain.specs.ReadingRule.{value_kind}
use Rattle.spec_explain.specs.Locate.{stop_at, by_row, locate_score, score_row}
use Rattle.projection_patch.specs.Meaning.{edition_of}
use Rattle.patch_locate.specs.Answers.{located_answer}
use Rattle.patch_locate.specs.FieldsLaws.{score_is}
use Rattle.patch_locate.specs.Positions.{stop_here}
use Rattle.patch_locate.specs.declared.rules.ReadingRule.TheVariants as rules
use Rattle.std.specs.Prelude.{Err}
use Rattle.patch_locate.proofs.fields.score_behind.Goals as goal

with_scores : (ed : Edition) (bs rest : List ℕ) → has_kind ed 5 ≡ true → by_row value_kind (score_row ed) bs 5 rest ≡ locate_score rest
unfolding by_row score_row has_kind kinds added_kinds
with_scores v1 bs rest e = absurd (let z : ◌≡◌ {A = ℕ} 0 1 = cc in omega arith)
with_scores v2 bs rest e = refl

without_scores : (ed : Edition) (bs rest : List ℕ) → has_kind ed 5 ≡ false → by_row value_kind (score_row ed) bs 5 rest ≡ stop_at value_kind bs
unfolding by_row score_row has_kind kinds added_kinds
without_scores v1 bs rest e = refl
without_scores v2 bs rest e = absurd (let z : ◌≡◌ {A = ℕ} 0 1 = cc in omega arith)

pub returns-then-has_scores : goal.returns-then-has_scores
returns-then-has_scores c =
    c.byte_at_most.ensures
    ∙ ap (located_answer (length c.args.part.now)) (sym (score_is (drop (c.args.at + 1) c.args.part.now)) ∙ sym (with_scores (edition_of c.args.edition) (drop c.args.at c.args.part.now) (drop (c.args.at + 1) c.args.part.now) (sym c.has_scores.ensures ∙ c.if-has_scores.true)))

pub returns : goal.returns
returns c =
    ap Err c.outside.ensures ∙ stop_here c.args.part.now c.args.at rules.ValueKind (omega arith)
    ∙ ap (located_answer (length c.args.part.now)) (sym (without_scores (edition_of c.args.edition) (drop c.args.at c.args.part.now) (drop (c.args.at + 1) c.args.part.now) (sym c.has_scores.ensures ∙ c.if-has_scores.false)))
