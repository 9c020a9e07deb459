-- `projection_patch::read_values::text_from` meets its contract: as many bytes, few enough, and the rule of texts of them.
use Prim.Native.Nat.{ℕ}
use mathlib.Core.Path.{◌≡◌, sym, ap, ◌∙◌}
use mathlib.Core.Bool.{true}
use mathlib.Core.List.{List}
use native.Mathlib.Omega.{arith}
use lib.ListN.{take, drop}
use Rattle.std.proofs.lemmas.Result.{err_from_is_err_and}
use Rattle.projection_patch.specs.TextRule.{judgement}
use Rattle.projection_patch.proofs.Texts.{judged_fits, body_placed, body_refused, lent_text}
use Rattle.projection_patch.proofs.read_values.text_from.Goals as goal
use Rattle.projection_patch.proofs.read_values.text_from.Goals.{After-judge_text}

-- the text's own bytes
abbrev text : After-judge_text → List ℕ
text k = take k.args.len (drop k.args.start k.args.part.now)

-- the rule is asked of them
asked : (k : After-judge_text) → judgement (text k) ≡ k.judge_text.result
asked k =
    sym (k.judge_text.ensures ∙ ap judgement (k.text_of.ensures ∙ lent_text k.args.part.now k.args.start k.args.len (omega arith)))

pub returns-in_err-judge_text : goal.returns-in_err-judge_text
returns-in_err-judge_text c =
    let p = err_from_is_err_and c.from_residual.result c.from_residual.ensures.1 in
    rw (p.1, p.2, c.if-strict.true)
    (body_refused c.args.part.now c.args.start c.args.len (omega arith) (omega arith) c.in_err-judge_text.field-0.0 (asked (goal.at.returns-in_err-judge_text c).After-judge_text ∙ c.in_err-judge_text.was))

pub returns-in_ok-judge_text : goal.returns-in_ok-judge_text
returns-in_ok-judge_text c =
    rw c.if-strict.true
    (body_placed true c.args.part.now c.args.start c.args.len (omega arith) (omega arith) (omega arith)
    (judged_fits (text (goal.at.returns-in_ok-judge_text c).After-judge_text) (asked (goal.at.returns-in_ok-judge_text c).After-judge_text ∙ c.in_ok-judge_text.was)))
