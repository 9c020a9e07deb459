-- `patch_locate::fields::text_from` meets its contract: the bytes are there, few enough, and what the rule of texts says of them.
use Prim.Native.Nat.{ℕ, ◌+◌}
use mathlib.Core.Path.{◌≡◌, refl, sym, ap, ◌∙◌}
use mathlib.Core.Bool.{true}
use mathlib.Core.List.{List}
use native.Mathlib.Omega.{arith}
use lib.ListN.{take, drop}
use Rattle.projection_patch.specs.TextRule.{judgement}
use Rattle.projection_patch.proofs.Texts.{judged_fits, judged_malformed, judged_many, lent_text}
use Rattle.patch_locate.specs.TextPositions.{text_lacking, text_over, text_not_utf8, text_too_many, text_passed}
use Rattle.std.specs.Prelude.{Err}
use Rattle.patch_locate.proofs.fields.text_from.Goals as goal
use Rattle.patch_locate.proofs.fields.text_from.Goals.{After-judge_text}

-- the text's own bytes
abbrev text : After-judge_text → List ℕ
text k = take k.args.len (drop (k.args.at + 4) k.args.part.now)

-- the rule is asked of them
asked : (k : After-judge_text) → k.judge_text.result ≡ judgement (text k)
asked k =
    k.judge_text.ensures
    ∙ ap judgement (k.text_of.ensures ∙ lent_text k.args.part.now (k.args.at + 4) k.args.len (omega arith))

pub returns-then-part-start : goal.returns-then-part-start
returns-then-part-start c =
    ap Err c.outside.ensures ∙ text_lacking c.args.part.now c.args.at c.args.len (omega arith) (omega arith)

pub returns-then-len-gt-TEXT_BYTES : goal.returns-then-len-gt-TEXT_BYTES
returns-then-len-gt-TEXT_BYTES c =
    ap Err c.outside-then-len-gt-TEXT_BYTES.ensures ∙ text_over c.args.part.now c.args.at c.args.len (omega arith) (omega arith) (omega arith)

pub returns-in-Ok : goal.returns-in-Ok
returns-in-Ok c =
    let fits = judged_fits (text (goal.at.returns-in-Ok c).After-judge_text) (sym (asked (goal.at.returns-in-Ok c).After-judge_text) ∙ c.in-Ok.is) in
    text_passed c.args.part.now c.args.at c.args.len (omega arith) (omega arith) (omega arith) fits.0 fits.1

pub returns-in-Err-Malformed : goal.returns-in-Err-Malformed
returns-in-Err-Malformed c =
    ap Err c.outside-in-Err-Malformed.ensures ∙ text_not_utf8 c.args.part.now c.args.at c.args.len (omega arith) (omega arith) (omega arith) (judged_malformed (text (goal.at.returns-in-Err-Malformed c).After-judge_text) (sym (asked (goal.at.returns-in-Err-Malformed c).After-judge_text) ∙ c.in-Err-Malformed.is ∙ ap Err c.in-Err-Malformed.field-0-is))

pub returns-in-Err-ManyCharacters : goal.returns-in-Err-ManyCharacters
returns-in-Err-ManyCharacters c =
    let many = judged_many (text (goal.at.returns-in-Err-ManyCharacters c).After-judge_text) (sym (asked (goal.at.returns-in-Err-ManyCharacters c).After-judge_text) ∙ c.in-Err-ManyCharacters.is ∙ ap Err c.in-Err-ManyCharacters.field-0-is) in
    ap Err c.outside-in-Err-ManyCharacters.ensures ∙ text_too_many c.args.part.now c.args.at c.args.len (omega arith) (omega arith) (omega arith) many.0 many.1
