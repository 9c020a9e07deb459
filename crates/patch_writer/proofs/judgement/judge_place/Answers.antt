-- `judgement::judge_place` meets its contract: the place first, then the bytes there.
use Rattle.std.proofs.Common.{sym, ap, ◌∙◌, leb-true, length}
use Prim.Native.Nat.{◌+◌}
use Rattle.projection_patch.specs.TextRule.{judgement}
use Rattle.projection_patch.proofs.Texts.{lent_text}
use Rattle.patch_writer.specs.Survey.{judged_text}
use Rattle.patch_writer.proofs.judgement.judge_place.Goals as goal

pub returns : goal.returns
unfolding judged_text
returns c =
    let there = sym c.has_room.ensures ∙ c.if-not-has_room.false in
    let lent = lent_text c.args.texts.now c.args.text.start c.args.text.len (leb-true (c.args.text.start + c.args.text.len) (length c.args.texts.now) there) in
    c.judge_text.ensures ∙ ap judgement (c.text_of.ensures ∙ lent) ∙ sym (rw there)
