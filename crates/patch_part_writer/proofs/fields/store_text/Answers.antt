-- `fields::store_text` meets its contract: the bytes behind the tag and the length.
use Prim.Native.Nat.{◌+◌}
use mathlib.Core.List.{[], ◌∷◌}
use mathlib.Core.Path.{◌≡◌, refl, ap, ◌∙◌}
use native.Mathlib.Omega.{arith}
use borrow.Author.Rules.{rules}
use lib.ListN.{length, take, drop}
use Rattle.patch_part_writer.proofs.Stored.{stored_first, next, next_number, one_byte}
use Rattle.bytes_wire.specs.Write.{overwrite}
use Rattle.projection_patch.proofs.Texts.{lent_text}
use Rattle.patch_part_writer.specs.ExtentLaws.{length_text}
use Rattle.patch_part_writer.proofs.fields.store_text.Goals as goal

pub returns : goal.returns
returns c =
    let tag = stored_first c.args.out.now c.args.at 1 (3 ∷ []) refl (c.write_u8_at.ensures.out_after ∙ ap (overwrite c.args.out.now c.args.at) (one_byte 3 (omega arith))) in
    let counted = next_number tag 4 c.args.len (omega arith) c.write_u32_at.ensures.out_after in
    let lent = c.text_of.ensures ∙ lent_text c.args.texts.now c.args.start c.args.len (omega arith) in
    let bytes = take c.args.len (drop c.args.start c.args.texts.now) in
    let long : length bytes ≡ c.args.len = length_text c.args.texts.now c.args.start c.args.len (omega arith) in
    (next counted c.args.len bytes long (omega arith) (c.write_bytes_at.ensures.out_after ∙ ap (overwrite c.write_u32_at.new.out (c.args.at + 5)) lent)).is
