-- `head::store_heading` meets its contract: the letters behind their length, the edition's digit last, and the patch count behind them.
use mathlib.Core.Path.{refl, sym, ap, ◌∙◌}
use mathlib.Core.List.{List, [], ◌∷◌, ◌++◌, append_assoc}
use Prim.Native.Nat.{ℕ, ◌+◌}
use native.Mathlib.Omega.{arith}
use borrow.Author.Rules.{rules}
use lib.ListN.{take}
use Rattle.bytes_wire.specs.Write.{overwrite}
use Rattle.spec_patch.specs.Edition.{edition_digit, letters}
use Rattle.spec_patch.specs.Encode.{u32, heading}
use Rattle.projection_patch.specs.Meaning.{edition_of}
use Rattle.patch_part_writer.proofs.Stored.{first_number, next, next_number, one_byte}
use Rattle.patch_part_writer.proofs.head.store_heading.Goals as goal

pub returns : goal.returns
unfolding heading letters
returns c =
    let ed = edition_of c.args.edition in
    let front = take 26 (letters ed) in
    let length-then-letters = next (first_number c.args.out.now c.args.at 4 27 c.write_u32_at.ensures.out_after) 26 front refl (omega arith) c.write_bytes_at.ensures.out_after in
    let last = one_byte c.edition_digit.result c.edition_digit.type_inv ∙ ap (λ (d : ℕ). d ∷ []) c.edition_digit.ensures in
    let all = next length-then-letters 1 (edition_digit ed ∷ []) refl (omega arith) (c.write_u8_at.ensures.out_after ∙ ap (overwrite _ (c.args.at + 30)) last) in
    (next_number all 4 c.args.patch_count (omega arith) c.write_u32_at-2.ensures.out_after).is
    ∙ ap (λ (l : List ℕ). overwrite c.args.out.now c.args.at (l ++ u32 c.args.patch_count)) (append_assoc (u32 27) front (edition_digit ed ∷ []))
