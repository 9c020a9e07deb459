-- `fields::store_tagged` meets its contract: the number behind the tag.
use Prim.Native.Nat.{ℕ}
use mathlib.Core.List.{List, ◌++◌}
use mathlib.Core.Path.{ap, ◌∙◌}
use native.Mathlib.Omega.{arith}
use borrow.Author.Rules.{rules}
use Rattle.patch_part_writer.proofs.Stored.{first_number, next_number, one_byte}
use Rattle.bytes_wire.specs.Write.{overwrite}
use Rattle.spec_patch.specs.Encode.{u64}
use Rattle.patch_part_writer.proofs.fields.store_tagged.Goals as goal

pub returns : goal.returns
returns c =
    let stored = next_number (first_number c.args.out.now c.args.at 1 c.args.tag c.write_u8_at.ensures.out_after) 8 c.args.x (omega arith) c.write_u64_at.ensures.out_after in
    stored.is ∙ ap (λ (x : List ℕ). overwrite c.args.out.now c.args.at (x ++ u64 c.args.x)) (one_byte c.args.tag c.ranges.tag.fits)
