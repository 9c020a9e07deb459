-- `head::store_three` meets its contract: three numbers, one behind the other.
use mathlib.Core.List.{append_assoc}
use mathlib.Core.Path.{ap, ◌∙◌}
use native.Mathlib.Omega.{arith}
use borrow.Author.Rules.{rules}
use Rattle.bytes_wire.specs.Write.{overwrite}
use Rattle.spec_patch.specs.Encode.{u64}
use Rattle.patch_part_writer.proofs.Stored.{first_number, next_number}
use Rattle.patch_part_writer.proofs.head.store_three.Goals as goal

pub returns : goal.returns
returns c =
    let two = next_number (first_number c.args.out.now c.args.at 8 c.args.a c.write_u64_at.ensures.out_after) 8 c.args.b (omega arith) c.write_u64_at-2.ensures.out_after in
    (next_number two 8 c.args.c (omega arith) c.write_u64_at-3.ensures.out_after).is ∙ ap (overwrite c.args.out.now c.args.at) (append_assoc (u64 c.args.a) (u64 c.args.b) (u64 c.args.c))
