-- `fields::store_two` meets its contract: one byte behind the other.
use Prim.Native.Nat.{ℕ}
use mathlib.Core.List.{List, ◌++◌}
use mathlib.Core.Path.{ap₂, ◌∙◌}
use native.Mathlib.Omega.{arith}
use borrow.Author.Rules.{rules}
use Rattle.patch_part_writer.proofs.Stored.{first_number, next_number, one_byte}
use Rattle.bytes_wire.specs.Write.{overwrite}
use Rattle.patch_part_writer.proofs.fields.store_two.Goals as goal

pub returns : goal.returns
returns c =
    let stored = next_number (first_number c.args.out.now c.args.at 1 c.args.a c.write_u8_at.ensures.out_after) 1 c.args.b (omega arith) c.write_u8_at-2.ensures.out_after in
    stored.is ∙ ap₂ (λ (x y : List ℕ). overwrite c.args.out.now c.args.at (x ++ y)) (one_byte c.args.a c.ranges.a.fits) (one_byte c.args.b c.ranges.b.fits)
