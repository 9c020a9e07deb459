-- `fields::store_entry` meets its contract: the key behind the tag and the collection.
use Prim.Native.Nat.{suc}
use mathlib.Core.List.{◌∷◌}
use mathlib.Core.Path.{ap}
use native.Mathlib.Omega.{arith}
use borrow.Author.Rules.{rules}
use Rattle.projection_patch.specs.Widths.{tagged_bytes}
use Rattle.patch_part_writer.proofs.Stored.{stored_first, next_number}
use Rattle.spec_patch.specs.Encode.{u64}
use Rattle.spec_lists.proofs.BytesLaws.{length_little_endian}
use Rattle.patch_part_writer.proofs.fields.store_entry.Goals as goal

pub returns : goal.returns
returns c =
    (next_number (stored_first c.args.out.now c.args.at tagged_bytes (c.args.tag ∷ u64 c.args.collection) (ap suc (length_little_endian 8 c.args.collection)) c.store_tagged.ensures) 8 c.args.key (omega arith) c.write_u64_at.ensures.out_after).is
