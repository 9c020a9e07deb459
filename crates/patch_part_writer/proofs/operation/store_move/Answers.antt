-- `operation::store_move` meets its contract: the neighbour behind the entry.
use Prim.Native.Nat.{ℕ}
use mathlib.Core.List.{List, ◌∷◌, ◌++◌, append_assoc}
use mathlib.Core.Path.{ap, ◌∙◌}
use native.Mathlib.Omega.{arith}
use borrow.Author.Rules.{rules}
use Rattle.bytes_wire.specs.Write.{overwrite}
use Rattle.spec_patch.specs.Encode.{u64, encode_optional}
use Rattle.projection_patch.specs.Widths.{past_key}
use Rattle.projection_patch.specs.Meaning.{before_of}
use Rattle.patch_part_writer.specs.Extent.{before_size}
use Rattle.patch_part_writer.specs.ExtentLaws.{length_before}
use Rattle.patch_part_writer.proofs.Stored.{stored_first, next, length_entry}
use Rattle.patch_part_writer.proofs.operation.store_move.Goals as goal

pub returns : goal.returns
returns c =
    let neighbour = encode_optional (before_of c.args.before) in
    let entry = stored_first c.args.out.now c.args.at past_key (6 ∷ u64 c.args.collection ++ u64 c.args.key) (length_entry 6 c.args.collection c.args.key) c.store_entry.ensures in
    (next entry (before_size c.args.before) neighbour (length_before c.args.before) (omega arith) c.store_before.ensures).is
    ∙ ap (λ (b : List ℕ). overwrite c.args.out.now c.args.at (6 ∷ b)) (append_assoc (u64 c.args.collection) (u64 c.args.key) neighbour)
