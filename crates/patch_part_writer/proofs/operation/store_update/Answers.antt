-- `operation::store_update` meets its contract: the value behind the entry.
use Prim.Native.Nat.{ℕ}
use mathlib.Core.List.{List, ◌∷◌, ◌++◌, append_assoc}
use mathlib.Core.Path.{ap, ◌∙◌}
use native.Mathlib.Omega.{arith}
use borrow.Author.Rules.{rules}
use Rattle.bytes_wire.specs.Write.{overwrite}
use Rattle.spec_patch.specs.Encode.{u64, encode_value}
use Rattle.projection_patch.specs.Widths.{past_key}
use Rattle.projection_patch.specs.Meaning.{value_of}
use Rattle.patch_part_writer.specs.Extent.{value_size}
use Rattle.patch_part_writer.specs.ExtentLaws.{length_value}
use Rattle.patch_part_writer.proofs.Stored.{stored_first, next, length_entry}
use Rattle.patch_part_writer.proofs.operation.store_update.Goals as goal

pub returns : goal.returns
returns c =
    let value = encode_value (value_of c.args.texts.now c.args.value) in
    let entry = stored_first c.args.out.now c.args.at past_key (4 ∷ u64 c.args.collection ++ u64 c.args.key) (length_entry 4 c.args.collection c.args.key) c.store_entry.ensures in
    (next entry (value_size c.args.value) value (length_value c.args.texts.now c.args.value c.requires.1.inside) (omega arith) c.store_value.ensures).is
    ∙ ap (λ (b : List ℕ). overwrite c.args.out.now c.args.at (4 ∷ b)) (append_assoc (u64 c.args.collection) (u64 c.args.key) value)
