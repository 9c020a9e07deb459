-- `operation::store_insert` meets its contract: the neighbour behind the entry, and the value behind it.
use Prim.Native.Nat.{ℕ, ◌+◌}
use mathlib.Core.List.{List, ◌∷◌, ◌++◌, append_assoc}
use mathlib.Core.Path.{◌≡◌, ap, ◌∙◌}
use native.Mathlib.Omega.{arith}
use borrow.Author.Rules.{rules}
use Rattle.bytes_wire.specs.Write.{overwrite}
use Rattle.spec_patch.specs.Encode.{u64, encode_optional, encode_value}
use Rattle.projection_patch.specs.Widths.{past_key}
use Rattle.projection_patch.specs.Meaning.{before_of, value_of}
use Rattle.patch_part_writer.specs.Extent.{before_size, value_size}
use Rattle.patch_part_writer.specs.ExtentLaws.{length_before, length_value}
use Rattle.patch_part_writer.proofs.Stored.{stored_first, next, length_entry}
use Rattle.patch_part_writer.proofs.operation.store_insert.Goals as goal

regroup : (a b c d : List ℕ) → a ++ b ++ c ++ d ≡ a ++ (b ++ (c ++ d))
regroup a b c d = simp append_assoc

pub returns : goal.returns
returns c =
    let collection = u64 c.args.collection in
    let key = u64 c.args.key in
    let neighbour = encode_optional (before_of c.args.before) in
    let value = encode_value (value_of c.args.texts.now c.args.value) in
    let entry = stored_first c.args.out.now c.args.at past_key (3 ∷ collection ++ key) (length_entry 3 c.args.collection c.args.key) c.store_entry.ensures in
    let placed = next entry (before_size c.args.before) neighbour (length_before c.args.before) (omega arith) c.store_before.ensures in
    let position : c.args.at + past_key + c.before_size.result ≡ c.args.at + (past_key + before_size c.args.before) = omega (arith, c.before_size.ensures) in
    (next placed (value_size c.args.value) value (length_value c.args.texts.now c.args.value c.requires.1.inside) (omega arith) (c.store_value.ensures ∙ ap (λ (n : ℕ). overwrite c.store_before.new.out n value) position)).is
    ∙ ap (λ (b : List ℕ). overwrite c.args.out.now c.args.at (3 ∷ b)) (regroup collection key neighbour value)
