-- `fields::store_before` meets its contract: byte 0, or 1 and the number.
use Rattle.std.specs.Prelude as code
use Rattle.projection_patch.specs.declared.contract_primitives.CollectionKey.{CollectionKey}
use Prim.Native.Nat.{ℕ}
use Prim.Native.Nat.{ℕ, ◌+◌, ◌≤◌}
use mathlib.Core.List.{◌∷◌}
use mathlib.Core.Path.{sym, ap, subst, ◌∙◌}
use native.Mathlib.Omega.{arith}
use borrow.Author.Rules.{rules}
use lib.ListN.{length}
use Rattle.bytes_wire.specs.Write.{overwrite}
use Rattle.spec_patch.specs.Encode.{u64, encode_optional}
use Rattle.projection_patch.specs.Meaning.{before_of}
use Rattle.patch_part_writer.specs.Extent.{before_size}
use Rattle.patch_part_writer.proofs.Stored.{one_byte}
use Rattle.patch_part_writer.proofs.fields.store_before.Goals as goal

pub returns-in-None : goal.returns-in-None
unfolding encode_optional
returns-in-None c =
    c.write_u8_at.ensures.out_after
    ∙ ap (overwrite c.args.out.now c.args.at) (one_byte 0 (omega arith))
    ∙ sym (ap (λ (w : code.Option CollectionKey). overwrite c.args.out.now c.args.at (encode_optional (before_of w))) c.in-None.is)

pub returns-in-Some : goal.returns-in-Some
unfolding encode_optional
returns-in-Some c =
    c.store_tagged.ensures
    ∙ ap (λ (x : ℕ). overwrite c.args.out.now c.args.at (1 ∷ u64 x)) c.raw.ensures
    ∙ sym (ap (λ (w : code.Option CollectionKey). overwrite c.args.out.now c.args.at (encode_optional (before_of w))) c.in-Some.is)
