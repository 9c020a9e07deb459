-- `head::store_behind_surface` meets its contract: five numbers, one behind the other.
use Prim.Native.Nat.{ℕ, ◌+◌}
use mathlib.Core.List.{List, ◌++◌}
use mathlib.Core.Path.{◌≡◌, ap, ◌∙◌}
use native.Mathlib.Omega.{arith}
use borrow.Author.Rules.{rules}
use lib.ListN.{length, length-append}
use Rattle.bytes_wire.specs.Write.{overwrite}
use Rattle.spec_patch.specs.Encode.{u64}
use Rattle.spec_lists.proofs.BytesLaws.{length_little_endian}
use Rattle.projection_patch.specs.Widths.{three_ids}
use Rattle.patch_part_writer.proofs.Stored.{stored_first, next_number}
use Rattle.patch_part_writer.proofs.head.store_behind_surface.Goals as goal

long : (a b c : ℕ) → length (u64 a ++ (u64 b ++ u64 c)) ≡ three_ids
long a b c = simp (length-append, length_little_endian)

same : (l : List ℕ) (at : ℕ) {a b c a' b' c' : ℕ} → a ≡ a' → b ≡ b' → c ≡ c' → overwrite l at (u64 a ++ (u64 b ++ u64 c)) ≡ overwrite l at (u64 a' ++ (u64 b' ++ u64 c'))
same l at p q r = cc

pub returns : goal.returns
returns c =
    let three = stored_first c.args.out.now c.args.at three_ids (u64 c.args.envelope.previous_projection_revision.0 ++ (u64 c.args.envelope.projection_revision.0 ++ u64 c.args.envelope.epoch.0)) (long c.args.envelope.previous_projection_revision.0 c.args.envelope.projection_revision.0 c.args.envelope.epoch.0) (c.store_three.ensures ∙ same c.args.out.now c.args.at c.raw.ensures c.raw-2.ensures c.raw-3.ensures) in
    let four = next_number three 8 c.args.envelope.sequence.0 (omega arith) (c.write_u64_at.ensures.out_after ∙ ap (λ (x : ℕ). overwrite c.store_three.new.out (c.args.at + three_ids) (u64 x)) c.raw-4.ensures) in
    (next_number four 4 c.args.operation_count (omega arith) c.write_u32_at.ensures.out_after).is
