-- `head::store_head` meets its contract: the surface behind the first three numbers, and the other numbers behind it.
use Prim.Native.Nat.{ℕ, ◌+◌}
use mathlib.Core.List.{List, ◌++◌, append_assoc}
use mathlib.Core.Path.{◌≡◌, ap, ◌∙◌}
use native.Mathlib.Omega.{arith}
use borrow.Author.Rules.{rules}
use lib.ListN.{length, length-append}
use Rattle.bytes_wire.specs.Write.{overwrite}
use Rattle.spec_patch.specs.Encode.{u32, u64, encode_optional, encode_envelope}
use Rattle.spec_lists.proofs.BytesLaws.{length_little_endian}
use Rattle.projection_patch.specs.Widths.{three_ids}
use Rattle.projection_patch.specs.Meaning.{surface_of}
use Rattle.patch_part_writer.specs.Extent.{surface_size}
use Rattle.patch_part_writer.specs.ExtentLaws.{length_surface}
use Rattle.patch_part_writer.proofs.Stored.{stored_first, next}
use Rattle.patch_part_writer.proofs.head.store_head.Goals as goal

long : (a b c : ℕ) → length (u64 a ++ (u64 b ++ u64 c)) ≡ three_ids
long a b c = simp (length-append, length_little_endian)

same : (l : List ℕ) (at : ℕ) {a b c a' b' c' : ℕ} → a ≡ a' → b ≡ b' → c ≡ c' → overwrite l at (u64 a ++ (u64 b ++ u64 c)) ≡ overwrite l at (u64 a' ++ (u64 b' ++ u64 c'))
same l at p q r = cc

-- the numbers behind the surface
abbrev course : (previous revision epoch sequence count : ℕ) → List ℕ
course previous revision epoch sequence count = u64 previous ++ (u64 revision ++ u64 epoch) ++ u64 sequence ++ u32 count

course_long : (previous revision epoch sequence count : ℕ) → length (course previous revision epoch sequence count) ≡ 36
course_long previous revision epoch sequence count = simp (length-append, length_little_endian)

regroup : (a b c s d e f g n : List ℕ) → (a ++ (b ++ c)) ++ s ++ (d ++ (e ++ f) ++ g ++ n) ≡ (a ++ (b ++ (c ++ (s ++ (d ++ (e ++ (f ++ g))))))) ++ n
regroup a b c s d e f g n = simp append_assoc

pub returns : goal.returns
unfolding encode_envelope
returns c =
    let three = stored_first c.args.out.now c.args.at three_ids (u64 c.args.patch.envelope.patch_id.0 ++ (u64 c.args.patch.envelope.stream_id.0 ++ u64 c.args.patch.envelope.document_id.0)) (long c.args.patch.envelope.patch_id.0 c.args.patch.envelope.stream_id.0 c.args.patch.envelope.document_id.0) (c.store_three.ensures ∙ same c.args.out.now c.args.at c.raw.ensures c.raw-2.ensures c.raw-3.ensures) in
    let placed = next three (surface_size c.args.patch.envelope.surface_id) (encode_optional (surface_of c.args.patch.envelope.surface_id)) (length_surface c.args.patch.envelope.surface_id) (omega arith) c.store_surface.ensures in
    let position : c.args.at + three_ids + c.surface_size.result ≡ c.args.at + (three_ids + surface_size c.args.patch.envelope.surface_id) = omega (arith, c.surface_size.ensures) in
    let rest = course c.args.patch.envelope.previous_projection_revision.0 c.args.patch.envelope.projection_revision.0 c.args.patch.envelope.epoch.0 c.args.patch.envelope.sequence.0 c.args.patch.operation_count in
    (next placed 36 rest (course_long c.args.patch.envelope.previous_projection_revision.0 c.args.patch.envelope.projection_revision.0 c.args.patch.envelope.epoch.0 c.args.patch.envelope.sequence.0 c.args.patch.operation_count) (omega arith) (c.store_behind_surface.ensures ∙ ap (λ (n : ℕ). overwrite c.store_surface.new.out n rest) position)).is
    ∙ ap (overwrite c.args.out.now c.args.at) (regroup (u64 c.args.patch.envelope.patch_id.0) (u64 c.args.patch.envelope.stream_id.0) (u64 c.args.patch.envelope.document_id.0) (encode_optional (surface_of c.args.patch.envelope.surface_id)) (u64 c.args.patch.envelope.previous_projection_revision.0) (u64 c.args.patch.envelope.projection_revision.0) (u64 c.args.patch.envelope.epoch.0) (u64 c.args.patch.envelope.sequence.0) (u32 c.args.patch.operation_count))
