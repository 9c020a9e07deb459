-- `writing::write_patch` meets its contract: heading, head and operations one behind the other.
-- ---- where the heading has been stored
-- ---- and the head
use Prim.Native.Nat.{ℕ, ◌+◌}
use mathlib.Core.Path.{◌≡◌, sym, ap, ◌∙◌}
use mathlib.Core.List.{List, ◌++◌}
use native.Mathlib.Omega.{arith}
use borrow.Author.Rules.{rules}
use lib.ListN.{length}
use Rattle.spec_patch.specs.Encode.{u32, heading, encode_envelope}
use Rattle.bytes_wire.specs.Write.{overwrite}
use Rattle.bytes_wire.proofs.WriteLaws.{length_overwrite}
use Rattle.projection_patch.specs.Meaning.{edition_of, envelope_of}
use Rattle.patch_part_writer.specs.Extent.{head_size}
use Rattle.patch_part_writer.specs.ExtentLaws.{surface_small, length_heading, length_head}
use Rattle.patch_import.specs.Survey.{insert_bytes, held_of}
use Rattle.patch_import.specs.SetLaws.{import_parts}
use Rattle.patch_import.specs.WritingLaws.{held_few, three_written}
use Rattle.patch_import.proofs.writing.write_patch.Goals as goal
use Rattle.patch_import.proofs.writing.write_patch.Goals.{After-store_head, After-store_heading, Start}

abbrev front : Start → List ℕ
front s = heading (edition_of s.args.edition) ++ u32 1

abbrev head : Start → List ℕ
head s = encode_envelope (envelope_of s.args.patch.envelope) ++ u32 s.args.patch.operation_count

abbrev operations : Start → List ℕ
operations s = insert_bytes s.args.collection (held_of s.args.list.now)

long : (k : After-store_heading) → length k.store_heading.new.out ≡ length k.args.out.now
long k = ap length k.store_heading.ensures ∙ length_overwrite k.args.out.now 0 (front (goal.at.After-store_heading k).Start)

long-2 : (k : After-store_head) → length k.store_head.new.out ≡ length k.args.out.now
long-2 k = ap length k.store_head.ensures ∙ length_overwrite k.store_heading.new.out 35 (head (goal.at.After-store_head k).Start) ∙ long (goal.at.After-store_head k).After-store_heading

pub store_heading-requires : goal.store_heading-requires
store_heading-requires c = (omega (arith, c.requires.0.enough), omega arith)

pub store_head-requires : goal.store_head-requires
store_head-requires c =
    (omega (arith, long (goal.at.store_head-requires c).After-store_heading, c.requires.0.enough), omega (arith, c.requires.1, held_few c.requires.0))

pub overflow_add-head_size : goal.overflow_add-head_size
overflow_add-head_size c =
    omega (arith, c.head_size.ensures, surface_small c.args.patch.envelope.surface_id)

pub write_lines-requires : goal.write_lines-requires
write_lines-requires c =
    record { held = c.requires.0.held; enough = omega (arith, c.head_size.ensures, long-2 (goal.at.write_lines-requires c).After-store_head, c.requires.0.enough) }

pub returns : goal.returns
returns c =
    c.write_lines.ensures
    ∙ ap (λ (n : ℕ). overwrite c.store_head.new.out (35 + n) (operations (goal.at.returns c).Start)) c.head_size.ensures
    ∙ ap (λ (o : List ℕ). overwrite o (35 + head_size c.args.patch) (operations (goal.at.returns c).Start)) (c.store_head.ensures ∙ ap (λ (o : List ℕ). overwrite o 35 (head (goal.at.returns c).Start)) c.store_heading.ensures)
    ∙ three_written c.args.out.now (front (goal.at.returns c).Start) (head (goal.at.returns c).Start) (operations (goal.at.returns c).Start) (head_size c.args.patch) (length_heading (edition_of c.args.edition) 1) (length_head c.args.patch) c.requires.0.enough
    ∙ ap (overwrite c.args.out.now 0) (sym (import_parts (edition_of c.args.edition) c.args.collection c.args.patch (held_of c.args.list.now) c.requires.1))
