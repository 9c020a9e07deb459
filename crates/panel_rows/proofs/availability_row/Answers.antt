-- `availability_row` meets its contract: one field behind another.
use mathlib.Core.Path.{◌≡◌, refl, ap, ◌∙◌}
use mathlib.Core.List.{[], ◌∷◌}
use borrow.Author.Rules.{rules}
use Rattle.spec_lists.specs.Bytes.{little_endian}
use Rattle.spec_lists.proofs.BytesLaws.{length_little_endian}
use Rattle.spec_patch.specs.Patch.{Availability, available, unavailable, hidden, pending, stale}
use Rattle.spec_patch.specs.Encode.{u64, availability_byte}
use Rattle.bytes_records.specs.MovesLaws.{length_zeros}
use Rattle.bytes_wire.specs.Write.{overwrite}
use Rattle.projection_patch.specs.Meaning.{availability_value_of}
use Rattle.panel_rows.specs.Rows.{id_width, mark_width, availability_at, availability_width, availability_row}
use Rattle.panel_rows.proofs.Filling.{three_fields}
use Rattle.panel_rows.proofs.availability_row.Goals as goal

one_byte : (a : Availability) → little_endian 1 (availability_byte a) ≡ availability_byte a ∷ []
unfolding little_endian availability_byte
one_byte available = refl
one_byte unavailable = refl
one_byte hidden = refl
one_byte pending = refl
one_byte stale = refl

pub returns : goal.returns
unfolding availability_row
returns c =
    let state = availability_value_of c.args.availability in
    let byte = ap (little_endian 1) c.availability_byte.ensures ∙ one_byte state in
    three_fields _ (u64 c.args.node) (u64 c.args.mark) (availability_byte state ∷ []) id_width mark_width 1 (length_little_endian id_width _) (length_little_endian mark_width _) refl
    c.write_u64_at.ensures.out_after c.write_u64_at-2.ensures.out_after (c.write_u8_at.ensures.out_after ∙ ap (overwrite _ availability_at) byte) (length_zeros availability_width)
