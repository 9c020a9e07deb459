-- `length_row` meets its contract: one field behind another.
use borrow.Author.Rules.{rules}
use Rattle.spec_lists.proofs.BytesLaws.{length_little_endian}
use Rattle.spec_patch.specs.Encode.{u64}
use Rattle.bytes_records.specs.MovesLaws.{length_zeros}
use Rattle.panel_rows.specs.Rows.{id_width, count_width, length_width, length_row}
use Rattle.panel_rows.proofs.Filling.{two_fields}
use Rattle.panel_rows.proofs.length_row.Goals as goal

pub returns : goal.returns
unfolding length_row
returns c =
    two_fields _ (u64 c.args.collection) (u64 c.args.length) id_width count_width (length_little_endian id_width _) (length_little_endian count_width _) c.write_u64_at.ensures.out_after c.write_u64_at-2.ensures.out_after (length_zeros length_width)
