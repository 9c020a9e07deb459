-- `rows::answer_head` meets its contract: a byte, and the position behind it.
use mathlib.Core.Path.{◌∙◌}
use mathlib.Core.List.{◌∷◌, append-nil}
use native.Mathlib.Omega.{arith}
use lib.ListN.{set}
use Rattle.spec_lists.proofs.BytesLaws.{length_little_endian}
use Rattle.spec_patch.specs.Encode.{u64}
use Rattle.bytes_records.specs.Moves.{zeros}
use Rattle.bytes_wire.proofs.WriteLaws.{has_room_lem, overwrite_in_place}
use Rattle.panel_page.specs.PageTable.{found_width, position_width, page_mark_at}
use borrow.Author.Rules.{rules}
use Rattle.panel_page.proofs.rows.answer_head.Goals as goal

pub returns : goal.returns
returns c =
    let cleared = set (zeros page_mark_at) 0 1 in
    c.write_u64_at.ensures.out_after
    ∙ overwrite_in_place cleared found_width (u64 c.args.position) position_width (length_little_endian position_width c.args.position) (has_room_lem cleared found_width position_width (omega arith))
    ∙ append-nil (1 ∷ u64 c.args.position)
