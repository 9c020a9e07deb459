-- The premises of the theorem that each entry is found are met: the second entry of collection 9.
use Rattle.std.specs.Prelude.{◌≡◌, refl}
use Rattle.std.proofs.Math.Option.{some}
use Rattle.std.proofs.Common.{arith}
use Rattle.spec_patch.specs.Patch.{unsigned}
use Rattle.spec_projection.specs.Entries.{is_entry}
use Rattle.spec_projection.specs.Lookups.{entries_in, entries_of, entry_at}
use Rattle.spec_projection.specs.Valid.{Grouped}
use Rattle.spec_page.specs.Page.{page_entry}
use Rattle.spec_page.proofs.PageExamples.{two_collections}
use Rattle.spec_page.proofs.PageLaws.{page_finds}

two_grouped : Grouped two_collections.entries
unfolding is_entry
two_grouped = (
  (record { collection = omega arith; other = refl }, (record { collection = omega arith; other = refl }, (record { collection = omega arith; other = refl }, tt))),
  (
    (record { collection = omega arith; other = refl }, (record { collection = omega arith; other = refl }, tt)),
    ((record { collection = omega arith; other = refl }, tt), (tt, tt)),
  ),
)

pub found_at_1 : page_entry two_collections 9 0 ≡ some (record { position = 1; mark = 2; value = unsigned 0 })
unfolding entries_in entries_of entry_at
found_at_1 = page_finds two_collections two_grouped 9 1 (record { key = 0; mark = 2; value = unsigned 0 }) refl
