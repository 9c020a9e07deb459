use Prim.Native.Nat.{◌-◌, ◌≤◌}
use mathlib.Core.Path.{◌≡◌, refl, sym, ◌∙◌}
use mathlib.Core.List.{List}
use native.Mathlib.Omega.{arith}
use borrow.Author.Rules.{rules}
use lib.ListN.{drop}
use Rattle.spec_lists.specs.Lists.{All}
use Rattle.spec_patch.specs.Sizes.{projection_entries}
use Rattle.spec_projection.specs.Projection.{Projection}
use Rattle.spec_projection.specs.Valid.{Valid}
use Rattle.spec_lengths.specs.Lengths.{CollectionLength, collection_lengths, length_of, FitsLength}
use Rattle.spec_lengths.proofs.LengthsLaws.{length_kept, lengths_fit}
use Rattle.local_projection_state.specs.Stores.{StoredLengths}
use Rattle.panel_lengths.specs.LengthRowsLaws.{few_rows, lengths_past, lengths_ended, own_row, other_row}
use Rattle.panel_lengths.proofs.lookup.collection_length.Given as goal

abbrev pub invariant-loop-i : goal.invariant-loop-i
invariant-loop-i s = (l : List CollectionLength) → StoredLengths s.table l → All FitsLength l → length_of s.collection (drop s.i l) ≡ length_of s.collection l
