-- `bytes_records::keys::compare` meets its contract: each answer follows from the tests before it.
use native.Mathlib.Omega.{arith}
use lib.ListN.{length-take}
use borrow.Author.Rules.{rules}
use Rattle.bytes_records.proofs.Orders.{row_below, row_above, row_below_second, row_above_second, row_same}
use Rattle.bytes_records.proofs.keys.compare.Goals as goal

pub slice_bounds-number_of-end : goal.slice_bounds-number_of-end
slice_bounds-number_of-end c = simp length-take (omega arith)

pub number_of-own-requires : goal.number_of-own-requires
number_of-own-requires c = simp length-take (omega arith)

pub returns-then-own-id : goal.returns-then-own-id
returns-then-own-id c = row_below _ _ _ _ _ c.number_of-own.ensures (search rules)

pub returns-then-id-own : goal.returns-then-id-own
returns-then-id-own c = row_above _ _ _ _ _ c.number_of-own.ensures (search rules)

pub returns-then-behind-second : goal.returns-then-behind-second
returns-then-behind-second c =
    row_below_second _ _ _ _ _ c.number_of-own.ensures _ c.number_of-behind.ensures (search rules) (search rules) (search rules)

pub returns-then-second-behind : goal.returns-then-second-behind
returns-then-second-behind c =
    row_above_second _ _ _ _ _ c.number_of-own.ensures _ c.number_of-behind.ensures (search rules) (search rules) (search rules)

pub returns : goal.returns
returns c =
    row_same _ _ _ _ _ c.number_of-own.ensures _ c.number_of-behind.ensures (search rules) (search rules) (search rules) (search rules)
