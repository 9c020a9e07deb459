-- `settled_key` meets its contract: the fields of a row are those that were written.
use mathlib.Core.Path.{ap, ◌∙◌}
use native.Mathlib.Omega.{arith}
use lib.ListN.{length, length-take}
use borrow.Author.Rules.{rules}
use Rattle.set_dependencies.specs.SettledRowsLaws.{row_wide}
use Rattle.set_dependencies.proofs.Rows.{reads_collection, reads_key, reads_start, reads_now}
use Rattle.set_dependencies.proofs.settled_rows.settled_key.Goals as goal

pub returns-then-row-lt-WIDTH : goal.returns-then-row-lt-WIDTH
returns-then-row-lt-WIDTH c = λ s fits is. absurd (omega (arith, row_wide s, ap length is, c.if-row-lt-WIDTH.true))

pub slice_bounds-number_of-end : goal.slice_bounds-number_of-end
slice_bounds-number_of-end c = simp length-take (omega arith)

pub number_of-requires : goal.number_of-requires
number_of-requires c = simp length-take (omega arith)

pub returns : goal.returns
returns c =
    λ s fits is. λ i. record {
      collection = (c.number_of.ensures ∙ reads_collection s fits _ is) i;
      key = (c.number_of-2.ensures ∙ reads_key s fits _ is) i;
      at_start = reads_start s fits _ is i;
      now = reads_now s fits _ is i;
    }
