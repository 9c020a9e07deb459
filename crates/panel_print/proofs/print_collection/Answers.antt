-- `print_collection` meets its contract: every print fits the text.
use Prim.Native.Nat.{ℕ}
use native.Mathlib.Omega.{arith}
use lib.ListN.{length-replicate}
use borrow.Author.Rules.{rules}
use Rattle.spec_panel_print.specs.Print.{collection_print}
use Rattle.spec_panel_print.specs.PrintSizes.{print_bytes}
use Rattle.spec_panel_print.proofs.PrintSizesLaws.{print_fits}
use Rattle.bytes_printer.proofs.PrintsLaws.{prints_same}
use Rattle.panel_print.specs.EntriesPrintLaws.{rows_print}
use Rattle.panel_print.specs.AnswersLaws.{printed_whole}
use Rattle.panel_print.proofs.print_collection.Goals as goal

pub returns : goal.returns
returns c =
    record {
      printed = (λ p s v.
          let made = prints_same (rows_print p c.args.collection) (c.print_rows-end.ensures p.entries v.fit_entries s.rows (omega arith)) in
          c.write_print.ensures.printed (collection_print p c.args.collection) (printed_whole made (omega (arith, print_fits p c.args.collection v, length-replicate {A = ℕ} print_bytes 0))));
      kept = c.write_print.ensures.kept;
    }
