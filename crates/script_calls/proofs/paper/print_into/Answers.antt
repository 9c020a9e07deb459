-- `script_calls::paper::print_into` meets its contract: every print fits the longest, so that as much as the room says is lent in effect.
use Prim.Native.Nat.{ℕ, ◌-◌, ◌≤◌, min}
use mathlib.Core.Path.{◌≡◌, ap, ◌∙◌}
use native.Mathlib.Omega.{arith}
use borrow.Author.Rules.{rules}
use lib.ListN.{length, take, drop, replicate, length-replicate}
use lib.Seq.{length-take-le}
use Rattle.spec_panel_print.specs.Print.{collection_print}
use Rattle.spec_panel_print.specs.PrintSizes.{print_bytes}
use Rattle.spec_panel_print.proofs.PrintSizesLaws.{print_fits}
use Rattle.bytes_printer.proofs.PrintsLaws.{prints_same}
use Rattle.script_calls.specs.PaperLaws.{longest_suffices}
use Rattle.script_calls.proofs.paper.print_into.Goals as goal

lent_length : (n room : ℕ) → room ≤ n → length (take (room - 0) (drop 0 (replicate {A = ℕ} n 0))) ≡ room
lent_length n room h =
    let same : room - 0 ≡ room = omega arith in
    length-take-le (room - 0) (replicate n 0) (omega (arith, length-replicate {A = ℕ} n 0)) ∙ same

pub slice_bounds-lent-end : goal.slice_bounds-lent-end
slice_bounds-lent-end c = omega (arith, c.lent_bytes-end.ensures.1)

pub returns : goal.returns
returns c =
    λ m h.
    let size = lent_length print_bytes c.lent_bytes-end.result c.lent_bytes-end.ensures.1 ∙ c.lent_bytes-end.ensures.0 in
    prints_same (longest_suffices c.args.room _ (collection_print m.projection c.args.collection) size (print_fits m.projection c.args.collection h.projection.tables.valid)) (c.print_lent.ensures m h)
