-- `columns::print_spaces` meets its contract: a part of a row of spaces.
use Prim.Native.Nat.{ℕ, ◌-◌, ◌≤◌}
use mathlib.Core.Path.{◌≡◌, ap, ◌∙◌}
use native.Mathlib.Omega.{arith}
use lib.ListN.{take, replicate}
use borrow.Author.Rules.{rules}
use Rattle.spec_panel_print.specs.Print.{text_width, blank}
use Rattle.bytes_printer.proofs.PrintsLaws.{prints_same}
use Rattle.panel_print.specs.ByteFlowLaws.{some_blanks}
use Rattle.panel_print.proofs.columns.print_spaces.Goals as goal

pub returns : goal.returns
returns c =
    prints_same (part c.args.n (omega arith)) c.print_bytes.ensures
  where
    part : (n : ℕ) → n ≤ text_width → take (n - 0) (replicate text_width blank) ≡ replicate n blank
    part n h = let same : n - 0 ≡ n = omega arith in ap (λ (k : ℕ). take k (replicate text_width blank)) same ∙ some_blanks n text_width h
