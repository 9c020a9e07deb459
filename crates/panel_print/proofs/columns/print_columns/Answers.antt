-- `columns::print_columns` meets its contract. The invariant: printing what is left completes the print.
use Prim.Native.Nat.{ℕ, ◌+◌, ◌-◌, ◌≤◌}
use mathlib.Core.Path.{◌≡◌, refl, sym, ap, ◌∙◌}
use mathlib.Core.List.{List, ◌++◌}
use native.Mathlib.Omega.{arith}
use borrow.Author.Rules.{rules}
use lib.ListN.{length, drop, get_or}
use Rattle.spec_panel_print.specs.Print.{text_width}
use Rattle.bytes_printer.specs.Prints.{Prints}
use Rattle.bytes_printer.proofs.PrintsLaws.{◌⨾◌, prints_same}
use Rattle.panel_print.specs.ByteFlow.{flowed_bytes, broken_byte}
use Rattle.panel_print.specs.ByteFlowLaws.{flow_turn, flow_end}
use Rattle.panel_print.proofs.columns.print_columns.Goals as goal

pub loop-byte-init : goal.loop-byte-init
loop-byte-init c = (omega arith, λ m r p. p)

pub column_after-column-requires : goal.column_after-column-requires
column_after-column-requires c = c.loop-byte.invariant.0

pub loop-byte-preserved : goal.loop-byte-preserved
loop-byte-preserved c = (
  c.column_after-column.ensures.within,
  λ m r q.
      let left = ap (λ (k : ℕ). broken_byte c.loop-byte.column (get_or c.args.bytes.now c.loop-byte.byte-index 0) ++ flowed_bytes k (drop (c.loop-byte.byte-index + 1) c.args.bytes.now)) c.column_after-column.ensures.after in
      c.loop-byte.invariant.1 m r (prints_same (left ∙ sym (flow_turn c.loop-byte.column c.args.bytes.now c.loop-byte.byte-index (omega arith))) (c.print_broken_byte-at.ensures ⨾ q)),
)

pub returns : goal.returns
returns c =
    c.loop-byte.invariant.1 _ _ (prints_same (sym (flow_end c.loop-byte.column c.args.bytes.now c.loop-byte.byte-index (omega arith))) (c.print_spaces-padded.ensures ⨾ c.print_newline.ensures))
