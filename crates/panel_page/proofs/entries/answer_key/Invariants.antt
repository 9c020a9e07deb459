use Prim.Native.Nat.{ℕ, ◌+◌, ◌-◌}
use mathlib.Core.Path.{◌≡◌, refl, sym, ap, ◌∙◌, subst}
use mathlib.Core.List.{List, map}
use native.Mathlib.Omega.{arith}
use borrow.Author.Rules.{rules}
use lib.ListN.{length}
use Rattle.panel_rows.specs.Rows.{filled_row}
use Rattle.panel_page.specs.PageTable.{page_width}
use Rattle.panel_page.specs.Index.{index_place_of, OnChain}
use Rattle.panel_page.proofs.IndexLaws.{last_le, on_chain, chain_start, chain_next}
use Rattle.panel_page.specs.Answering.{answering, mixed}
use Rattle.panel_page.proofs.AnsweringLaws.{mixed_start, mixed_end, chain_passed}
use Rattle.panel_page.specs.Shown.{Shows}
use Rattle.panel_page.proofs.entries.answer_key.Given as goal

abbrev pub invariant-loop-next : goal.invariant-loop-next
invariant-loop-next l =
    OnChain l.keys l.key l.next × ((length l.answers ≡ length l.initial.answers) × ((f : ℕ → List ℕ) → Shows (length l.keys) l.initial.answers (map f l.keys) → Shows (length l.keys) l.answers (mixed f (answering l.key (filled_row page_width l.head l.rest) f) l.keys l.next)))

abbrev pub decreases-loop-next : goal.decreases-loop-next
decreases-loop-next l = l.next
