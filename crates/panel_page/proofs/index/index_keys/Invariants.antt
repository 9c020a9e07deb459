use Prim.Native.Nat.{ℕ, ◌+◌, ◌-◌, ◌≤◌}
use mathlib.Core.Path.{◌≡◌, refl, sym, subst}
use native.Mathlib.Omega.{arith}
use borrow.Author.Rules.{rules}
use lib.ListN.{length, get_or, set}
use Rattle.panel_page.specs.Index.{Indexed}
use Rattle.panel_page.proofs.IndexLaws.{index_start, index_turn}
use Rattle.panel_page.proofs.index.index_keys.Given as goal

abbrev pub invariant-loop-i : goal.invariant-loop-i
invariant-loop-i l = (l.i ≤ length l.keys) × ((length l.keys ≤ length l.earlier) × ((length l.earlier ≡ length l.initial.earlier) × ((length l.heads ≡ length l.initial.heads) × Indexed l.i l.keys l.heads l.earlier)))

abbrev pub decreases-loop-i : goal.decreases-loop-i
decreases-loop-i l = length l.keys - l.i
