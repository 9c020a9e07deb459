use Prim.Native.Nat.{◌+◌, ◌-◌, ◌≤◌}
use mathlib.Core.Path.{◌≡◌, refl, sym, ap, ◌∙◌}
use native.Mathlib.Omega.{arith}
use borrow.Author.Rules.{rules}
use Rattle.panel_lengths.specs.Runs.{leading, collections_from}
use Rattle.panel_lengths.specs.RunsLaws.{leading_own, leading_other, leading_end}
use Rattle.panel_lengths.proofs.write.run_end.Given as goal

abbrev pub invariant-loop-i : goal.invariant-loop-i
invariant-loop-i l = l.i + leading l.collection (collections_from l.i (l.count - l.i) l.plan) ≡ l.from + leading l.collection (collections_from l.from (l.count - l.from) l.plan)
