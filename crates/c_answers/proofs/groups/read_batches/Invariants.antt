use Prim.Native.Nat.{ℕ, ◌+◌, ◌-◌, ◌*◌, ◌≤◌, min}
use mathlib.Core.Path.{◌≡◌, refl, sym, ap, subst, ◌∙◌}
use mathlib.Core.Bool.{Bool, ◌&&◌}
use mathlib.Core.List.{List}
use native.Mathlib.Nat.{min-le_left, min-le_right}
use native.Mathlib.Omega.{arith}
use borrow.Author.Rules.{rules}
use lib.ListN.{length, get_or, take, drop, length-drop}
use lib.Seq.{length-take-le, get_or-take, get_or-drop}
use Rattle.spec_group.specs.Group.{group_batches}
use Rattle.c_answers.specs.Asked.{is_edition}
use Rattle.c_answers.specs.GroupNumbers.{batch_numbers, batch_of_numbers, numbers_at, batch_count, editions_known}
use Rattle.c_answers.specs.GroupNumbersLaws.{BatchesUpTo, batches_start, batches_turn, batches_named}
use Rattle.c_answers.proofs.groups.read_batches.Given as goal

abbrev pub invariant-loop-place : goal.invariant-loop-place
invariant-loop-place l = (l.place ≤ l.used) × BatchesUpTo l.numbers l.known l.batches l.place
