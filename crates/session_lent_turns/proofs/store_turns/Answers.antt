-- `store_turns` meets its contract: every number is written.
use mathlib.Core.Path.{◌∙◌}
use mathlib.Core.List.{[], ◌∷◌}
use native.Mathlib.Omega.{arith}
use Rattle.session_lent.specs.HeadLaws.{head_written}
use lib.ListN.{length-set}
use borrow.Author.Rules.{rules}
use Rattle.session_lent_turns.proofs.store_turns.Goals as goal

pub bounds-numbers-4 : goal.bounds-numbers-4
bounds-numbers-4 c = simp length-set (omega arith)

pub bounds-numbers-5 : goal.bounds-numbers-5
bounds-numbers-5 c = simp length-set (omega arith)

pub bounds-numbers-6 : goal.bounds-numbers-6
bounds-numbers-6 c = simp length-set (omega arith)

pub bounds-numbers-7 : goal.bounds-numbers-7
bounds-numbers-7 c = simp length-set (omega arith)

pub bounds-numbers-8 : goal.bounds-numbers-8
bounds-numbers-8 c = simp length-set (omega arith)

pub bounds-numbers-9 : goal.bounds-numbers-9
bounds-numbers-9 c = simp length-set (omega arith)

pub bounds-numbers-10 : goal.bounds-numbers-10
bounds-numbers-10 c = simp length-set (omega arith)

pub shape_of-numbers : goal.shape_of-numbers
shape_of-numbers c = simp length-set

pub returns : goal.returns
returns c =
    head_written c.args.numbers.now _ _ _ _ _ _ _ _ _ _ _ c.requires
    ∙ (λ i. c.args.turns.senders ∷ c.flag.ensures i ∷ c.flag-2.ensures i ∷ c.flag-3.ensures i ∷ c.flag-4.ensures i ∷ c.flag-5.ensures i ∷ c.flag-6.ensures i ∷ c.flag-7.ensures i ∷ c.flag-8.ensures i ∷ c.named_kind.ensures i ∷ c.named_number.ensures i ∷ [])
