-- `check_quick::inspection::inspect_set` meets its contract: so few bytes hold no more patches than the short table has ids.
use native.Mathlib.Omega.{arith}
use borrow.Author.Rules.{rules}
use Rattle.check_quick.proofs.inspection.inspect_set.Goals as goal

pub inspect_with-requires : goal.inspect_with-requires
inspect_with-requires c = λ n few fits. omega arith

pub inspect_with-requires-2 : goal.inspect_with-requires-2
inspect_with-requires-2 c = λ n few fits. omega arith
