-- `store_new` meets its contract: every number is written.
use native.Mathlib.Omega.{arith}
use lib.ListN.{length-set}
use Rattle.session_lent.specs.HeadLaws.{head_written}
use borrow.Author.Rules.{rules}
use Rattle.session_lent.proofs.head.store_new.Goals as goal

pub bounds-head-4 : goal.bounds-head-4
bounds-head-4 c = simp length-set (omega arith)

pub bounds-head-5 : goal.bounds-head-5
bounds-head-5 c = simp length-set (omega arith)

pub bounds-head-6 : goal.bounds-head-6
bounds-head-6 c = simp length-set (omega arith)

pub bounds-head-7 : goal.bounds-head-7
bounds-head-7 c = simp length-set (omega arith)

pub bounds-head-8 : goal.bounds-head-8
bounds-head-8 c = simp length-set (omega arith)

pub bounds-head-9 : goal.bounds-head-9
bounds-head-9 c = simp length-set (omega arith)

pub bounds-head-10 : goal.bounds-head-10
bounds-head-10 c = simp length-set (omega arith)

pub returns : goal.returns
returns c = head_written c.args.head.now _ _ _ _ _ _ _ _ _ _ _ c.requires
