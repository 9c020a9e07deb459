-- `store_moved` meets its contract: every number is written.
use native.Mathlib.Omega.{arith}
use lib.ListN.{length-set}
use Rattle.session_lent.specs.HeadLaws.{head_written}
use borrow.Author.Rules.{rules}
use Rattle.session_lent.proofs.head.store_moved.Goals as goal

pub bounds-to-4 : goal.bounds-to-4
bounds-to-4 c = simp length-set (omega arith)

pub bounds-to-5 : goal.bounds-to-5
bounds-to-5 c = simp length-set (omega arith)

pub bounds-to-6 : goal.bounds-to-6
bounds-to-6 c = simp length-set (omega arith)

pub bounds-to-7 : goal.bounds-to-7
bounds-to-7 c = simp length-set (omega arith)

pub bounds-to-8 : goal.bounds-to-8
bounds-to-8 c = simp length-set (omega arith)

pub bounds-to-9 : goal.bounds-to-9
bounds-to-9 c = simp length-set (omega arith)

pub bounds-to-10 : goal.bounds-to-10
bounds-to-10 c = simp length-set (omega arith)

pub shape_of-to : goal.shape_of-to
shape_of-to c = simp length-set

pub returns : goal.returns
returns c = head_written c.args.to.now _ _ _ _ _ _ _ _ _ _ _ c.requires.1
