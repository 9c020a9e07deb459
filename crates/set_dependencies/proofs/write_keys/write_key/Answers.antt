-- `write_key` meets its contract: a row of the other list is passed over, and one of this list has room.
use native.Mathlib.Omega.{arith}
use lib.ListN.{length-set}
use borrow.Author.Rules.{rules}
use Rattle.set_dependencies.specs.SettledRowsLaws.{not_true, not_false}
use Rattle.set_dependencies.specs.WrittenKeysLaws.{keys_left_other, keys_left_room, keys_left_own}
use Rattle.set_dependencies.proofs.write_keys.write_key.Goals as goal

pub returns-then-settled-at_start : goal.returns-then-settled-at_start
returns-then-settled-at_start c = record { left = λ t total whole few h. keys_left_other _ _ t _ _ total whole h (not_true _ c.if-settled-at_start.true); within = search rules }

pub returns-then-out-written : goal.returns-then-out-written
returns-then-out-written c =
    record { left = λ t total whole few h. absurd (omega (arith, keys_left_room _ _ t _ _ total whole h (not_false _ c.if-settled-at_start.false) few, c.if-out-written.true)); within = search rules }

pub bounds-out-at-2 : goal.bounds-out-at-2
bounds-out-at-2 c = simp length-set (omega arith)

pub returns : goal.returns
returns c =
    record { left = λ t total whole few h. keys_left_own _ _ t _ _ total whole h (not_false _ c.if-settled-at_start.false) (omega arith); within = (omega arith, omega arith) }
