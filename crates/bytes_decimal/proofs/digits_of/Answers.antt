-- `bytes_decimal::digits_of` meets its contract. The invariant: the digits of what is left stand before those that are stored.
use native.Mathlib.Omega.{arith}
use Rattle.bytes_decimal.proofs.Printing.{stored_start, digit_left, start_inside, stored_turn, stored_end}
use Rattle.bytes_decimal.proofs.digits_of.Goals as goal

pub loop-rest-init : goal.loop-rest-init
loop-rest-init c = stored_start c.args.n (omega arith)

pub bounds-bytes-start : goal.bounds-bytes-start
bounds-bytes-start c = omega (arith, start_inside c.loop-rest.invariant)

pub overflow_sub-start-in-loop-rest : goal.overflow_sub-start-in-loop-rest
overflow_sub-start-in-loop-rest c = omega (arith, digit_left c.loop-rest.invariant c.loop-rest-test.true)

pub loop-rest-preserved : goal.loop-rest-preserved
loop-rest-preserved c = stored_turn c.loop-rest.invariant c.loop-rest-test.true

pub bounds-bytes-start-2 : goal.bounds-bytes-start-2
bounds-bytes-start-2 c = omega (arith, start_inside c.loop-rest.invariant)

pub returns : goal.returns
returns c = let end = stored_end c.loop-rest.invariant c.loop-rest-test.false in record { bytes = end.0; place = end.1 }
