use Rattle.bytes_decimal.proofs.Printing.{StoredDigits}
use Rattle.bytes_decimal.proofs.digits_of.Given as goal

abbrev pub invariant-loop-rest : goal.invariant-loop-rest
invariant-loop-rest l = StoredDigits l.n l.start l.rest l.bytes

abbrev pub decreases-loop-rest : goal.decreases-loop-rest
decreases-loop-rest l = l.rest
