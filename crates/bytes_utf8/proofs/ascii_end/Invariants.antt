use Rattle.bytes_utf8.specs.Characters.{AsciiBetween}
use Rattle.bytes_utf8.proofs.ascii_end.Given as goal

abbrev pub invariant-loop-i : goal.invariant-loop-i
invariant-loop-i l = AsciiBetween l.text l.from l.i
