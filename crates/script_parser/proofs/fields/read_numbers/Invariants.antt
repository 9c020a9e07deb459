use Rattle.script_parser.proofs.Numbers.{Reading}
use Rattle.script_parser.proofs.fields.read_numbers.Given as goal

abbrev pub invariant-loop-i : goal.invariant-loop-i
invariant-loop-i l = Reading l.separator l.line l.end l.count l.i l.values l.at
