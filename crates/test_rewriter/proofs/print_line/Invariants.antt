-- `print_line` stays in its line: two digits are written for each byte.
use Rattle.std.proofs.Common.{◌≡◌, length}
use Rattle.test_rewriter.proofs.print_line.Given as goal

abbrev pub invariant-loop-i : goal.invariant-loop-i
invariant-loop-i g l = length l.line ≡ 65537
