-- `check_findings::found::envelope_found` meets its contract: the tests are those of the list, one after the other.
use Rattle.std.proofs.Common.{arith}
use Rattle.std.proofs.lemmas.Bool.Decides.{nat_tests}
use Rattle.check_findings.specs.FoundLaws.{found_optional, found_next}
use Rattle.check_findings.proofs.found.envelope_found.Goals as goal
use Rattle.check_findings.proofs.found.envelope_found.Goals.{then-is_some, else-is_some}

pub returns-then-is_some-2 : goal.returns-then-is_some-2
returns-then-is_some-2 c =
    rw (found_next, found_next, found_optional) (elim c.if-is_some.branch [ then-is_some w ↦ grind (arith, nat_tests) | else-is_some w ↦ grind (arith, nat_tests) ])

pub returns-else-is_some-2 : goal.returns-else-is_some-2
returns-else-is_some-2 c =
    rw (found_next, found_next, found_optional) (elim c.if-is_some.branch [ then-is_some w ↦ grind (arith, nat_tests) | else-is_some w ↦ grind (arith, nat_tests) ])
