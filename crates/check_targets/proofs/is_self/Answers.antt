-- `check_targets::is_self` meets its contract.
use Rattle.spec_checks.specs.PatchChecks.{is_self}
use Rattle.check_targets.proofs.is_self.Goals as goal

pub returns-in-None : goal.returns-in-None
unfolding is_self
returns-in-None c = rw c.in-None.is

pub returns-in-Some : goal.returns-in-Some
unfolding is_self
returns-in-Some c = rw (c.raw.ensures, c.raw-in-Some.ensures, c.in-Some.is)
