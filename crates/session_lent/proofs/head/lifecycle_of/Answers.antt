-- `lifecycle_of` meets its contract: any number past 2 is Closed.
use Rattle.session_lent.specs.HeadLaws.{numbered_created, numbered_active, numbered_suspended, numbered_closed}
use Rattle.session_lent.proofs.head.lifecycle_of.Goals as goal

pub returns-in-0 : goal.returns-in-0
returns-in-0 c = numbered_created _ c.in-0.is

pub returns-in-1 : goal.returns-in-1
returns-in-1 c = numbered_active _ c.in-1.is

pub returns-in-2 : goal.returns-in-2
returns-in-2 c = numbered_suspended _ c.in-2.is

pub returns-in_default : goal.returns-in_default
returns-in_default c = numbered_closed _ c.in_default.in_default-own.rest.0.0.1 c.in_default.in_default-own.rest.0.1 c.in_default.in_default-own.rest.1
