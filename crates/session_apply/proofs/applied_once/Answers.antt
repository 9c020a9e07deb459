-- `applied_once` meets its contract: the step in place, of a session in a local.
use Rattle.session_apply.proofs.AppliedLaws.{stepped}
use Rattle.session_apply.proofs.applied_once.Goals as goal

pub returns : goal.returns
returns c = stepped c.args.session c.args.input c.apply-result.result c.apply-result.new.session c.apply-result.ensures
