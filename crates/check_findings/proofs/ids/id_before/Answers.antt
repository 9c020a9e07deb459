-- `check_findings::ids::id_before` meets its contract: the search, then the store.
use Rattle.std.specs.Prelude.{eqb}
use Rattle.std.proofs.Common.{◌∙◌}
use Rattle.spec_lists.proofs.AnyLaws.{any_listed}
use Rattle.check_findings.specs.Ids.{id_seen}
use Rattle.check_findings.proofs.ids.id_before.Goals as goal

pub returns-clause-seen : goal.returns-clause-seen
unfolding id_seen
returns-clause-seen c = c.contains-seen.ensures.value ∙ any_listed (λ n. eqb n c.args.id) _
