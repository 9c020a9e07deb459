-- `check_targets::target_seen` meets its contract: the triples of numbers are those that the list is made of.
use Rattle.std.specs.List.{list_any}
use Rattle.std.proofs.Common.{ap, ◌∙◌}
use Rattle.check_targets.specs.Targets.{check_target_of, tells_target}
use Rattle.check_targets.specs.TargetsLaws.{seen_in_threes}
use Rattle.check_targets.proofs.target_seen.Goals as goal

pub returns : goal.returns
returns c = c.is_among.ensures ∙ ap (list_any (tells_target (check_target_of c.args.target))) c.as_chunks.ensures.front ∙ seen_in_threes _ _
