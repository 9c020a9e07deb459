-- `contains_binding` meets its contract: the pairs of numbers are those that the list is made of.
use Rattle.std.specs.Prelude.{eqb, [], ◌∷◌}
use Rattle.std.specs.List.{list_any}
use Rattle.std.proofs.Common.{ap, ◌∙◌}
use lib.Pointwise.{pointwise}
use Rattle.active_projection_target_catalog.proofs.CatalogLaws.{seen_in_pairs}
use Rattle.active_projection_target_catalog.proofs.membership.contains_binding.Goals as goal

pub returns : goal.returns
returns c = c.contains.ensures.value ∙ ap (list_any (λ y. pointwise eqb y (c.args.node ∷ c.args.slot ∷ []))) c.as_chunks.ensures.front ∙ seen_in_pairs _ _ _
