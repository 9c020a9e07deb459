-- `find::has_neighbour` meets its contract.
use mathlib.Core.Path.{◌≡◌, refl, ◌∙◌}
use Rattle.std.specs.Prelude as code
use Rattle.projection_patch.specs.Meaning.{before_of}
use Rattle.projection_patch.specs.declared.contract_primitives.CollectionKey.{CollectionKey}
use Rattle.panel_entries.specs.Places.{is_placed}
use Rattle.panel_entries.proofs.find.has_neighbour.Goals as goal

named : (before : code.Option CollectionKey) → code.is_some before ≡ is_placed (before_of before)
unfolding is_placed
named code.None = refl
named (code.Some key) = refl

pub returns : goal.returns
returns c = c.is_some.ensures ∙ named c.args.before
