-- `panel_changes::apply_set` meets its contract: its own plan is all zeros.
use mathlib.Core.Path.{refl}
use borrow.Author.Rules.{rules}
use Rattle.panel_changes.proofs.apply_set.Goals as goal

pub returns : goal.returns
returns c =
    record { changed = λ p ps st readable ready. c.apply_set_with_plan.ensures.changed p ps st readable ready (record { bindings = refl; availability = refl; entries = refl }); kept = c.apply_set_with_plan.ensures.kept }
