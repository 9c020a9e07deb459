-- `places::change_places` meets its contract. The invariant: the first i places are done. The measure is the places left.
use Prim.Native.Nat.{ℕ, ◌-◌, ◌*◌, ◌≤◌}
use mathlib.Core.Path.{◌≡◌, subst}
use mathlib.Core.List.{List}
use native.Mathlib.Omega.{arith}
use borrow.Author.Rules.{rules}
use lib.ListN.{length}
use Rattle.bytes_records.specs.Table.{HoldsRows}
use Rattle.panel_page.specs.PageTable.{page_width}
use Rattle.panel_page.specs.Shown.{place_after}
use Rattle.panel_page.specs.ShownLaws.{length_after}
use Rattle.panel_page.proofs.PlacesLent.{changed_to, changed_turn, changed_all}
use Rattle.panel_page.proofs.places.change_places.Goals as goal

pub loop-i-init : goal.loop-i-init
loop-i-init c = (omega arith, (c.requires, λ m t. t))

pub loop-i-preserved : goal.loop-i-preserved
loop-i-preserved c = (
  search rules,
  (
    search rules,
    λ m t. changed_turn (place_after c.args.ending) (length_after c.args.ending) m c.loop-i.i (omega arith) t.counted (c.loop-i.invariant.1.1 m t) _ c.change_place.ensures,
  ),
)

pub returns : goal.returns
returns c =
    λ m t. subst (HoldsRows page_width c.args.count c.loop-i.answers) (changed_all (place_after c.args.ending) m c.loop-i.i (omega (arith, t.counted))) (c.loop-i.invariant.1.1 m t)
