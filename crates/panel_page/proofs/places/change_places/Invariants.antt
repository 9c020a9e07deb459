use Prim.Native.Nat.{ℕ, ◌-◌, ◌*◌, ◌≤◌}
use mathlib.Core.Path.{◌≡◌, subst}
use mathlib.Core.List.{List}
use native.Mathlib.Omega.{arith}
use borrow.Author.Rules.{rules}
use lib.ListN.{length}
use Rattle.bytes_records.specs.Table.{HoldsRows}
use Rattle.panel_page.specs.PageTable.{page_width}
use Rattle.panel_page.specs.Shown.{place_after}
use Rattle.panel_page.specs.ShownLaws.{length_after}
use Rattle.panel_page.proofs.PlacesLent.{changed_to, changed_turn, changed_all}
use Rattle.panel_page.proofs.places.change_places.Given as goal

abbrev pub invariant-loop-i : goal.invariant-loop-i
invariant-loop-i l = (l.i ≤ l.count) × ((length l.answers ≡ l.count * page_width) × ((m : List (List ℕ)) → HoldsRows page_width l.count l.initial.answers m → HoldsRows page_width l.count l.answers (changed_to (place_after l.ending) l.i m)))

abbrev pub decreases-loop-i : goal.decreases-loop-i
decreases-loop-i l = l.count - l.i
