-- What the walk over a set answers, and the table that it leaves.
use Rattle.std.specs.Prelude.{ℕ, ◌≡◌, List}
use Rattle.std.specs.Prelude as code
use Rattle.spec_dependencies.specs.Dependencies.{SettlingWalk, settles, contradicts}
use Rattle.set_dependencies.specs.SettledRows.{SettledIn}
use Rattle.set_dependencies.specs.declared.settled_rows.SettledPlaces.{SettledPlaces}
use Rattle.set_dependencies.specs.declared.walk_set.SettlingStop.{SettlingStop}
use Rattle.set_dependencies.specs.declared.walk_set.SettlingStop.TheVariants as settling-stop

-- what all operations settle stands in the table, or the place is that of the contradiction
abbrev pub SetSettlesTo : SettlingWalk → code.Result SettledPlaces SettlingStop → List ℕ → Type 0
SetSettlesTo (settles t) (code.Ok p) table = SettledIn p table t
SetSettlesTo (settles t) (code.Err stop) table = ⊥
SetSettlesTo (contradicts p o) (code.Ok q) table = ⊥
SetSettlesTo (contradicts p o) (code.Err (settling-stop.Contradiction i j)) table = (i ≡ p) × (j ≡ o)
SetSettlesTo (contradicts p o) (code.Err (settling-stop.Unreadable f)) table = ⊥
