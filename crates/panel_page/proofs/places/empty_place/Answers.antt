-- `places::empty_place` meets its contract: of no bytes there is none to set.
use mathlib.Core.Path.{sym}
use native.Mathlib.Omega.{arith}
use lib.Seq.{set_out}
use borrow.Author.Rules.{rules}
use Rattle.panel_page.proofs.places.empty_place.Goals as goal

pub returns-then-place-eq0 : goal.returns-then-place-eq0
returns-then-place-eq0 c = sym (set_out c.args.place.now 0 0 (omega arith))
