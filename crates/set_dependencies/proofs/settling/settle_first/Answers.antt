-- `settle_first` meets its contract: the key's row is inserted at its place.
use mathlib.Core.Path.{◌≡◌, ap, ◌∙◌}
use mathlib.Core.List.{map}
use native.Mathlib.Omega.{arith}
use borrow.Author.Rules.{rules}
use lib.ListN.{length}
use Rattle.spec_patch.specs.Fits.{U64}
use Rattle.spec_dependencies.specs.Settled.{settled_by}
use Rattle.set_dependencies.specs.SettledRows.{settled_row}
use Rattle.set_dependencies.specs.SettledRowsLaws.{row_wide}
use Rattle.set_dependencies.specs.Settling.{expectation_of}
use Rattle.set_dependencies.specs.SettlingLaws.{places_length, first_within, settles_first}
use Rattle.set_dependencies.proofs.settling.settle_first.Goals as goal

pub returns : goal.returns
unfolding settled_by
returns c = λ t s is room.
    let e = expectation_of c.args.collection c.args.key c.args.key_use in
    let fits : U64 c.args.collection × U64 c.args.key = (c.ranges.collection.fits, c.ranges.key.fits) in
    let is_row : c.settled_row-row.result ≡ settled_row (settled_by e.expected e) = c.settled_row-row.ensures ∙ ap settled_row (λ i. record { collection = c.args.collection; key = c.args.key; at_start = c.expected.ensures i; now = c.left.ensures i }) in
    settles_first e fits t s.fit s.ascending c.args.at is _ _ _ is_row
    (c.insert_near.ensures (map settled_row t) s.rows room (omega (arith, first_within e fits t s.fit s.ascending c.args.at is, places_length t s)) (ap length is_row ∙ row_wide (settled_by e.expected e)))
