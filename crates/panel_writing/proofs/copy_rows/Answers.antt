-- `panel_writing::copy_rows` meets its contract: the front of the block is the rows.
use mathlib.Core.Path.{◌≡◌, refl, sym, ap, ◌∙◌}
use native.Mathlib.Omega.{arith}
use lib.ListN.{length, take, drop}
use lib.Seq.{take_at}
use borrow.Author.Rules.{rules}
use Rattle.bytes_records.specs.Moves.{overwrite_rows}
use Rattle.panel_writing.proofs.copy_rows.Goals as goal
use Rattle.panel_writing.proofs.copy_rows.Goals.{After-copy-2}

front : (c : After-copy-2) → take (length c.args.rows.now) c.copy-2.new.target ≡ c.args.rows.now
front c =
    ap (take (length c.args.rows.now)) c.copy-2.ensures ∙ take_at c.args.rows.now (drop (length c.args.rows.now) _) (length c.args.rows.now) refl

pub slice_bounds-copy-end-2 : goal.slice_bounds-copy-end-2
slice_bounds-copy-end-2 c = sym (ap length (front (goal.at.slice_bounds-copy-end-2 c).After-copy-2))

pub copy-requires-3 : goal.copy-requires-3
copy-requires-3 c = omega (arith, ap length (front (goal.at.copy-requires-3 c).After-copy-2), c.requires)

pub returns : goal.returns
returns c =
    c.copy-3.ensures ∙ ap (λ rows. overwrite_rows rows c.args.to.now) (front (goal.at.returns c).After-copy-2)
