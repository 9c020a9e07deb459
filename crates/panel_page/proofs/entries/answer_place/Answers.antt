-- `entries::answer_place` meets its contract: the place of an equal key is written, that of another has its row already.
use mathlib.Core.Path.{subst}
use native.Mathlib.Omega.{arith}
use borrow.Author.Rules.{rules}
use lib.ListN.{length, get_or}
use Rattle.panel_rows.specs.Rows.{filled_row}
use Rattle.panel_page.specs.PageTable.{page_width}
use Rattle.panel_page.specs.Answering.{answering}
use Rattle.panel_page.proofs.AnsweringLaws.{mixed_same, mixed_replaced, answering_own, answering_other}
use Rattle.panel_page.proofs.PlacesLent.{place_shown}
use Rattle.panel_page.specs.Shown.{Shows}
use Rattle.panel_page.proofs.entries.answer_place.Goals as goal

pub returns-then-keys-i : goal.returns-then-keys-i
returns-then-keys-i c =
    let row = filled_row page_width c.args.head.now c.args.rest.now in
    λ f t. subst (Shows (length c.args.keys.now) c.args.answers.now)
    (mixed_same f (answering c.args.key row f) c.args.keys.now c.args.i (omega arith) (answering_other c.args.key row f (get_or c.args.keys.now c.args.i 0) c.if-keys-i.true)) t

pub returns : goal.returns
returns c =
    let row = filled_row page_width c.args.head.now c.args.rest.now in
    λ f t. subst (Shows (length c.args.keys.now) _)
    (mixed_replaced f (answering c.args.key row f) c.args.keys.now c.args.i (omega arith) row (answering_own c.args.key row f (get_or c.args.keys.now c.args.i 0) (search rules)))
    (place_shown t c.args.i (omega arith) c.args.head.now c.args.rest.now c.requires.1.0.0 c.requires.1.0.1 _ c.write_row.ensures.made)
