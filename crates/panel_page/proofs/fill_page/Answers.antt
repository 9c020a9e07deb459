-- `fill_page` meets its contract: the places stand for the rows of keys of which none was found, then for those of all entries, and are these at the end.
use mathlib.Core.Path.{◌∙◌, subst}
use lib.ListN.{length}
use Rattle.bytes_records.specs.Table.{HoldsRows}
use Rattle.panel_page.specs.PageTable.{page_width}
use Rattle.panel_page.specs.PageTableLaws.{holds_all, page_bytes_lem}
use Rattle.panel_page.specs.ShownLaws.{places_of, places_held, shows_nothing}
use borrow.Author.Rules.{rules}
use Rattle.panel_page.proofs.fill_page.Goals as goal

pub returns : goal.returns
returns c =
    let places = places_of page_width (length c.args.keys.now) c.args.answers.now in
    let held = places_held page_width (length c.args.keys.now) c.args.answers.now c.requires.1 in
    λ p s v.
    let nothing = shows_nothing c.args.collection c.args.keys.now c.change_places.new.answers places held.wide held.counted (c.change_places.ensures places held) in
    let all = c.answer_rows.ensures p.entries v.fit_entries v.entries s.rows nothing in
    let cleared = subst (HoldsRows page_width (length c.args.keys.now) _) all.stand (c.change_places-2.ensures all.places all.held) in
    holds_all cleared (search rules) ∙ page_bytes_lem p c.args.collection c.args.keys.now
