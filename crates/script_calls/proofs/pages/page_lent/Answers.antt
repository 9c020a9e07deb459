-- `script_calls::pages::page_lent` meets its contract: the answer is printed, and the answers of the keys from the lent places.
use borrow.Author.Rules.{rules}
use Rattle.script_calls.proofs.pages.page_lent.Goals as goal

pub returns : goal.returns
returns c =
    λ m h.
    c.print_page.ensures m.projection c.args.collection c.args.keys.now _
    (record { valid = h.projection.tables.valid; answered = c.collection_page-answer.ensures.told; before = c.args.lent.now; written = c.collection_page-answer.ensures.written m h })
