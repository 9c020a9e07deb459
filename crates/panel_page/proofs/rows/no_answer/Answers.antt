-- `rows::no_answer` meets its contract: every field is zero.
use borrow.Author.Rules.{rules}
use Rattle.panel_page.specs.PageTable.{page_lookup}
use Rattle.panel_page.proofs.rows.no_answer.Goals as goal

pub returns : goal.returns
unfolding page_lookup
returns c = λ i. record { position = 0; value = c.no_value-value.ensures i }
