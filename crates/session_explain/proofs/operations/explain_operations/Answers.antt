-- `session_explain::operations::explain_operations` meets its contract: the panel's tables are lent.
use borrow.Author.Rules.{rules}
use Rattle.session_explain.proofs.operations.explain_operations.Goals as goal

pub returns : goal.returns
returns c = c.explain_tables.ensures
