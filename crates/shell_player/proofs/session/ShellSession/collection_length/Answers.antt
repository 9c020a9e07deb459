-- `ShellSession::collection_length` meets its contract: the lookup in the table of the session's lengths.
use borrow.Author.Rules.{rules}
use Rattle.shell_player.proofs.session.ShellSession.collection_length.Goals as goal

pub returns : goal.returns
returns c = λ m h. c.collection_length.ensures m.projection h.projection.lengths h.projection.tables.valid
