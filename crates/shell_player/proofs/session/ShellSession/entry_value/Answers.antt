-- `ShellSession::entry_value` meets its contract: the lookup in the table of the session's projection.
use borrow.Author.Rules.{rules}
use Rattle.shell_player.proofs.session.ShellSession.entry_value.Goals as goal

pub returns : goal.returns
returns c = λ m h. c.entry_value.ensures m.projection h.projection.tables.entries h.projection.tables.valid
