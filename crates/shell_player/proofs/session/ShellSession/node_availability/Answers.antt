-- `ShellSession::node_availability` meets its contract: the lookup in the table of the session's projection.
use borrow.Author.Rules.{rules}
use Rattle.shell_player.proofs.session.ShellSession.node_availability.Goals as goal

pub returns : goal.returns
returns c = λ m h. c.node_availability.ensures m.projection h.projection.tables.availabilities h.projection.tables.valid
