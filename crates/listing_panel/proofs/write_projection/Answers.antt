-- `listing_panel::write_projection` meets its contract: the state's tables are listed.
use borrow.Author.Rules.{rules}
use Rattle.listing_panel.proofs.write_projection.Goals as goal

pub returns : goal.returns
returns c = record { lines = (λ p s. let t = s.tables in c.write_tables.ensures.lines p t.bindings t.availabilities t.entries t.valid); kept = c.write_tables.ensures.kept }
