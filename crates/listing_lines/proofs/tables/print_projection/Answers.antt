-- `listing_lines::tables::print_projection` meets its contract: the state's tables are printed.
use Rattle.listing_lines.proofs.tables.print_projection.Goals as goal

pub returns : goal.returns
returns c = λ p s. let t = s.tables in c.print_tables.ensures p t.bindings t.availabilities t.entries t.valid
