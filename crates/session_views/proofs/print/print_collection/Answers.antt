-- `session_views::print::print_collection` meets its contract: the print of the session's table of entries.
use mathlib.Core.Path.{◌≡◌, sym}
use borrow.Author.Rules.{rules}
use lib.ListN.{length}
use Rattle.panel_rows.specs.Rows.{entry_bytes}
use Rattle.session_views.proofs.print.print_collection.Goals as goal
use Rattle.session_views.proofs.print.print_collection.Goals.{Start}

long : (c : Start) → length c.args.session.local_projection.entries ≡ entry_bytes
long c = search rules

pub slice_bounds-print_collection-end : goal.slice_bounds-print_collection-end
slice_bounds-print_collection-end c = sym (long (goal.at.slice_bounds-print_collection-end c).Start)

pub returns : goal.returns
returns c =
    record { printed = (λ m h. c.print_collection.ensures.printed m.projection h.projection.tables.entries h.projection.tables.valid); kept = c.print_collection.ensures.kept }
