-- `page::collection_page` meets its contract: the page of the table of the session's projection.
use mathlib.Core.Path.{◌≡◌, sym}
use borrow.Author.Rules.{rules}
use lib.ListN.{length}
use Rattle.panel_rows.specs.Rows.{entry_bytes}
use Rattle.session_views.proofs.page.collection_page.Goals as goal
use Rattle.session_views.proofs.page.collection_page.Goals.{Start}

long : (c : Start) → length c.args.session.local_projection.entries ≡ entry_bytes
long c = search rules

pub slice_bounds-collection_page-end : goal.slice_bounds-collection_page-end
slice_bounds-collection_page-end c = sym (long (goal.at.slice_bounds-collection_page-end c).Start)

pub returns : goal.returns
returns c =
    record { told = c.collection_page.ensures.told; written = (λ m h. c.collection_page.ensures.written m.projection h.projection.tables.entries h.projection.tables.valid); kept = c.collection_page.ensures.kept }
