-- `entry_at` meets its contract: the row at the entry's position, or none.
use mathlib.Core.Path.{sym, ap, ◌∙◌, subst}
use mathlib.Core.List.{map}
use borrow.Author.Rules.{rules}
use Rattle.spec_projection.specs.Lookups.{entries_of, entry_at}
use Rattle.panel_rows.specs.Rows.{entry_row}
use Rattle.panel_lookups.specs.Nth.{Nth, entry_lookup}
use Rattle.panel_lookups.proofs.positions.entry_at.Goals as goal

pub returns-in-Some : goal.returns-in-Some
unfolding entry_at entries_of
returns-in-Some c =
    λ p s v.
    let nth = subst (Nth c.args.collection c.args.position p.entries) c.in-Some.is (c.find_nth.ensures p.entries v.fit_entries s.rows) in
    c.stored_entry.ensures nth.entry nth.fits (c.record_at.ensures.row (map entry_row p.entries) s.rows ∙ nth.row) ∙ sym (ap entry_lookup nth.is)

pub returns-in-None : goal.returns-in-None
unfolding entry_at entries_of
returns-in-None c =
    λ p s v.
    c.no_entry.ensures ∙ sym (ap entry_lookup (subst (Nth c.args.collection c.args.position p.entries) c.in-None.is (c.find_nth.ensures p.entries v.fit_entries s.rows)))
