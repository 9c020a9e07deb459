-- `entry_value` meets its contract: the row at the key's position, or none.
use mathlib.Core.List.{map}
use borrow.Author.Rules.{rules}
use Rattle.panel_rows.specs.Rows.{entry_row}
use Rattle.panel_entries.specs.EntryRowsLaws.{stored_keyed}
use Rattle.panel_lookups.proofs.Found.{entry_found, entry_absent}
use Rattle.panel_lookups.proofs.entry_value.Goals as goal

pub returns-in-Some : goal.returns-in-Some
returns-in-Some c =
    λ p s v.
    entry_found p v c.args.collection c.args.key c.find_entry.result (c.find_entry.ensures.first entry_row stored_keyed p.entries v.fit_entries v.entries s.rows) _ c.in-Some.is
    c.record_at-row.result.now (c.record_at-row.ensures.row (map entry_row p.entries) s.rows) _ c.entry_mark.ensures c.stored_value.result c.stored_value.ensures

pub returns-in-None : goal.returns-in-None
returns-in-None c =
    λ p s v.
    entry_absent p v c.args.collection c.args.key c.find_entry.result (c.find_entry.ensures.first entry_row stored_keyed p.entries v.fit_entries v.entries s.rows) c.in-None.is c.no_value.result c.no_value.ensures
