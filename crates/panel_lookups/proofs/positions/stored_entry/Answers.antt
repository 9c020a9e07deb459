-- `positions::stored_entry` meets its contract: the key behind the collection, the mark behind both, and the value.
use Prim.Native.Nat.{ℕ}
use mathlib.Core.Path.{ap, ◌∙◌}
use borrow.Author.Rules.{rules}
use lib.ListN.{drop}
use Rattle.panel_rows.specs.Rows.{entry_value_at, key_in, entry_mark_in}
use Rattle.panel_rows.specs.RowsLaws.{entry_key, entry_mark_lem, entry_behind}
use Rattle.panel_rows.specs.Lookup.{found_value}
use Rattle.panel_lookups.specs.Nth.{entry_lookup}
use Rattle.panel_lookups.proofs.positions.stored_entry.Goals as goal

pub returns : goal.returns
unfolding entry_lookup
returns c = λ e fits is.
    let key = c.entry_key-key.ensures ∙ ap key_in is ∙ entry_key e fits in
    let mark = c.entry_mark.ensures ∙ ap entry_mark_in is ∙ entry_mark_lem e fits in
    let value = c.stored_value-value.ensures e.value fits.value (ap (drop entry_value_at) is ∙ entry_behind e) ∙ ap (λ (m : ℕ). found_value m e.value) mark in
    λ i. record { key = key i; value = value i }
