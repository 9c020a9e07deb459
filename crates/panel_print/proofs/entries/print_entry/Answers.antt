-- `entries::print_entry` meets its contract: the key, then the value in one pass.
use mathlib.Core.Path.{sym, ap, ◌∙◌}
use lib.ListN.{drop}
use borrow.Author.Rules.{rules}
use Rattle.spec_projection.specs.Lookups.{keyed_value}
use Rattle.spec_panel_print.specs.Print.{key_lead}
use Rattle.spec_panel_print.proofs.FlowLaws.{entry_flows}
use Rattle.bytes_printer.proofs.PrintsLaws.{◌⨾◌, prints_same}
use Rattle.panel_rows.specs.Rows.{entry_value_at, key_in}
use Rattle.panel_rows.specs.RowsLaws.{entry_key, entry_behind}
use Rattle.panel_print.specs.ByteFlow.{flowed_bytes}
use Rattle.panel_print.specs.LookupBytes.{lookup_bytes}
use Rattle.panel_print.specs.LookupBytesLaws.{found_flows}
use Rattle.panel_print.specs.EntriesPrint.{entry_print}
use Rattle.panel_print.proofs.entries.print_entry.Goals as goal

pub returns : goal.returns
unfolding entry_print
returns c =
    λ e fits is.
    let first = prints_same (ap key_lead (c.entry_key-key.ensures ∙ ap key_in is ∙ entry_key e fits)) c.print_key-lead.ensures in
    let found = c.stored_value-value.ensures e.value fits.value (ap (drop entry_value_at) is ∙ entry_behind e) in
    let second = prints_same (ap (λ l. flowed_bytes 0 (lookup_bytes l)) found ∙ found_flows 0 e.value fits.value) c.print_value.ensures in
    prints_same (sym (entry_flows (keyed_value e))) (first ⨾ second)
