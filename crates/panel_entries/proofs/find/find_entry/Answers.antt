-- `find::find_entry` meets its contract: a row begins with the two numbers where its entry is the key's.
use mathlib.Core.Path.{◌∙◌}
use mathlib.Core.List.{map}
use borrow.Author.Rules.{rules}
use Rattle.spec_lists.proofs.ListLaws.{all_map}
use Rattle.spec_projection.specs.Entries.{is_entry}
use Rattle.spec_projection.specs.Valid.{FitsEntry}
use Rattle.bytes_records.specs.Search.{is_pair}
use Rattle.bytes_records.specs.SearchLaws.{find_map}
use Rattle.panel_entries.specs.EntryRowsLaws.{entry_pair, entries_rising}
use Rattle.panel_entries.proofs.find.find_entry.Goals as goal

pub returns : goal.returns
returns c =
    record {
      first = (λ row keyed es fit grouped t.
          c.find_pair.ensures.first (map row es) t (entries_rising keyed es fit grouped)
          ∙ find_map row (is_pair c.args.collection c.args.key) (is_entry c.args.collection c.args.key) es
          (all_map FitsEntry _ (entry_pair keyed c.args.collection c.args.key) es fit));
      within = c.find_pair.ensures.within;
    }
