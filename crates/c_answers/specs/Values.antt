-- What the look-ups of a lent session answer, as numbers and the bytes of a text.
use Rattle.std.specs.Prelude.{Option, Some, None}
use Rattle.std.specs.Prelude.{ℕ, Bool, true, false}
use Rattle.panel_rows.specs.Lookup.{no_value}
use Rattle.panel_rows.specs.declared.values.ValueLookup.{ValueLookup}
use Rattle.panel_page.specs.declared.rows.PageLookup.{PageLookup}
use Rattle.panel_lookups.specs.declared.positions.EntryLookup.{EntryLookup}
use Rattle.panel_rows.specs.declared.values.AvailabilityLookup.{AvailabilityLookup}
use Rattle.c_answers.specs.declared.values.GeysertrayValue.{GeysertrayValue}
use Rattle.c_answers.specs.declared.values.GeysertrayAvailability.{GeysertrayAvailability}
use Rattle.c_answers.specs.declared.values.GeysertrayEntry.{GeysertrayEntry}
use Rattle.c_answers.specs.declared.values.GeysertrayPagePlace.{GeysertrayPagePlace}

-- ---- values

abbrev pub bit : Bool → ℕ
bit false = 0
bit true = 1

abbrev pub value_number_to : ℕ → ValueLookup → GeysertrayValue
value_number_to disposition v = record {
  disposition = disposition;
  found = bit v.found;
  mark = v.mark;
  kind = v.kind;
  quad = v.quad;
  signed_number = v.signed;
  unsigned_number = v.unsigned;
  text_length = v.text_len;
  text = v.text;
}

-- 3 and no value where there is no session
abbrev pub value_told : Option ValueLookup → GeysertrayValue
value_told (Some v) = value_number_to 0 v
value_told None = value_number_to 3 no_value

abbrev pub entry_told : Option EntryLookup → GeysertrayEntry
entry_told (Some e) = record { key = e.key; value = value_number_to 0 e.value }
entry_told None = record { key = 0; value = value_number_to 3 no_value }

abbrev pub place_told : PageLookup → GeysertrayPagePlace
place_told p = record { position = p.position; value = value_number_to 0 p.value }

abbrev pub availability_told : Option AvailabilityLookup → GeysertrayAvailability
availability_told (Some a) = record { disposition = 0; found = bit a.found; mark = a.mark; availability = a.availability }
availability_told None = record { disposition = 3; found = 0; mark = 0; availability = 0 }
