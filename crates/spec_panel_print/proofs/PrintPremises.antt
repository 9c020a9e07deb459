-- The premises of the print's theorems are met: by a panel of two collections, and by a text with a space where its first line ends.
use Rattle.std.specs.Prelude.{◌≡◌, refl, true, List, [], ◌∷◌, ◌++◌, length, ℕ, ◌*◌, ◌≤◌}
use Rattle.std.proofs.Common.{arith}
use Rattle.spec_lists.specs.Lists.{All}
use Rattle.spec_text.specs.Syntax.{is_utf8, characters}
use Rattle.spec_patch.specs.Patch.{text}
use Rattle.spec_patch.specs.Fits.{FitsText, StorableBy}
use Rattle.spec_projection.specs.Entries.{is_entry}
use Rattle.spec_projection.specs.Valid.{Valid}
use Rattle.spec_panel_print.specs.Decode.{scalars_from, scalars_of}
use Rattle.spec_panel_print.specs.Print.{is_control, printed_character, printed_value, entry_lines, collection_lines, collection_print, text_columns, without_end_spaces, ends_in_space}
use Rattle.spec_panel_print.proofs.PrintLaws.{LineOfCharacters, collection_lines_characters, collection_print_utf8}
use Rattle.spec_panel_print.proofs.JoinLaws.{FirstLine, first_line, columns_back}
use Rattle.spec_panel_print.specs.PrintSizes.{print_bytes}
use Rattle.spec_panel_print.proofs.PrintSizesLaws.{print_fits}
use Rattle.spec_panel_print.proofs.PrintExamples.{with_key, latin, in_collection, printed_panel}

long_text_fits : FitsText (latin 59)
unfolding latin
long_text_fits = record { short = omega arith; utf8 = refl; few = refl }

printed_panel_valid : Valid printed_panel
unfolding printed_panel in_collection StorableBy is_entry
printed_panel_valid = record {
  bindings = tt;
  availabilities = tt;
  entries = (
    (record { collection = omega arith; other = refl }, (record { collection = omega arith; other = refl }, tt)),
    ((record { collection = omega arith; other = refl }, tt), (tt, tt)),
  );
  few_bindings = omega arith;
  few_availabilities = omega arith;
  few_entries = omega arith;
  fit_bindings = tt;
  fit_availabilities = tt;
  fit_entries = (
    record { collection = omega arith; key = omega arith; mark = omega arith; value = omega arith },
    (
      record { collection = omega arith; key = omega arith; mark = omega arith; value = record { short = omega arith; utf8 = refl; few = refl } },
      (record { collection = omega arith; key = omega arith; mark = omega arith; value = long_text_fits }, tt),
    ),
  );
}

pub panel_characters : All LineOfCharacters (collection_lines printed_panel 9)
panel_characters = collection_lines_characters printed_panel 9 printed_panel_valid

pub panel_utf8 : (is_utf8 (collection_print printed_panel 9) ≡ true) × (characters (collection_print printed_panel 9) ≡ length (collection_lines printed_panel 9) * 81)
panel_utf8 = collection_print_utf8 printed_panel 9 printed_panel_valid

pub panel_fits : length (collection_print printed_panel 9) ≤ print_bytes
panel_fits = print_fits printed_panel 9 printed_panel_valid

-- a space where the first line ends, and a letter behind it
abbrev spaced_text : List ℕ
spaced_text = latin 57 ++ (32 ∷ 120 ∷ [])

pub spaced_back : without_end_spaces (text_columns (entry_lines (with_key 1 (text spaced_text)))) ≡ printed_value (text spaced_text)
unfolding with_key latin ends_in_space printed_value printed_character is_control scalars_of scalars_from
spaced_back = columns_back (with_key 1 (text spaced_text)) refl

pub spaced_first : FirstLine (with_key 1 (text spaced_text))
unfolding with_key
spaced_first = first_line (with_key 1 (text spaced_text)) (omega arith)
