-- What the calls that count or write answer, as three numbers.
use Rattle.std.specs.Prelude.{Option, Some, None, Result, Ok, Err}
use Rattle.std.specs.Prelude.{ℕ}
use Rattle.panel_print.specs.declared.PrintRefusal.{PrintRefusal}
use Rattle.spec_patch.specs.Write.{write_number}
use Rattle.spec_page.specs.Page.{page_number}
use Rattle.spec_import.specs.Import.{import_number}
use Rattle.spec_conversion.specs.Conversion.{conversion_number}
use Rattle.patch_part_writer.specs.Answer.{write_refusal_of}
use Rattle.patch_part_writer.specs.declared.written.WriteRefusal.{WriteRefusal}
use Rattle.panel_page.specs.PageTable as page
use Rattle.panel_page.specs.declared.PageRefusal.{PageRefusal}
use Rattle.panel_print.specs.Answers.{print_number}
use Rattle.patch_import.specs.Answers.{import_refusal_of}
use Rattle.patch_import.specs.declared.answer.ImportRefusal.{ImportRefusal}
use Rattle.patch_converter.specs.Answers.{conversion_refusal_of}
use Rattle.patch_converter.specs.declared.ConversionRefusal.{ConversionRefusal}
use Rattle.c_answers.specs.declared.counts.GeysertrayCount.{GeysertrayCount}

-- so many
abbrev pub counted_to : ℕ → GeysertrayCount
counted_to n = record { disposition = 0; number = 0; count = n }

-- refused by the rule of a number
abbrev pub refused_to : ℕ → GeysertrayCount
refused_to number = record { disposition = 2; number = number; count = 0 }

-- no session (3), or no such edition (4)
abbrev pub not_counted : ℕ → GeysertrayCount
not_counted d = record { disposition = d; number = 0; count = 0 }

-- ---- what a panel holds

abbrev pub count_told : Option ℕ → GeysertrayCount
count_told (Some n) = counted_to n
count_told None = not_counted 3

-- bytes written, or 14
abbrev pub written_to : Result ℕ WriteRefusal → GeysertrayCount
written_to (Ok n) = counted_to n
written_to (Err f) = refused_to (write_number (write_refusal_of f))

abbrev pub listing_told : Option (Result ℕ WriteRefusal) → GeysertrayCount
listing_told (Some w) = written_to w
listing_told None = not_counted 3

abbrev pub print_to : Result ℕ PrintRefusal → GeysertrayCount
print_to (Ok n) = counted_to n
print_to (Err f) = refused_to (print_number f)

abbrev pub print_told : Option (Result ℕ PrintRefusal) → GeysertrayCount
print_told (Some a) = print_to a
print_told None = not_counted 3

-- rows written, or 16 or 14
abbrev pub page_to : Result ℕ PageRefusal → GeysertrayCount
page_to (Ok n) = counted_to n
page_to (Err f) = refused_to (page_number (page.page_refusal_of f))

abbrev pub page_told : Option (Result ℕ PageRefusal) → GeysertrayCount
page_told (Some a) = page_to a
page_told None = not_counted 3

-- ---- sets that are written

abbrev pub import_told : Result ℕ ImportRefusal → GeysertrayCount
import_told (Ok n) = counted_to n
import_told (Err f) = refused_to (import_number (import_refusal_of f))

abbrev pub conversion_told : Result ℕ ConversionRefusal → GeysertrayCount
conversion_told (Ok n) = counted_to n
conversion_told (Err f) = refused_to (conversion_number (conversion_refusal_of f))
