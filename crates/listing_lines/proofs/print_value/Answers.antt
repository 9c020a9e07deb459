-- `listing_lines::print_value` meets its contract: the kind decides which field of the lookup is printed.
use mathlib.Core.Path.{sym, ap, ◌∙◌}
use lib.IntN.{ℤ}
use mathlib.Core.List.{[], ◌∷◌}
use mir.Syntax.{w64}
use mir.Facts.{to_z-of_z}
use borrow.Author.Rules.{rules}
use Rattle.spec_decimal.specs.Decimal.{signed_decimal}
use Rattle.spec_listing.specs.Listing.{fields}
use Rattle.bytes_printer.proofs.PrintsLaws.{◌⨾◌, prints_same}
use Rattle.listing_lines.specs.LookupFields.{quad_fields, signed_fields, unsigned_fields, score_fields, text_fields}
use borrow.Author.Rules.{rules}
use Rattle.listing_lines.proofs.print_value.Goals as goal

pub returns-in-1 : goal.returns-in-1
returns-in-1 c =
    prints_same (ap fields (sym (quad_fields _ c.in-1.is))) c.print_kind_number.ensures

pub returns-in-2 : goal.returns-in-2
unfolding fields
returns-in-2 c =
    let same = to_z-of_z {w = w64} (search rules) in
    prints_same (ap (λ (y : ℤ). fields ((83 ∷ []) ∷ signed_decimal y ∷ [])) same ∙ ap fields (sym (signed_fields _ c.in-2.is))) (c.print_letter-letter.ensures ⨾ c.print_field_i64-number.ensures ⨾ c.print_newline.ensures)

pub returns-in-4 : goal.returns-in-4
returns-in-4 c =
    prints_same (ap fields (sym (unsigned_fields _ c.in-4.is))) c.print_kind_number-in-4.ensures

pub returns-in-5 : goal.returns-in-5
returns-in-5 c =
    prints_same (ap fields (sym (score_fields _ c.in-5.is))) c.print_kind_number-in-5.ensures

pub returns-in_default : goal.returns-in_default
returns-in_default c =
    prints_same (ap fields (sym (text_fields _ (search rules) (search rules) (search rules) (search rules)))) c.print_text.ensures
