-- `script_answers::check::print_checked` meets its contract: the letter, three fields and the end of the line.
use Prim.Native.Nat.{ℕ}
use mathlib.Core.Path.{ap}
use mathlib.Core.List.{[], ◌∷◌}
use borrow.Author.Rules.{rules}
use Rattle.spec_decimal.specs.Decimal.{decimal}
use Rattle.spec_listing.specs.Listing.{fields}
use Rattle.spec_replay.specs.Answers.{place_field, checked_line}
use Rattle.bytes_printer.proofs.PrintsLaws.{◌⨾◌, prints_same}
use Rattle.script_answers.proofs.check.print_checked.Goals as goal

pub returns : goal.returns
unfolding checked_line fields
returns c =
    λ f place count.
    prints_same (ap (λ (n : ℕ). 75 ∷ fields (decimal 0 ∷ place_field f.place ∷ decimal n ∷ [])) count)
    (c.print_byte-letter.ensures ⨾ c.print_field_u64-zero.ensures ⨾ c.print_place-named.ensures f.place place ⨾ c.print_field_u64-counted.ensures ⨾ c.print_newline.ensures)
