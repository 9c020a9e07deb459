-- `script_reasons::print_given` meets its contract: the letter, the number, the name and the figures.
use Prim.Native.Nat.{ℕ}
use mathlib.Core.Path.{ap, ◌∙◌}
use mathlib.Core.List.{◌∷◌}
use Rattle.spec_decimal.specs.Decimal.{decimal}
use Rattle.spec_explain.specs.Reason.{reason_word}
use Rattle.spec_listing.specs.Listing.{fields}
use Rattle.spec_replay.specs.Reasons.{figure_fields, reason_line}
use Rattle.bytes_printer.proofs.PrintsLaws.{◌⨾◌, prints_same}
use Rattle.session_explain.specs.Meaning.{printed_reason_of}
use Rattle.session_explain.specs.Numbers.{number_is}
use borrow.Author.Rules.{rules}
use Rattle.script_reasons.proofs.print_given.Goals as goal

pub returns : goal.returns
unfolding fields reason_line
returns c =
    prints_same (ap (λ (n : ℕ). 87 ∷ fields (decimal n ∷ reason_word (printed_reason_of c.args.reason) ∷ figure_fields (printed_reason_of c.args.reason))) (c.number_of.ensures ∙ number_is c.args.reason)) (c.print_byte-letter.ensures ⨾ c.print_field_u64-number.ensures ⨾ c.print_word-name.ensures ⨾ c.print_figures.ensures)
