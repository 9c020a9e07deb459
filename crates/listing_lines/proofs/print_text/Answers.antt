-- `listing_lines::print_text` meets its contract: the letter, a tab and the escaped text, and the end of the line.
use mathlib.Core.Path.{◌≡◌, sym, ap, ◌∙◌}
use Prim.Native.Nat.{ℕ, ◌-◌}
use native.Mathlib.Omega.{arith}
use lib.ListN.{length, take}
use Rattle.spec_patch.specs.Sizes.{text_bytes}
use Rattle.spec_listing.specs.Escapes.{escaped}
use Rattle.spec_listing.specs.Listing.{fields}
use Rattle.projection_patch.proofs.Texts.{just_there}
use Rattle.bytes_printer.proofs.PrintsLaws.{◌⨾◌, prints_same, ends_within}
use Rattle.listing_lines.proofs.Rows.{front}
use borrow.Author.Rules.{rules}
use Rattle.listing_lines.proofs.print_text.Goals as goal
use Rattle.listing_lines.proofs.print_text.Goals.{Start}

long : (c : Start) → length c.args.value.text ≡ text_bytes
long c = search rules

pub returns : goal.returns
unfolding fields
returns c =
    let same = ap (λ (n : ℕ). take (n - 0) c.args.value.text) c.min-len.ensures ∙ front c.args.value.text c.args.value.text_len text_bytes (long (goal.at.returns c).Start) in
    let lent = c.text_of.ensures ∙ sym (just_there c.args.value.text 0 c.min-len.result (omega (arith, long (goal.at.returns c).Start, c.min-len.ensures))) ∙ same in
    let escapes = prints_same (ap escaped lent) (c.print_escaped-bytes.ensures (ends_within c.print_byte-tab.ensures)) in
    c.print_letter-letter.ensures ⨾ c.print_byte-tab.ensures ⨾ escapes ⨾ c.print_newline.ensures
