-- `script_answers::conversion::print_set` meets its contract: the letter, 0, the set, and the newline.
use Prim.Native.Nat.{ℕ, ◌-◌}
use mathlib.Core.Path.{◌≡◌, ap, ◌∙◌}
use mathlib.Core.List.{List, [], ◌∷◌}
use native.Mathlib.Omega.{arith}
use lib.ListN.{length, take, length-append}
use lib.Seq.{take_at}
use Rattle.spec_decimal.specs.Decimal.{decimal}
use Rattle.spec_listing.specs.Listing.{fields}
use Rattle.spec_replay.specs.Hex.{hex_field}
use Rattle.bytes_printer.proofs.PrintsLaws.{◌⨾◌, prints_same}
use borrow.Author.Rules.{rules}
use Rattle.script_answers.proofs.conversion.print_set.Goals as goal

-- what begins with the set is no shorter
pub returns-then-written-len : goal.returns-then-written-len
returns-then-written-len c = λ set behind long splits. absurd (omega (arith, ap length splits, length-append set behind, c.if-written-len.true))

pub returns : goal.returns
unfolding fields
returns c =
    λ bs behind long splits. prints_same
    (ap (λ (l : List ℕ). c.args.letter ∷ fields (decimal 0 ∷ hex_field l ∷ []))
    (ap (take (c.args.len - 0)) splits ∙ take_at bs behind (c.args.len - 0) (let same : length bs ≡ c.args.len - 0 = omega (arith, long) in same)))
    (c.print_byte-start.ensures ⨾ c.print_field_u64-zero.ensures ⨾ c.print_field_hex-shown.ensures ⨾ c.print_newline.ensures)
