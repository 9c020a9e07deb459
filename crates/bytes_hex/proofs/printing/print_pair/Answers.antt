-- `bytes_hex::printing::print_pair` meets its contract: the higher digit, and the lower one behind it.
use Prim.Native.Nat.{ℕ}
use mathlib.Core.Path.{ap₂}
use mathlib.Core.List.{[], ◌∷◌}
use Rattle.spec_replay.specs.Hex.{byte_pair}
use Rattle.bytes_printer.proofs.PrintsLaws.{◌⨾◌, prints_same}
use Rattle.bytes_hex.proofs.printing.print_pair.Goals as goal

pub returns : goal.returns
unfolding byte_pair
returns c =
    prints_same (ap₂ (λ (h l : ℕ). h ∷ l ∷ []) c.hex_character-high.ensures c.hex_character-low.ensures) (c.print_byte-first.ensures ⨾ c.print_byte.ensures)
