-- `bytes_hex::printing::print_field_hex` meets its contract: a dash for no bytes, else a pair for each.
use Prim.Native.Nat.{ℕ}
use mathlib.Core.Path.{◌≡◌, refl}
use mathlib.Core.List.{List, [], ◌∷◌, flat_map}
use native.Mathlib.Omega.{arith}
use lib.ListN.{length}
use Rattle.spec_replay.specs.Hex.{byte_pair, hex_field}
use Rattle.bytes_printer.proofs.PrintsLaws.{◌⨾◌, prints_same, ends_within}
use Rattle.bytes_hex.proofs.printing.print_field_hex.Goals as goal

no_bytes : (bs : List ℕ) → length bs ≡ 0 → 45 ∷ [] ≡ hex_field bs
unfolding hex_field
no_bytes [] h = refl
no_bytes (b ∷ bs) h = absurd (omega arith)

some_bytes : (bs : List ℕ) → (length bs ≡ 0 → ⊥) → flat_map byte_pair bs ≡ hex_field bs
unfolding hex_field
some_bytes [] h = absurd (h refl)
some_bytes (b ∷ bs) h = refl

pub returns-then-bytes-eq0 : goal.returns-then-bytes-eq0
returns-then-bytes-eq0 c =
    c.print_byte-start.ensures ⨾ prints_same (no_bytes _ c.if-bytes-eq0.true) c.print_byte.ensures

pub returns : goal.returns
returns c =
    c.print_byte-start.ensures ⨾ prints_same (some_bytes _ c.if-bytes-eq0.false) (c.print_pairs.ensures (ends_within c.print_byte-start.ensures))
