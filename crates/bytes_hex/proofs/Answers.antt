-- What is answered of pairs that fit, of pairs that do not, and of any other text.
use Prim.Native.Nat.{ℕ, ◌*◌, ◌/◌, ◌%◌, ◌≤◌, ◌<◌}
use mathlib.Core.Path.{◌≡◌, refl, sym, ◌∙◌}
use mathlib.Core.Bool.{true, false}
use mathlib.Core.List.{List, [], ◌∷◌}
use mathlib.Core.Option.{none, some}
use native.Mathlib.Omega.{arith}
use lib.Dec.{eqb}
use lib.ListN.{length, get_or}
use borrow.Author.Tests.{eqb-true, eq-eqb, ne_eqb, le-leb, lt-leb}
use Rattle.spec_lists.specs.Lists.{all}
use Rattle.spec_lists.proofs.ListLaws.{and_left, test_cases}
use Rattle.spec_replay.specs.Hex.{hex_pairs, read_hex}
use Rattle.bytes_wire.specs.Write.{overwrite}
use Rattle.bytes_wire.proofs.WriteLaws.{has_room_lem, no_room, overwrite_in_place, overwrite_refused}
use Rattle.std.specs.Prelude.{Ok, Err}
use Rattle.bytes_hex.specs.declared.HexRefusal.TheVariants.{Malformed, NoRoom}
use Rattle.bytes_hex.specs.Decoding.{is_hex_digit, is_pairs, pair_bytes, decoding, decoded_into}
use Rattle.bytes_hex.specs.DecodingLaws.{hex_pairs_is, length_pair_bytes}

module _ (out text : List ℕ) where
  -- ---- pairs

  spelled : is_pairs text ≡ true → hex_pairs text ≡ some (pair_bytes text)
  spelled h = hex_pairs_is text ∙ rw h

  unspelled : is_pairs text ≡ false → hex_pairs text ≡ none
  unspelled h = hex_pairs_is text ∙ rw h

  pub even : is_pairs text ≡ true → length text ≡ 2 * (length text / 2)
  unfolding is_pairs
  even h = omega (arith, eqb-true (length text % 2) 0 (and_left (eqb (length text % 2) 0) (all is_hex_digit text) h))

  pub pair_bytes_fit : is_pairs text ≡ true → length text / 2 ≤ length out → Ok (length text / 2) ≡ decoding (length out) (hex_pairs text)
  unfolding decoding
  pair_bytes_fit h k = rw (spelled h, length_pair_bytes text, le-leb (length text / 2) (length out) k)

  pub pair_bytes_stored : is_pairs text ≡ true → overwrite out 0 (pair_bytes text) ≡ decoded_into out (hex_pairs text)
  unfolding decoded_into
  pair_bytes_stored h = rw (spelled h)

  pub exceeds : is_pairs text ≡ true → length out < length text / 2 → (Err NoRoom ≡ decoding (length out) (hex_pairs text)) × (out ≡ decoded_into out (hex_pairs text))
  unfolding decoding decoded_into
  exceeds h k = (
    rw (spelled h, length_pair_bytes text, lt-leb (length text / 2) (length out) k),
    rw (spelled h) (sym (overwrite_refused out 0 (pair_bytes text) (length text / 2) (length_pair_bytes text) (no_room out 0 (length text / 2) (omega arith)))),
  )

  pub no_pairs : is_pairs text ≡ false → (Err Malformed ≡ decoding (length out) (hex_pairs text)) × (out ≡ decoded_into out (hex_pairs text))
  unfolding decoding decoded_into
  no_pairs h = (rw (unspelled h), rw (unspelled h))

-- ---- the dash, and no text at all

pub no_text : (out text : List ℕ) → length text ≡ 0 → (Err Malformed ≡ decoding (length out) (read_hex text)) × (out ≡ decoded_into out (read_hex text))
unfolding decoding decoded_into read_hex
no_text out [] h = (refl, refl)
no_text out (b ∷ bs) h = absurd (omega arith)

pub dash_decoded : (out text : List ℕ) → length text ≡ 1 → get_or text 0 0 ≡ 45 → (Ok 0 ≡ decoding (length out) (read_hex text)) × (out ≡ decoded_into out (read_hex text))
unfolding decoding decoded_into read_hex
dash_decoded out [] h e = absurd (omega arith)
dash_decoded out (b ∷ []) h e = (rw (eq-eqb b 45 e, le-leb 0 (length out) (omega arith)), rw (eq-eqb b 45 e) (sym (overwrite_in_place out 0 [] 0 refl (has_room_lem out 0 0 (omega arith)))))
dash_decoded out (b ∷ c ∷ bs) h e = absurd (omega arith)

pub no_dash : (text : List ℕ) → (length text ≡ 0 → ⊥) → (length text ≡ 1 → get_or text 0 0 ≡ 45 → ⊥) → hex_pairs text ≡ read_hex text
unfolding read_hex
no_dash [] h e = absurd (h refl)
no_dash (b ∷ []) h e = rw (ne_eqb b 45 (e refl))
no_dash (b ∷ c ∷ bs) h e = test_cases (eqb b 45) (λ t. rw t) (λ t. rw t)
