-- A value that was found flows as its printed value.
use Rattle.std.specs.Prelude.{ℕ, suc, ◌-◌, ◌≤◌, ◌≡◌, refl, List, [], ◌∷◌, map, eqb, ℤ, pos, negsuc, length, take}
use Rattle.std.proofs.Common.{sym, ap, ◌∙◌, arith, take_at}
use borrow.Author.Tests.{eq-eqb, ne_eqb}
use Rattle.spec_lists.specs.Lists.{All}
use Rattle.spec_lists.proofs.ListLaws.{if_cases}
use Rattle.spec_patch.specs.Sizes.{text_bytes}
use Rattle.spec_patch.specs.Patch.{Quad, N, F, T, S, Value, quad, signed, text, unsigned, score}
use Rattle.spec_patch.specs.Fits.{Storable, StorableBy}
use Rattle.spec_patch.specs.Encode.{quad_byte}
use Rattle.spec_decimal.specs.Decimal.{decimal, signed_decimal}
use Rattle.spec_decimal.proofs.ReadLaws.{length_decimal}
use Rattle.spec_panel_print.specs.Decode.{scalars_of}
use Rattle.spec_panel_print.proofs.DecodeLaws.{utf8_decodes}
use Rattle.spec_panel_print.specs.Print.{printed_character, quad_letter, printed_value}
use Rattle.spec_panel_print.proofs.PrintLaws.{Printable, printed_value_printable, printable_scalar}
use Rattle.spec_panel_print.proofs.AsciiLaws.{Ascii, ascii_encode, letter_ascii, decimal_ascii, signed_ascii}
use Rattle.spec_panel_print.specs.Flow.{flowed}
use Rattle.bytes_records.specs.Moves.{zeros}
use Rattle.panel_rows.specs.Lookup.{found_value}
use Rattle.panel_rows.specs.declared.values.ValueLookup.{ValueLookup}
use Rattle.panel_print.specs.ByteFlow.{flowed_bytes}
use Rattle.panel_print.specs.ByteFlowLaws.{flows_encoding}
use Rattle.panel_print.specs.LookupBytes.{letter_of, scalar_most, scalar_bytes, lookup_bytes}

-- ---- the bytes of what was found

shown_kept : (l : List ℕ) → All Printable l → map printed_character l ≡ l
unfolding printed_character
shown_kept [] h = refl
shown_kept (c ∷ l) h = rw (h.0.plain, shown_kept l h.1)

-- ASCII that is no control character flows as it is
flows_plain : (l : List ℕ) → All Ascii l → All Printable l → flowed_bytes 0 l ≡ flowed 0 l
flows_plain l a h = ap (flowed_bytes 0) (sym (ascii_encode l a)) ∙ flows_encoding 0 l (printable_scalar l h) ∙ ap (flowed 0) (shown_kept l h)

letter_is : (q : Quad) → letter_of (quad_byte q) ≡ quad_letter q
unfolding letter_of quad_byte quad_letter
letter_is N = refl
letter_is F = refl
letter_is T = refl
letter_is S = refl

pub found_flows : (m : ℕ) (v : Value) → Storable v → flowed_bytes 0 (lookup_bytes (found_value m v)) ≡ flowed 0 (printed_value v)
unfolding lookup_bytes scalar_bytes printed_value StorableBy
found_flows m (quad q) h = ap (λ (c : ℕ). flowed_bytes 0 (c ∷ [])) (letter_is q) ∙ flows_plain (quad_letter q ∷ []) (letter_ascii q, tt) (printed_value_printable (quad q) h)
found_flows m (signed z) h = flows_plain (signed_decimal z) (signed_ascii z) (printed_value_printable (signed z) h)
found_flows m (text t) h =
    let d = utf8_decodes t h.utf8 in
    ap (flowed_bytes 0) (take_at t (zeros (text_bytes - length t)) (length t) refl ∙ sym d.is_encoding) ∙ flows_encoding 0 (scalars_of t) d.all_scalar
found_flows m (unsigned x) h = flows_plain (decimal x) (decimal_ascii x) (printed_value_printable (unsigned x) h)
found_flows m (score n) h = flows_plain (decimal n) (decimal_ascii n) (printed_value_printable (score n) h)

-- ---- by the kind

module _ (l : ValueLookup) where
  pub text_bytes_lem : l.kind ≡ 3 → lookup_bytes l ≡ take l.text_len l.text
  unfolding lookup_bytes
  text_bytes_lem k = rw (eq-eqb l.kind 3 k)

  pub no_text_bytes : (l.kind ≡ 3 → ⊥) → lookup_bytes l ≡ scalar_bytes l
  unfolding lookup_bytes
  no_text_bytes n = rw (ne_eqb l.kind 3 n)

  pub quad_bytes : l.kind ≡ 1 → scalar_bytes l ≡ letter_of l.quad ∷ []
  unfolding scalar_bytes
  quad_bytes k = rw (eq-eqb l.kind 1 k)

  pub signed_bytes : (l.kind ≡ 1 → ⊥) → l.kind ≡ 2 → scalar_bytes l ≡ signed_decimal l.signed
  unfolding scalar_bytes
  signed_bytes n k = rw (ne_eqb l.kind 1 n, eq-eqb l.kind 2 k)

  pub unsigned_bytes : (l.kind ≡ 1 → ⊥) → (l.kind ≡ 2 → ⊥) → scalar_bytes l ≡ decimal l.unsigned
  unfolding scalar_bytes
  unsigned_bytes n m = rw (ne_eqb l.kind 1 n, ne_eqb l.kind 2 m)

-- ---- how many they are

signed_few : (z : ℤ) → length (signed_decimal z) ≤ scalar_most
unfolding signed_decimal
signed_few (pos n) = omega (arith, (length_decimal n).1)
signed_few (negsuc n) = omega (arith, (length_decimal (suc n)).1)

pub scalar_few : (l : ValueLookup) → length (scalar_bytes l) ≤ scalar_most
unfolding scalar_bytes
scalar_few l =
    if_cases (λ (x : List ℕ). length x ≤ scalar_most) (eqb l.kind 1) _ _ (λ t. omega arith)
    (λ t. if_cases (λ (x : List ℕ). length x ≤ scalar_most) (eqb l.kind 2) _ _ (λ u. signed_few l.signed) (λ u. omega (arith, (length_decimal l.unsigned).1)))
