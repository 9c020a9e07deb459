-- The fields of a value that was looked up.
use Rattle.std.specs.Prelude.{ℕ, ◌-◌, ◌≡◌, refl, List, [], ◌∷◌, eqb, length, take, if◌then◌else◌}
use Rattle.std.proofs.Common.{ap, arith, take_at}
use borrow.Author.Tests.{eq-eqb, ne_eqb}
use Rattle.spec_patch.specs.Sizes.{text_bytes}
use Rattle.spec_patch.specs.Patch.{Value, quad, signed, text, unsigned, score}
use Rattle.spec_decimal.specs.Decimal.{decimal, signed_decimal}
use Rattle.spec_listing.specs.Escapes.{escaped}
use Rattle.spec_listing.specs.Listing.{value_fields}
use Rattle.bytes_records.specs.Moves.{zeros}
use Rattle.panel_rows.specs.Lookup.{found_value}
use Rattle.panel_rows.specs.declared.values.ValueLookup.{ValueLookup}

-- the letter of its kind, and the field that this kind sets; what is no other kind is taken for a text
unfoldable pub lookup_fields : ValueLookup → List (List ℕ)
lookup_fields l =
    if eqb l.kind 1 then (81 ∷ []) ∷ decimal l.quad ∷ []
    else if eqb l.kind 2 then (83 ∷ []) ∷ signed_decimal l.signed ∷ []
    else if eqb l.kind 4 then (85 ∷ []) ∷ decimal l.unsigned ∷ []
    else if eqb l.kind 5 then (77 ∷ []) ∷ decimal l.unsigned ∷ []
    else (84 ∷ []) ∷ escaped (take l.text_len l.text) ∷ []

-- a value that was found has the fields of its line, whatever its mark
pub found_fields : (mark : ℕ) (v : Value) → lookup_fields (found_value mark v) ≡ value_fields v
unfolding lookup_fields value_fields
found_fields mark (quad q) = refl
found_fields mark (signed z) = refl
found_fields mark (text t) = ap (λ (b : List ℕ). (84 ∷ []) ∷ escaped b ∷ []) (take_at t (zeros (text_bytes - length t)) (length t) refl)
found_fields mark (unsigned x) = refl
found_fields mark (score n) = refl

-- ---- by the kind

module _ (l : ValueLookup) where
  pub quad_fields : l.kind ≡ 1 → lookup_fields l ≡ (81 ∷ []) ∷ decimal l.quad ∷ []
  unfolding lookup_fields
  quad_fields k = rw (eq-eqb l.kind 1 k)

  pub signed_fields : l.kind ≡ 2 → lookup_fields l ≡ (83 ∷ []) ∷ signed_decimal l.signed ∷ []
  unfolding lookup_fields
  signed_fields k = rw (ne_eqb l.kind 1 (λ e. omega arith), eq-eqb l.kind 2 k)

  pub unsigned_fields : l.kind ≡ 4 → lookup_fields l ≡ (85 ∷ []) ∷ decimal l.unsigned ∷ []
  unfolding lookup_fields
  unsigned_fields k = rw (ne_eqb l.kind 1 (λ e. omega arith), ne_eqb l.kind 2 (λ e. omega arith), eq-eqb l.kind 4 k)

  pub score_fields : l.kind ≡ 5 → lookup_fields l ≡ (77 ∷ []) ∷ decimal l.unsigned ∷ []
  unfolding lookup_fields
  score_fields k = rw (ne_eqb l.kind 1 (λ e. omega arith), ne_eqb l.kind 2 (λ e. omega arith), ne_eqb l.kind 4 (λ e. omega arith), eq-eqb l.kind 5 k)

  pub text_fields : (l.kind ≡ 1 → ⊥) → (l.kind ≡ 2 → ⊥) → (l.kind ≡ 4 → ⊥) → (l.kind ≡ 5 → ⊥) → lookup_fields l ≡ (84 ∷ []) ∷ escaped (take l.text_len l.text) ∷ []
  unfolding lookup_fields
  text_fields a b c d = rw (ne_eqb l.kind 1 a, ne_eqb l.kind 2 b, ne_eqb l.kind 4 c, ne_eqb l.kind 5 d)
