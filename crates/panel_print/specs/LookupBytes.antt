-- The bytes that a value which was looked up prints as, before control characters are shown and lines are broken.
use Rattle.std.specs.Prelude.{ℕ, List, [], ◌∷◌, eqb, take, if◌then◌else◌}
use Rattle.spec_decimal.specs.Decimal.{decimal, signed_decimal}
use Rattle.panel_rows.specs.declared.values.ValueLookup.{ValueLookup}

-- the letters N, F, T, S of the numbers 0 to 3
unfoldable pub letter_of : ℕ → ℕ
letter_of n = if eqb n 0 then 78 else if eqb n 1 then 70 else if eqb n 2 then 84 else 83

-- the letter of a quad, a signed decimal, or the decimal of an unsigned number or a score
unfoldable pub scalar_bytes : ValueLookup → List ℕ
scalar_bytes l = if eqb l.kind 1 then letter_of l.quad ∷ [] else if eqb l.kind 2 then signed_decimal l.signed else decimal l.unsigned

-- a sign and 20 digits at the most
abbrev pub scalar_most : ℕ
scalar_most = 21

-- a text is its own bytes
unfoldable pub lookup_bytes : ValueLookup → List ℕ
lookup_bytes l = if eqb l.kind 3 then take l.text_len l.text else scalar_bytes l
