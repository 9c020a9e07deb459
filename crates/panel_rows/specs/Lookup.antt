-- What a lookup answers: the mark, and the value with its kind's field set and all others zero; or every field zero.
use Rattle.std.specs.Prelude.{ℕ, ◌-◌, true, false, ◌++◌, pos, length}
use Rattle.std.proofs.Math.Option.{Option, none, some, get_or}
use Rattle.spec_patch.specs.Sizes.{text_bytes}
use Rattle.spec_patch.specs.Patch.{Value, quad, signed, text, unsigned, score, Availability}
use Rattle.spec_patch.specs.Encode.{quad_byte, availability_byte}
use Rattle.bytes_records.specs.Moves.{zeros}
use Rattle.projection_patch.specs.declared.patch.ProjectionQuadState.{ProjectionQuadState}
use Rattle.projection_patch.specs.declared.patch.ProjectionQuadState.TheVariants as states
use Rattle.panel_rows.specs.declared.values.ValueLookup.{ValueLookup}
use Rattle.panel_rows.specs.declared.values.AvailabilityLookup.{AvailabilityLookup}

abbrev pub no_value : ValueLookup
no_value = record { found = false; mark = 0; kind = 0; quad = 0; signed = pos 0; unsigned = 0; text_len = 0; text = zeros text_bytes }

-- a value of that mark whose kind is still to be set
abbrev pub found_with : ℕ → ValueLookup
found_with m = record { found = true; mark = m; kind = 0; quad = 0; signed = pos 0; unsigned = 0; text_len = 0; text = zeros text_bytes }

-- the number of a quad state, as its canonical byte
abbrev pub quad_number : ProjectionQuadState → ℕ
quad_number states.N = 0
quad_number states.F = 1
quad_number states.T = 2
quad_number states.S = 3

abbrev pub found_quad : (m n : ℕ) → ValueLookup
found_quad m n = record { found = true; mark = m; kind = 1; quad = n; signed = pos 0; unsigned = 0; text_len = 0; text = zeros text_bytes }

-- kinds 1 to 5 as in canonical bytes; a score's number stands where an unsigned one's does
abbrev pub found_value : ℕ → Value → ValueLookup
found_value m (quad q) = found_quad m (quad_byte q)
found_value m (signed z) = record { found = true; mark = m; kind = 2; quad = 0; signed = z; unsigned = 0; text_len = 0; text = zeros text_bytes }
found_value m (text t) = record { found = true; mark = m; kind = 3; quad = 0; signed = pos 0; unsigned = 0; text_len = length t; text = t ++ zeros (text_bytes - length t) }
found_value m (unsigned x) = record { found = true; mark = m; kind = 4; quad = 0; signed = pos 0; unsigned = x; text_len = 0; text = zeros text_bytes }
found_value m (score n) = record { found = true; mark = m; kind = 5; quad = 0; signed = pos 0; unsigned = n; text_len = 0; text = zeros text_bytes }

-- a value with the mark beside it, or none
unfoldable pub value_lookup : Option ℕ → Option Value → ValueLookup
value_lookup mark none = no_value
value_lookup mark (some v) = found_value (get_or mark 0) v

unfoldable pub availability_lookup : Option ℕ → Option Availability → AvailabilityLookup
availability_lookup mark none = record { found = false; mark = 0; availability = 0 }
availability_lookup mark (some a) = record { found = true; mark = get_or mark 0; availability = availability_byte a }
