-- What a call that writes from a position on answers, and what it leaves of the output.
use Rattle.std.specs.Prelude.{ℕ, ◌+◌, List, ◌++◌, leb, length, drop, Result, Ok, Err, if◌then◌else◌}
use Rattle.spec_patch.specs.Write as model
use Rattle.bytes_wire.specs.Write.{has_room, overwrite}
use Rattle.projection_patch.specs.declared.text_rule.TextFault.{TextFault}
use Rattle.projection_patch.specs.declared.text_rule.TextFault.TheVariants as text
use Rattle.patch_part_writer.specs.declared.written.WriteRefusal.{WriteRefusal}
use Rattle.patch_part_writer.specs.declared.written.WriteRefusal.TheVariants.{OverCapacity, Malformed, OutputTooShort}

abbrev pub write_refusal_of : WriteRefusal → model.WriteRefusal
write_refusal_of OverCapacity = model.over_capacity
write_refusal_of Malformed = model.malformed
write_refusal_of OutputTooShort = model.output_too_short

abbrev pub refusal_to : model.WriteRefusal → WriteRefusal
refusal_to model.over_capacity = OverCapacity
refusal_to model.malformed = Malformed
refusal_to model.output_too_short = OutputTooShort

-- why a list with such a text is not written
abbrev pub text_refusal : TextFault → WriteRefusal
text_refusal text.Malformed = Malformed
text_refusal text.ManyCharacters = OverCapacity

-- the position behind the bytes where there is room for them, else 14
abbrev pub written_at : List ℕ → ℕ → model.Written → Result ℕ WriteRefusal
written_at out at (model.wrote bs) = if has_room out at (length bs) then Ok (at + length bs) else Err OutputTooShort
written_at out at (model.refused n) = Err (refusal_to n)

-- the bytes in their place where there is room for them; a refusal leaves every byte as it was
abbrev pub output_at : List ℕ → ℕ → model.Written → List ℕ
output_at out at (model.wrote bs) = overwrite out at bs
output_at out at (model.refused n) = out

-- ---- the same by what 01's writer gives, for a call that writes from the start of the output

-- the bytes, if the output has so many places
abbrev pub with_room : ℕ → model.Written → model.Written
with_room room (model.wrote bs) = if leb (length bs) room then model.wrote bs else model.refused model.output_too_short
with_room room (model.refused n) = model.refused n

-- the length
abbrev pub write_answer_of : model.Written → Result ℕ WriteRefusal
write_answer_of (model.wrote bs) = Ok (length bs)
write_answer_of (model.refused n) = Err (refusal_to n)

-- the bytes, and the rest of the output as it was
abbrev pub output_of : List ℕ → model.Written → List ℕ
output_of out (model.wrote bs) = bs ++ drop (length bs) out
output_of out (model.refused n) = out
