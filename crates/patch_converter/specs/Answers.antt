-- What the call that converts answers, and what it leaves of the output.
use Rattle.std.specs.Prelude.{ℕ, List, ◌++◌, length, drop, Result, Ok, Err}
use Rattle.spec_conversion.specs.Conversion as model
use Rattle.projection_patch.specs.ReadAnswers.{fault_of}
use Rattle.projection_patch.specs.declared.read_values.ProjectionPatchReadFault.{ProjectionPatchReadFault}
use Rattle.patch_converter.specs.declared.ConversionRefusal.{ConversionRefusal}
use Rattle.patch_converter.specs.declared.ConversionRefusal.TheVariants.{OverCapacity, Malformed, KindMissing, OutputTooShort}

abbrev pub conversion_refusal_of : ConversionRefusal → model.ConversionRefusal
conversion_refusal_of OverCapacity = model.over_capacity
conversion_refusal_of Malformed = model.malformed
conversion_refusal_of KindMissing = model.kind_missing
conversion_refusal_of OutputTooShort = model.output_too_short

abbrev pub conversion_refusal_to : model.ConversionRefusal → ConversionRefusal
conversion_refusal_to model.over_capacity = OverCapacity
conversion_refusal_to model.malformed = Malformed
conversion_refusal_to model.kind_missing = KindMissing
conversion_refusal_to model.output_too_short = OutputTooShort

-- the refusal for a fault in reading
abbrev pub unread_to : ProjectionPatchReadFault → ConversionRefusal
unread_to f = conversion_refusal_to (model.unread (fault_of f))

-- the length
abbrev pub conversion_answer : model.Converted → Result ℕ ConversionRefusal
conversion_answer (model.converted bs) = Ok (length bs)
conversion_answer (model.refused n) = Err (conversion_refusal_to n)

-- the bytes, and the rest of the output as it was
abbrev pub conversion_output : List ℕ → model.Converted → List ℕ
conversion_output out (model.converted bs) = bs ++ drop (length bs) out
conversion_output out (model.refused n) = out
