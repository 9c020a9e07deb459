-- What the call that brings in a list answers, and what it leaves of the output.
use Rattle.std.specs.Prelude.{ℕ, List, ◌++◌, length, drop, Result, Ok, Err}
use Rattle.spec_import.specs.Import as model
use Rattle.patch_terms.specs.declared.TermRefusal.{TermRefusal}
use Rattle.patch_terms.specs.declared.TermRefusal.TheVariants as reason
use Rattle.patch_import.specs.declared.answer.ImportRefusal.{ImportRefusal}
use Rattle.patch_import.specs.declared.answer.ImportRefusal.TheVariants.{OtherForm, OverCapacity, PatchInvalid, OutputTooShort}

abbrev pub import_refusal_of : ImportRefusal → model.ImportRefusal
import_refusal_of OtherForm = model.other_form
import_refusal_of OverCapacity = model.over_capacity
import_refusal_of PatchInvalid = model.patch_invalid
import_refusal_of OutputTooShort = model.output_too_short

abbrev pub import_refusal_to : model.ImportRefusal → ImportRefusal
import_refusal_to model.other_form = OtherForm
import_refusal_to model.over_capacity = OverCapacity
import_refusal_to model.patch_invalid = PatchInvalid
import_refusal_to model.output_too_short = OutputTooShort

-- why a line holds no term
abbrev pub of_term : TermRefusal → ImportRefusal
of_term reason.OtherForm = OtherForm
of_term reason.OverCapacity = OverCapacity

-- the length
abbrev pub import_answer : model.Imported → Result ℕ ImportRefusal
import_answer (model.imported bs) = Ok (length bs)
import_answer (model.refused n) = Err (import_refusal_to n)

-- the bytes, and the rest of the output as it was
abbrev pub import_output : List ℕ → model.Imported → List ℕ
import_output out (model.imported bs) = bs ++ drop (length bs) out
import_output out (model.refused n) = out
