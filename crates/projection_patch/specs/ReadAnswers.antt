-- What the readers answer, as definitions of what spec_patch reads. Of a part of n bytes with a rest of r, the position behind what was read
-- is n - r.
use Rattle.std.specs.Prelude.{ℕ, ◌-◌, List, [], leb, length, take, drop, if◌then◌else◌}
use Rattle.std.specs.Prelude as code
use Rattle.std.proofs.Math.Option.{Option}
use Rattle.spec_lists.specs.Options.{optional_to}
use Rattle.spec_patch.specs.Patch as model
use Rattle.spec_patch.specs.Reader.{Fault, malformed, over_capacity, Result, read, refused}
use Rattle.spec_patch.specs.Read.{quad_after, availability_after}
use Rattle.projection_patch.specs.Meaning.{quad_to, value_to, availability_to, operation_to}
use Rattle.projection_patch.specs.declared.read_values.ProjectionPatchReadFault.{ProjectionPatchReadFault}
use Rattle.projection_patch.specs.declared.read_values.ProjectionPatchReadFault.TheVariants.{Malformed, OverCapacity}
use Rattle.projection_patch.specs.declared.patch.ProjectionQuadState.{ProjectionQuadState}
use Rattle.projection_patch.specs.declared.patch.ProjectionNodeAvailability.{ProjectionNodeAvailability}
use Rattle.projection_patch.specs.declared.patch.ProjectionPatchValue.{ProjectionPatchValue}
use Rattle.projection_patch.specs.declared.patch.ProjectionPatchOperation.{ProjectionPatchOperation}
use Rattle.projection_patch.specs.declared.text_rule.TextFault.{TextFault}
use Rattle.projection_patch.specs.declared.text_rule.TextFault.TheVariants as text-fault

-- ---- faults

abbrev pub fault_to : Fault → ProjectionPatchReadFault
fault_to malformed = Malformed
fault_to over_capacity = OverCapacity

abbrev pub fault_of : ProjectionPatchReadFault → Fault
fault_of Malformed = malformed
fault_of OverCapacity = over_capacity

-- of a text that breaks the rule
abbrev pub text_fault : TextFault → ProjectionPatchReadFault
text_fault text-fault.Malformed = Malformed
text_fault text-fault.ManyCharacters = OverCapacity

-- ---- one answer for every reader

module _ {A X : Type 0} where
  -- the answer of a reading from a part of n bytes: what was read, told by where it ends, with that position; or the fault
  abbrev pub answer : (ℕ → A → X) → ℕ → Result A → code.Result (X × ℕ) ProjectionPatchReadFault
  answer to n (read a rest) = code.Ok (to (n - length rest) a, n - length rest)
  answer to n (refused f) = code.Err (fault_to f)

module _ {A X : Type 0} where
  -- what was read does not depend on where it ends
  abbrev pub anywhere : (A → X) → ℕ → A → X
  anywhere to end = to

-- ---- values and what they are made of

module _ {A : Type 0} where
  -- what is the same in the code, as a number or a byte
  abbrev pub plain : ℕ → A → A
  plain end a = a

  abbrev pub plain_answer : ℕ → Result A → code.Result (A × ℕ) ProjectionPatchReadFault
  plain_answer = answer plain

abbrev pub count_answer : ℕ → Result ℕ → code.Result (ℕ × ℕ) ProjectionPatchReadFault
count_answer = plain_answer

abbrev pub optional_answer : ℕ → Result (Option ℕ) → code.Result (code.Option ℕ × ℕ) ProjectionPatchReadFault
optional_answer = answer (anywhere optional_to)

abbrev pub availability_answer : ℕ → Result model.Availability → code.Result (ProjectionNodeAvailability × ℕ) ProjectionPatchReadFault
availability_answer = answer (anywhere availability_to)

abbrev pub value_answer : ℕ → Result model.Value → code.Result (ProjectionPatchValue × ℕ) ProjectionPatchReadFault
value_answer = answer value_to

-- what a byte tells of a state, as its reader does
abbrev pub told : {A X : Type 0} → (A → X) → Result A → code.Result X ProjectionPatchReadFault
told to (read a rest) = code.Ok (to a)
told to (refused f) = code.Err (fault_to f)

abbrev pub quad_tag_answer : ℕ → code.Result ProjectionQuadState ProjectionPatchReadFault
quad_tag_answer tag = told quad_to (quad_after tag [])

abbrev pub availability_tag_answer : ℕ → code.Result ProjectionNodeAvailability ProjectionPatchReadFault
availability_tag_answer tag = told availability_to (availability_after tag [])

-- the part of a set from an index on, as `&set[at..]` lends it
abbrev pub lent_from : List ℕ → ℕ → List ℕ
lent_from set at = take (length set - at) (drop at set)

-- the bytes from index a up to b, or none where a is past b or b past the end
unfoldable pub lent_part : List ℕ → ℕ → ℕ → List ℕ
lent_part set a b = if leb b (length set) then take (b - a) (drop a set) else []

-- ---- operations

abbrev pub operation_answer : ℕ → Result model.Operation → code.Result (ProjectionPatchOperation × ℕ) ProjectionPatchReadFault
operation_answer = answer operation_to
