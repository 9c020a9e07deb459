-- Findings of the patch checks: 01, 'Patch checks'.
use Rattle.std.specs.Prelude.{ℕ, Bool, true, false, List, [], ◌∷◌, ◌++◌}
use Prim.Native.String.{String}

-- the kinds, by their names in `ProjectionPatchDiagnosticKind`
pub data Kind : Type 0 where
  broken_revision_chain collection_before_self duplicate_mutation_target duplicate_patch_id duplicate_sequence empty_operations mixed_document : Kind
  mixed_epoch mixed_stream non_increasing_revision out_of_order_sequence sequence_overflow zero_patch_id zero_stream_id : Kind

-- the numbers 1 to 14 of 01
unfoldable pub kind_number : Kind → ℕ
kind_number broken_revision_chain = 1
kind_number collection_before_self = 2
kind_number duplicate_mutation_target = 3
kind_number duplicate_patch_id = 4
kind_number duplicate_sequence = 5
kind_number empty_operations = 6
kind_number mixed_document = 7
kind_number mixed_epoch = 8
kind_number mixed_stream = 9
kind_number non_increasing_revision = 10
kind_number out_of_order_sequence = 11
kind_number sequence_overflow = 12
kind_number zero_patch_id = 13
kind_number zero_stream_id = 14

-- the code texts of the Rust, by which `DiagnosticCoordinate` orders
unfoldable pub code_text : Kind → String
code_text broken_revision_chain = "PP_BROKEN_REVISION_CHAIN"
code_text collection_before_self = "PP_COLLECTION_BEFORE_SELF"
code_text duplicate_mutation_target = "PP_DUP_MUTATION_TARGET"
code_text duplicate_patch_id = "PP_DUP_PATCH_ID"
code_text duplicate_sequence = "PP_DUP_SEQUENCE"
code_text empty_operations = "PP_EMPTY_OPERATIONS"
code_text mixed_document = "PP_MIXED_DOCUMENT"
code_text mixed_epoch = "PP_MIXED_EPOCH"
code_text mixed_stream = "PP_MIXED_STREAM"
code_text non_increasing_revision = "PP_NON_INCREASING_REVISION"
code_text out_of_order_sequence = "PP_OUT_OF_ORDER_SEQUENCE"
code_text sequence_overflow = "PP_SEQUENCE_OVERFLOW"
code_text zero_patch_id = "PP_ZERO_PATCH_ID"
code_text zero_stream_id = "PP_ZERO_STREAM_ID"

-- a record of three numbers; `kind` is a kind's number
pub record Finding : Type 0 where
  pub kind : ℕ
  pub domain : ℕ
  pub secondary : ℕ

abbrev pub finding : Kind → ℕ → ℕ → Finding
finding k d s = record { kind = kind_number k; domain = d; secondary = s }

-- order is kind, domain, secondary, and so is a record's layout
unfoldable pub finding_key : Finding → List ℕ
finding_key f = f.kind ∷ f.domain ∷ f.secondary ∷ []

-- one finding if the test passes, else none
unfoldable pub report : Bool → Finding → List Finding
report true f = f ∷ []
report false f = []

-- the findings of each element, given those before it, which stand nearest first
unfoldable pub check_each : {A : Type 0} → (List A → A → List Finding) → List A → List A → List Finding
check_each check earlier [] = []
check_each check earlier (x ∷ xs) = check earlier x ++ check_each check (x ∷ earlier) xs
