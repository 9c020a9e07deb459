-- Reading a set: 01, 'Canonical bytes' and step 4, and 02, 'Job 5' and 'Job 6'. The first fault in reading decides. What is read of texts is a reader that
-- the others are given (`…With`), so that reading under another rule of texts is told in a line each.
use Rattle.std.specs.Prelude.{ℕ, Bool, true, List, [], ◌∷◌, leb, length, ℤ, if◌then◌else◌}
use Rattle.std.proofs.Math.Option.{Option, none, some}
use Rattle.std.specs.Int.{w64}
use Rattle.std.proofs.Common.{to_z}
use Rattle.spec_patch.specs.TextRule.{few_bytes, allowed, few_characters}
use Rattle.spec_patch.specs.Sizes.{set_bytes, set_patches, patch_operations, highest_score}
use Rattle.spec_patch.specs.Patch.{Quad, N, F, T, S, Availability, available, unavailable, hidden, pending, stale, Value, quad, signed, text, unsigned, score, Operation, set_binding, set_availability, insert, update, remove, move, Envelope, Patch}
use Rattle.spec_patch.specs.Edition.{Edition, has_kind}
use Rattle.spec_patch.specs.Encode.{heading}
use Rattle.spec_patch.specs.Reader.{Fault, malformed, over_capacity, Result, read, refused, Reader, followed, mapped, pair, checked, or_tag, no_tag, many, nothing, byte, bytes, number, literal}

-- ---- numbers

abbrev pub read_u32 : Reader ℕ
read_u32 = number 4

abbrev pub read_u64 : Reader ℕ
read_u64 = number 8

abbrev pub read_i64 : Reader ℤ
read_i64 = mapped (to_z w64) read_u64

abbrev pub within_capacity : ℕ → ℕ → Bool
within_capacity capacity n = leb n capacity

-- a count; over its capacity is 12 at its field, before what follows is read
abbrev pub read_count : ℕ → Reader ℕ
read_count capacity = checked (within_capacity capacity) over_capacity read_u32

-- a list behind its count
abbrev pub read_counted : {A : Type 0} → ℕ → Reader A → Reader (List A)
read_counted capacity p = followed (read_count capacity) (λ n. many n p)

-- ---- a byte that tells what follows

-- byte 0, or 1 and the number
unfoldable pub optional_after : ℕ → Reader (Option ℕ)
optional_after = or_tag 0 (mapped (λ u. none) nothing) (or_tag 1 (mapped some read_u64) no_tag)

unfoldable pub read_optional : Reader (Option ℕ)
read_optional = followed byte optional_after

-- N 0, F 1, T 2, S 3
unfoldable pub quad_after : ℕ → Reader Quad
quad_after =
    or_tag 0 (mapped (λ u. N) nothing)
    (or_tag 1 (mapped (λ u. F) nothing)
    (or_tag 2 (mapped (λ u. T) nothing)
    (or_tag 3 (mapped (λ u. S) nothing) no_tag)))

unfoldable pub read_quad : Reader Quad
read_quad = followed byte quad_after

-- Available 0, Unavailable 1, Hidden 2, Pending 3, Stale 4
unfoldable pub availability_after : ℕ → Reader Availability
availability_after =
    or_tag 0 (mapped (λ u. available) nothing)
    (or_tag 1 (mapped (λ u. unavailable) nothing)
    (or_tag 2 (mapped (λ u. hidden) nothing)
    (or_tag 3 (mapped (λ u. pending) nothing)
    (or_tag 4 (mapped (λ u. stale) nothing) no_tag))))

unfoldable pub read_availability : Reader Availability
read_availability = followed byte availability_after

-- ---- texts: `check` says whether RFC 3629 is asked, or the bytes may be any, as where they were checked before

-- as many bytes as the length says, else 10; within their capacity, else 12
abbrev pub text_taken : ℕ → Reader (List ℕ)
text_taken n = checked few_bytes over_capacity (bytes n)

-- then RFC 3629 allows them, else 10; and their characters are within their capacity, else 12
abbrev pub text_body : Bool → ℕ → Reader (List ℕ)
text_body check n = checked (few_characters check) over_capacity (checked (allowed check) malformed (text_taken n))

-- a text: its length, then its bytes
unfoldable pub read_text_by : Bool → Reader (List ℕ)
read_text_by check = followed read_u32 (text_body check)

-- ---- values

-- a score is a byte, and above 100 it is 10
abbrev pub read_score : Reader ℕ
read_score = checked (within_capacity highest_score) malformed byte

-- 1 quad byte; 2 i64; 3 u32 length and text; 4 u64; 5 score
abbrev pub value_after_with : Reader (List ℕ) → ℕ → Reader Value
value_after_with readTexts =
    or_tag 1 (mapped quad read_quad)
    (or_tag 2 (mapped signed read_i64)
    (or_tag 3 (mapped text readTexts)
    (or_tag 4 (mapped unsigned read_u64)
    (or_tag 5 (mapped score read_score) no_tag))))

unfoldable pub value_after : Bool → ℕ → Reader Value
value_after check = value_after_with (read_text_by check)

-- a kind that the edition lacks is 10
unfoldable pub in_edition : Edition → (ℕ → Reader Value) → ℕ → Reader Value
in_edition ed f kind bs = if has_kind ed kind then f kind bs else refused malformed

unfoldable pub read_value_by : Bool → Edition → Reader Value
read_value_by check ed = followed byte (in_edition ed (value_after check))

-- ---- operations, each of its fields in order

abbrev pub to_set_binding : ℕ × (ℕ × Value) → Operation
to_set_binding t = set_binding t.0 t.1.0 t.1.1

abbrev pub to_set_availability : ℕ × Availability → Operation
to_set_availability t = set_availability t.0 t.1

abbrev pub to_insert : ℕ × (ℕ × (Option ℕ × Value)) → Operation
to_insert t = insert t.0 t.1.0 t.1.1.0 t.1.1.1

abbrev pub to_update : ℕ × (ℕ × Value) → Operation
to_update t = update t.0 t.1.0 t.1.1

abbrev pub to_remove : ℕ × ℕ → Operation
to_remove t = remove t.0 t.1

abbrev pub to_move : ℕ × (ℕ × Option ℕ) → Operation
to_move t = move t.0 t.1.0 t.1.1

-- operations 1 to 6
abbrev pub operation_after_with : Reader Value → ℕ → Reader Operation
operation_after_with readValues =
    or_tag 1 (mapped to_set_binding (pair read_u64 (pair read_u32 readValues)))
    (or_tag 2 (mapped to_set_availability (pair read_u64 read_availability))
    (or_tag 3 (mapped to_insert (pair read_u64 (pair read_u64 (pair read_optional readValues))))
    (or_tag 4 (mapped to_update (pair read_u64 (pair read_u64 readValues)))
    (or_tag 5 (mapped to_remove (pair read_u64 read_u64))
    (or_tag 6 (mapped to_move (pair read_u64 (pair read_u64 read_optional))) no_tag)))))

unfoldable pub operation_after : Bool → Edition → ℕ → Reader Operation
operation_after check ed = operation_after_with (read_value_by check ed)

unfoldable pub read_operation_by : Bool → Edition → Reader Operation
read_operation_by check ed = followed byte (operation_after check ed)

-- texts are checked
abbrev pub read_text : Reader (List ℕ)
read_text = read_text_by true

abbrev pub read_value : Edition → Reader Value
read_value = read_value_by true

abbrev pub read_operation : Edition → Reader Operation
read_operation = read_operation_by true

-- ---- patches and sets

abbrev pub EnvelopeFields : Type 0
EnvelopeFields = ℕ × (ℕ × (ℕ × (Option ℕ × (ℕ × (ℕ × (ℕ × ℕ))))))

abbrev pub to_envelope : EnvelopeFields → Envelope
to_envelope t = record {
  id = t.0;
  stream = t.1.0;
  document = t.1.1.0;
  surface = t.1.1.1.0;
  previous = t.1.1.1.1.0;
  revision = t.1.1.1.1.1.0;
  epoch = t.1.1.1.1.1.1.0;
  sequence = t.1.1.1.1.1.1.1;
}

-- id, stream, document; surface; previous revision, revision, epoch, sequence
unfoldable pub read_envelope : Reader Envelope
read_envelope =
    mapped to_envelope
    (pair read_u64 (pair read_u64 (pair read_u64 (pair read_optional (pair read_u64 (pair read_u64 (pair read_u64 read_u64)))))))

abbrev pub to_patch : Envelope × List Operation → Patch
to_patch t = record { envelope = t.0; operations = t.1 }

-- the envelope, then the operations behind their count
abbrev pub read_patch_with : Reader Operation → Reader Patch
read_patch_with readOperations = mapped to_patch (pair read_envelope (read_counted patch_operations readOperations))

unfoldable pub read_patch : Edition → Reader Patch
read_patch ed = read_patch_with (read_operation ed)

-- the heading, then the patches behind their count
abbrev pub read_patches_with : Edition → Reader Patch → Reader (List Patch)
read_patches_with ed readOne = mapped (λ t. t.1) (pair (literal (heading ed)) (read_counted set_patches readOne))

unfoldable pub read_patches : Edition → Reader (List Patch)
read_patches ed = read_patches_with ed (read_patch ed)

-- what reading a whole set gives
pub data SetReading : Type 0 where
  patches : List Patch → SetReading
  fault : Fault → SetReading

-- bytes left at the end are 10
unfoldable pub ended : Result (List Patch) → SetReading
ended (read ps []) = patches ps
ended (read ps (b ∷ rest)) = fault malformed
ended (refused f) = fault f

-- more than 32,768 bytes is 12 before any reading
abbrev pub read_set_with : Reader (List Patch) → List ℕ → SetReading
read_set_with read_all bs = if leb (length bs) set_bytes then ended (read_all bs) else fault over_capacity

unfoldable pub read_set : Edition → List ℕ → SetReading
read_set ed = read_set_with (read_patches ed)
