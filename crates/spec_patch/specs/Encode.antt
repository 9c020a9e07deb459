-- Canonical bytes: 01, 'Canonical bytes'. All numbers are little-endian.
use Rattle.std.specs.Prelude.{ℕ, length}
use mathlib.Core.List.{List, [], ◌∷◌, ◌++◌, flat_map}
use Rattle.std.proofs.Math.Option.{Option, none, some}
use Rattle.std.specs.Int.{w64}
use Rattle.std.proofs.Common.{of_z}
use Rattle.spec_lists.specs.Bytes.{little_endian}
use Rattle.spec_patch.specs.Edition.{Edition, letters}
use Rattle.spec_patch.specs.Patch.{Quad, N, F, T, S, Availability, available, unavailable, hidden, pending, stale, Value, quad, signed, text, unsigned, score, Operation, set_binding, set_availability, insert, update, remove, move, Envelope, Patch}

abbrev pub u32 : ℕ → List ℕ
u32 = little_endian 4

abbrev pub u64 : ℕ → List ℕ
u64 = little_endian 8

-- an optional u64 is byte 0, or 1 and the number
unfoldable pub encode_optional : Option ℕ → List ℕ
encode_optional none = 0 ∷ []
encode_optional (some x) = 1 ∷ u64 x

-- N 0, F 1, T 2, S 3
unfoldable pub quad_byte : Quad → ℕ
quad_byte N = 0
quad_byte F = 1
quad_byte T = 2
quad_byte S = 3

-- Available 0, Unavailable 1, Hidden 2, Pending 3, Stale 4
unfoldable pub availability_byte : Availability → ℕ
availability_byte available = 0
availability_byte unavailable = 1
availability_byte hidden = 2
availability_byte pending = 3
availability_byte stale = 4

-- u32 length and the text
unfoldable pub encode_text : List ℕ → List ℕ
encode_text t = u32 (length t) ++ t

-- the kind of a value: 1 quad byte, 2 i64, 3 text, 4 u64, 5 score byte
unfoldable pub kind_of : Value → ℕ
kind_of (quad q) = 1
kind_of (signed z) = 2
kind_of (text t) = 3
kind_of (unsigned x) = 4
kind_of (score n) = 5

-- what follows the kind; an i64 is in two's complement
unfoldable pub value_body : Value → List ℕ
value_body (quad q) = quad_byte q ∷ []
value_body (signed z) = u64 (of_z w64 z)
value_body (text t) = encode_text t
value_body (unsigned x) = u64 x
value_body (score n) = n ∷ []

unfoldable pub encode_value : Value → List ℕ
encode_value v = kind_of v ∷ value_body v

-- operations 1 to 6
unfoldable pub encode_operation : Operation → List ℕ
encode_operation (set_binding node slot v) = 1 ∷ u64 node ++ (u32 slot ++ encode_value v)
encode_operation (set_availability node a) = 2 ∷ u64 node ++ (availability_byte a ∷ [])
encode_operation (insert collection key before v) = 3 ∷ u64 collection ++ (u64 key ++ (encode_optional before ++ encode_value v))
encode_operation (update collection key v) = 4 ∷ u64 collection ++ (u64 key ++ encode_value v)
encode_operation (remove collection key) = 5 ∷ u64 collection ++ u64 key
encode_operation (move collection key before) = 6 ∷ u64 collection ++ (u64 key ++ encode_optional before)

-- u64 id, stream, document; surface; u64 previous revision, revision, epoch, sequence
unfoldable pub encode_envelope : Envelope → List ℕ
encode_envelope e =
    u64 e.id ++ (u64 e.stream ++ (u64 e.document ++ (encode_optional e.surface
    ++ (u64 e.previous ++ (u64 e.revision ++ (u64 e.epoch ++ u64 e.sequence))))))

-- a list behind its u32 count
unfoldable pub encode_counted : {A : Type 0} → (A → List ℕ) → List A → List ℕ
encode_counted encodeElement l = u32 (length l) ++ flat_map encodeElement l

-- a patch: its envelope, u32 operation count, its operations
unfoldable pub encode_patch : Patch → List ℕ
encode_patch p = encode_envelope p.envelope ++ encode_counted encode_operation p.operations

-- u32 27 and the letters
unfoldable pub heading : Edition → List ℕ
heading ed = u32 (length (letters ed)) ++ letters ed

-- a set: the heading, u32 patch count, the patches
unfoldable pub encode : Edition → List Patch → List ℕ
encode ed ps = heading ed ++ encode_counted encode_patch ps
