-- A text stands at the end of its operation: so the place that an answer gives holds the text, and an operation that was read is the one that
-- the answer stands for.
use Rattle.std.specs.Prelude.{ℕ, ◌+◌, ◌-◌, ◌≤◌, ◌≡◌, refl, List, [], ◌∷◌, ◌++◌, Bool, length, take, drop}
use Rattle.std.proofs.Common.{sym, ap, ap₂, ◌∙◌, append-nil, append_assoc, arith, length-append, take_at, drop_at, of_z}
use Rattle.std.proofs.Math.Option.{Option, none, some}
use Rattle.std.specs.Int.{w64}
use Rattle.spec_lists.specs.Bytes.{Bytes}
use Rattle.spec_patch.specs.Patch.{Quad, N, F, T, S, Availability, available, unavailable, hidden, pending, stale, Value, quad, signed, text, unsigned, score, Operation, set_binding, set_availability, insert, update, remove, move}
use Rattle.spec_patch.specs.Edition.{Edition}
use Rattle.spec_patch.specs.Encode.{u32, u64, encode_optional, quad_byte, availability_byte, encode_text, kind_of, value_body, encode_value, encode_operation}
use Rattle.spec_patch.specs.Reader.{read}
use Rattle.spec_patch.specs.Read.{read_operation_by}
use Rattle.spec_patch.proofs.ReadLaws.{operation_codec_by}
use Rattle.projection_patch.specs.Meaning.{before_to, before_of, quad_to, quad_of, availability_to, availability_value_of, value_to, value_of, operation_to, operation_of}

-- ---- the text of an operation, or no bytes where it has none

unfoldable pub text_in : Value → List ℕ
text_in (quad q) = []
text_in (signed z) = []
text_in (text t) = t
text_in (unsigned n) = []
text_in (score n) = []

unfoldable pub text_of : Operation → List ℕ
text_of (set_binding n s v) = text_in v
text_of (set_availability n a) = []
text_of (insert c k b v) = text_in v
text_of (update c k v) = text_in v
text_of (remove c k) = []
text_of (move c k b) = []

-- ---- it stands at the end

-- the list ends with the other
record EndsWith (l t : List ℕ) : Type 0 where
  front : List ℕ
  is : l ≡ front ++ t

none_at_end : (l : List ℕ) → EndsWith l []
none_at_end l = record { front = l; is = sym (append-nil l) }

after_end : (x l t : List ℕ) → EndsWith l t → EndsWith (x ++ l) t
after_end x l t h = record { front = x ++ h.front; is = ap (λ (y : List ℕ). x ++ y) h.is ∙ sym (append_assoc x h.front t) }

value_end : (v : Value) → EndsWith (encode_value v) (text_in v)
unfolding encode_value kind_of value_body encode_text text_in
value_end (quad q) = none_at_end (1 ∷ (quad_byte q ∷ []))
value_end (signed z) = none_at_end (2 ∷ u64 (of_z w64 z))
value_end (text t) = record { front = 3 ∷ u32 (length t); is = refl }
value_end (unsigned n) = none_at_end (4 ∷ u64 n)
value_end (score n) = none_at_end (5 ∷ (n ∷ []))

operation_end : (o : Operation) → EndsWith (encode_operation o) (text_of o)
unfolding encode_operation text_of
operation_end (set_binding n s v) = after_end (1 ∷ u64 n) _ (text_in v) (after_end (u32 s) _ (text_in v) (value_end v))
operation_end (set_availability n a) = none_at_end (2 ∷ (u64 n ++ (availability_byte a ∷ [])))
operation_end (insert c k b v) = after_end (3 ∷ u64 c) _ (text_in v) (after_end (u64 k) _ (text_in v) (after_end (encode_optional b) _ (text_in v) (value_end v)))
operation_end (update c k v) = after_end (4 ∷ u64 c) _ (text_in v) (after_end (u64 k) _ (text_in v) (value_end v))
operation_end (remove c k) = none_at_end (5 ∷ (u64 c ++ u64 k))
operation_end (move c k b) = none_at_end (6 ∷ (u64 c ++ (u64 k ++ encode_optional b)))

pub text_within : (o : Operation) → length (text_of o) ≤ length (encode_operation o)
text_within o =
    let w = operation_end o in
    omega (arith, ap length w.is ∙ length-append w.front (text_of o))

-- so the bytes before the end, as many as the text has, are the text
pub text_placed : (o : Operation) (rest : List ℕ) → take (length (text_of o)) (drop (length (encode_operation o) - length (text_of o)) (encode_operation o ++ rest)) ≡ text_of o
text_placed o rest =
    let t = text_of o in
    let w = operation_end o in
    let long : length (encode_operation o) ≡ length w.front + length t = ap length w.is ∙ length-append w.front t in
    let whole : encode_operation o ++ rest ≡ w.front ++ (t ++ rest) = ap (λ (x : List ℕ). x ++ rest) w.is ∙ append_assoc w.front t rest in
    ap (λ (x : List ℕ). take (length t) (drop (length (encode_operation o) - length t) x)) whole
    ∙ ap (take (length t)) (drop_at w.front (t ++ rest) (length (encode_operation o) - length t) (omega arith))
    ∙ take_at t rest (length t) refl

-- ---- what an answer stands for

quad_back : (q : Quad) → quad_of (quad_to q) ≡ q
quad_back N = refl
quad_back F = refl
quad_back T = refl
quad_back S = refl

availability_back : (a : Availability) → availability_value_of (availability_to a) ≡ a
availability_back available = refl
availability_back unavailable = refl
availability_back hidden = refl
availability_back pending = refl
availability_back stale = refl

before_back : (b : Option ℕ) → before_of (before_to b) ≡ b
before_back none = refl
before_back (some k) = refl

-- a text stands at its place
abbrev Placed : List ℕ → ℕ → List ℕ → Type 0
Placed l end t = take (length t) (drop (end - length t) l) ≡ t

value_back : (l : List ℕ) (end : ℕ) (v : Value) → Placed l end (text_in v) → value_of l (value_to end v) ≡ v
unfolding text_in
value_back l end (quad q) h = ap quad (quad_back q)
value_back l end (signed z) h = refl
value_back l end (text t) h = ap text h
value_back l end (unsigned n) h = refl
value_back l end (score n) h = refl

placed_back : (l : List ℕ) (end : ℕ) (o : Operation) → Placed l end (text_of o) → operation_of l (operation_to end o) ≡ o
unfolding text_of
placed_back l end (set_binding n s v) h = ap (set_binding n s) (value_back l end v h)
placed_back l end (set_availability n a) h = ap (set_availability n) (availability_back a)
placed_back l end (insert c k b v) h = ap₂ (insert c k) (before_back b) (value_back l end v h)
placed_back l end (update c k v) h = ap (update c k) (value_back l end v h)
placed_back l end (remove c k) h = refl
placed_back l end (move c k b) h = ap (move c k) (before_back b)

-- of the bytes of an operation, with any behind them
pub operation_encoded_back : (o : Operation) (rest : List ℕ) → operation_of (encode_operation o ++ rest) (operation_to (length (encode_operation o)) o) ≡ o
operation_encoded_back o rest = placed_back (encode_operation o ++ rest) (length (encode_operation o)) o (text_placed o rest)

-- of any bytes that an operation is read from
pub operation_back : (check : Bool) (ed : Edition) (part : List ℕ) → Bytes part → (o : Operation) (rest : List ℕ) → read_operation_by check ed part ≡ read o rest → operation_of part (operation_to (length part - length rest) o) ≡ o
operation_back check ed part h o rest q =
    let whole : part ≡ encode_operation o ++ rest = ((operation_codec_by check ed).only h o rest q).1 in
    let end : length part - length rest ≡ length (encode_operation o) = omega (arith, ap length whole ∙ length-append (encode_operation o) rest) in
    ap₂ (λ (l : List ℕ) (n : ℕ). operation_of l (operation_to n o)) whole end ∙ operation_encoded_back o rest
