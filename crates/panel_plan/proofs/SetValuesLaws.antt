-- The value of an operation stands where its bytes say.
use Rattle.std.specs.Prelude.{ℕ, ◌+◌, ◌≡◌, length, drop}
use Rattle.std.proofs.Common.{sym, ◌∙◌, arith, length-append, drop_at, drop-drop}
use Rattle.std.proofs.Math.Path.{ap}
use mathlib.Core.List.{List, ◌∷◌, ◌++◌, append_assoc}
use Rattle.spec_lists.proofs.BytesLaws.{length_little_endian}
use Rattle.spec_patch.specs.Patch.{Value, Operation, set_binding, set_availability, insert, update, remove, move}
use Rattle.spec_patch.specs.Edition.{Edition}
use Rattle.spec_patch.specs.Encode.{u32, u64, encode_optional, encode_value, encode_operation}
use Rattle.spec_patch.specs.Fits.{FitsValue, OperationHolds, FitsOperation}
use Rattle.spec_patch.specs.Read.{read_value}
use Rattle.spec_patch.proofs.ReadLaws.{value_codec}
use Rattle.projection_patch.specs.Widths.{past_slot, past_key}
use Rattle.panel_plan.specs.SetValues.{value_read, value_in, value_offset, StandsAt}

module _ {ed : Edition} {set : List ℕ} (at : ℕ) where
  -- it is the one that is read there
  pub value_there : (v : Value) → StandsAt ed set at v → value_in ed set at ≡ v
  unfolding value_in
  value_there v h = ap (λ (bs : List ℕ). value_read (read_value ed bs)) h.bytes ∙ ap value_read ((value_codec ed).back v h.fits h.rest)

  -- behind k bytes
  behind : (k : ℕ) (front : List ℕ) (v : Value) (rest : List ℕ) → FitsValue ed v → length front ≡ k → drop at set ≡ front ++ (encode_value v ++ rest) → StandsAt ed set (at + k) v
  behind k front v rest fits long e = record { rest = rest; bytes = sym (drop-drop k at set) ∙ ap (drop k) e ∙ drop_at front (encode_value v ++ rest) k long; fits = fits }

-- two fields, or three, and a value
two_behind : (kind : ℕ) (a b v rest : List ℕ) → (kind ∷ a ++ (b ++ v)) ++ rest ≡ (kind ∷ a ++ b) ++ (v ++ rest)
two_behind kind a b v rest = simp append_assoc

three_behind : (kind : ℕ) (a b c v rest : List ℕ) → (kind ∷ a ++ (b ++ (c ++ v))) ++ rest ≡ (kind ∷ a ++ (b ++ c)) ++ (v ++ rest)
three_behind kind a b c v rest = simp append_assoc

-- an operation whose bytes begin at a position has its value `value_offset` behind it
pub value_stands : (ed : Edition) (set : List ℕ) (at : ℕ) (o : Operation) (rest : List ℕ) → FitsOperation ed o → drop at set ≡ encode_operation o ++ rest → OperationHolds (StandsAt ed set (at + value_offset o)) o
unfolding encode_operation value_offset OperationHolds
value_stands ed set at (set_binding n s v) rest f e =
    (f.0, (f.1.0, behind at past_slot (1 ∷ u64 n ++ u32 s) v rest f.1.1 (simp (length-append, length_little_endian)) (e ∙ two_behind 1 (u64 n) (u32 s) (encode_value v) rest)))
value_stands ed set at (set_availability n a) rest f e = f
value_stands ed set at (insert c k before v) rest f e = (
  f.0,
  (
    f.1.0,
    (
      f.1.1.0,
      behind at (past_key + length (encode_optional before)) (3 ∷ u64 c ++ (u64 k ++ encode_optional before)) v rest f.1.1.1 (simp (length-append, length_little_endian) (omega arith))
          (e ∙ three_behind 3 (u64 c) (u64 k) (encode_optional before) (encode_value v) rest),
    ),
  ),
)
value_stands ed set at (update c k v) rest f e =
    (f.0, (f.1.0, behind at past_key (4 ∷ u64 c ++ u64 k) v rest f.1.1 (simp (length-append, length_little_endian)) (e ∙ two_behind 4 (u64 c) (u64 k) (encode_value v) rest)))
value_stands ed set at (remove c k) rest f e = f
value_stands ed set at (move c k before) rest f e = f
