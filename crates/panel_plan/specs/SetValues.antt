-- The values of a set by position: what sources in the set stand for.
use Rattle.std.specs.Prelude.{ℕ, ◌+◌, ◌≡◌, List, ◌++◌, length, drop}
use Rattle.spec_patch.specs.Patch.{Value, N, quad, Operation, set_binding, set_availability, insert, update, remove, move}
use Rattle.spec_patch.specs.Edition.{Edition}
use Rattle.spec_patch.specs.Encode.{encode_optional, encode_value}
use Rattle.spec_patch.specs.Fits.{FitsValue}
use Rattle.spec_patch.specs.Reader.{Result, read, refused}
use Rattle.spec_patch.specs.Read.{read_value}
use Rattle.projection_patch.specs.Widths.{past_slot, past_key}

-- what was read, or N
abbrev pub value_read : Result Value → Value
value_read (read v rest) = v
value_read (refused fault) = quad N

-- the value whose bytes begin at a position
unfoldable pub value_in : Edition → List ℕ → ℕ → Value
value_in ed set at = value_read (read_value ed (drop at set))

-- how many bytes of an operation stand before its value: the kind and the fields, as `encode_operation` has them
unfoldable pub value_offset : Operation → ℕ
value_offset (set_binding n s v) = past_slot
value_offset (set_availability n a) = 0
value_offset (insert c k before v) = past_key + length (encode_optional before)
value_offset (update c k v) = past_key
value_offset (remove c k) = 0
value_offset (move c k before) = 0

-- the bytes from a position on begin with a value of the edition
pub record StandsAt (ed : Edition) (set : List ℕ) (at : ℕ) (v : Value) : Type 0 where
  pub rest : List ℕ
  pub bytes : drop at set ≡ encode_value v ++ rest
  pub fits : FitsValue ed v
