-- Rows of entries, whatever stands in them behind the ids.
use Rattle.std.specs.Prelude.{◌≡◌, List, ◌++◌, ℕ}
use Rattle.spec_patch.specs.Encode.{u64}
use Rattle.spec_projection.specs.Projection.{Entry}

-- a row begins with the entry's collection and its key
pub record KeyedRow (row : Entry → List ℕ) : Type 0 where
  pub behind : Entry → List ℕ
  pub is : (e : Entry) → row e ≡ u64 e.collection ++ (u64 e.key ++ behind e)
