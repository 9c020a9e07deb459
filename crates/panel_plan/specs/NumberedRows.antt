-- The rows of the plan that a batch starts from, by those of the table before it.
use Rattle.std.specs.Prelude.{ℕ, suc, List, [], ◌∷◌, ◌++◌, take}
use Rattle.spec_patch.specs.Encode.{u64}

-- the bytes before a row's value, its ids and its mark, and its number
unfoldable pub numbered_row : ℕ → ℕ → List ℕ → List ℕ
numbered_row front i row = take front row ++ u64 i

-- each row with its number, from i on
unfoldable pub numbered_rows : ℕ → ℕ → List (List ℕ) → List (List ℕ)
numbered_rows front i [] = []
numbered_rows front i (row ∷ rows) = numbered_row front i row ∷ numbered_rows front (suc i) rows
