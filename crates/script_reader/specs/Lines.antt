-- The first line of bytes: the first of the parts that spec_replay's `split` gives.
use Rattle.std.specs.Prelude.{ℕ, List, [], ◌∷◌}
use Rattle.spec_replay.specs.Lines.{newline, split}

unfoldable pub first_part : List (List ℕ) → List ℕ
first_part [] = []
first_part (part ∷ parts) = part

-- the bytes before the first LF
unfoldable pub first_script_line : List ℕ → List ℕ
first_script_line l = first_part (split newline l)
