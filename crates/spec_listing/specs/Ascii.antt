-- Words as bytes.
use Rattle.std.specs.Prelude.{ℕ, List, [], ◌∷◌}
use Prim.Native.Char.{code}
use Prim.Native.String.{String, [] as noText, ◌∷◌ as ◌before◌}

-- the bytes of a word in ASCII
abbrev pub ascii : String → List ℕ
ascii noText = []
ascii (c before s) = code c ∷ ascii s
