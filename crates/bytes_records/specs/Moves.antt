-- Moves of bytes in a list that keeps its length.
use Rattle.std.specs.Prelude.{ℕ, ◌-◌, List, ◌++◌, length, take, drop, replicate}

-- n bytes that are 0
abbrev pub zeros : ℕ → List ℕ
zeros n = replicate n 0

-- s over the first bytes of t
abbrev pub overwrite_rows : List ℕ → List ℕ → List ℕ
overwrite_rows s t = s ++ drop (length s) t

-- s before the bytes of t, whose last ones are lost
abbrev pub push_front : List ℕ → List ℕ → List ℕ
push_front s t = s ++ take (length t - length s) t

-- s behind the bytes of t, whose first ones are lost
abbrev pub push_back : List ℕ → List ℕ → List ℕ
push_back s t = drop (length s) t ++ s

-- without the first n bytes, and with n zeros at the end
abbrev pub pop_front : ℕ → List ℕ → List ℕ
pop_front n t = drop n t ++ zeros n
