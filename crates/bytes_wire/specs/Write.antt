-- What writing leaves: bytes in place of as many others, or, where they do not fit, the list as it was.
use Rattle.std.specs.Prelude.{ℕ, ◌+◌, Bool, List, ◌++◌, leb, length, take, drop, if◌then◌else◌}

-- a list has n elements from index at on
unfoldable pub has_room : List ℕ → ℕ → ℕ → Bool
has_room l at n = leb (at + n) (length l)

-- the list with the bytes from index at on, if they fit there
unfoldable pub overwrite : List ℕ → ℕ → List ℕ → List ℕ
overwrite l at bs = if has_room l at (length bs) then take at l ++ bs ++ drop (at + length bs) l else l
