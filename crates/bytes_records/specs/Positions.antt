-- Positions in a list: what it is to insert, remove and replace there, and to look for the first element that passes a test.
use Rattle.std.specs.Prelude.{ℕ, zero, suc, ◌+◌, Bool, List, [], ◌∷◌, ◌++◌, take, drop, if◌then◌else◌}

-- a before the element at i, or last where i is the length
abbrev pub insert_at : {A : Type 0} → ℕ → A → List A → List A
insert_at i a l = take i l ++ a ∷ drop i l

-- without the element at i
abbrev pub remove_at : {A : Type 0} → ℕ → List A → List A
remove_at i l = take i l ++ drop (i + 1) l

-- a in the place of the element at i
abbrev pub replace_at : {A : Type 0} → ℕ → A → List A → List A
replace_at i a l = take i l ++ a ∷ drop (i + 1) l

-- without the element at from, and with a to stand at to
abbrev pub move_at : {A : Type 0} → ℕ → ℕ → A → List A → List A
move_at from to a l = insert_at to a (remove_at from l)

-- the position of the first element that passes the test, or the length where none does
unfoldable pub first_index : {A : Type 0} → (A → Bool) → List A → ℕ
first_index test [] = zero
first_index test (x ∷ xs) = if test x then zero else suc (first_index test xs)
