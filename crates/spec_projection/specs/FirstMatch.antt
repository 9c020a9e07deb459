-- The first element of a list that passes a test: found, replaced, taken out, or another one inserted before it.
use Rattle.std.specs.Prelude.{Bool, List, [], ◌∷◌, if◌then◌else◌}
use Rattle.std.proofs.Math.Option.{Option, none, some}

-- the first element that passes, or none
unfoldable pub find_first : {A : Type 0} → (A → Bool) → List A → Option A
find_first test [] = none
find_first test (x ∷ xs) = if test x then some x else find_first test xs

-- an element inserted before the first that passes, or last where none does
unfoldable pub insert_before_first : {A : Type 0} → (A → Bool) → A → List A → List A
insert_before_first test a [] = a ∷ []
insert_before_first test a (x ∷ xs) = if test x then a ∷ x ∷ xs else x ∷ insert_before_first test a xs

-- an element in place of the first that passes
unfoldable pub replace_first : {A : Type 0} → (A → Bool) → A → List A → List A
replace_first test a [] = []
replace_first test a (x ∷ xs) = if test x then a ∷ xs else x ∷ replace_first test a xs

-- without the first that passes
unfoldable pub remove_first : {A : Type 0} → (A → Bool) → List A → List A
remove_first test [] = []
remove_first test (x ∷ xs) = if test x then xs else x ∷ remove_first test xs
