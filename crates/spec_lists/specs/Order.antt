-- Lists in ascending order of a key, which is a short list of numbers: bindings by (node, slot), findings by (kind, domain, secondary).
use Rattle.std.specs.Prelude.{ℕ, ◌≡◌, Bool, true, false, ◌&&◌, ◌||◌, List, [], ◌∷◌, ltb, eqb, if◌then◌else◌}
use Rattle.std.proofs.Math.Option.{Option, none, some}
use Rattle.spec_lists.specs.Lists.{equal_lists, All}

-- the lexicographic order: the first difference decides
unfoldable pub lex_less : List ℕ → List ℕ → Bool
lex_less [] [] = false
lex_less [] (y ∷ ys) = true
lex_less (x ∷ xs) [] = false
lex_less (x ∷ xs) (y ∷ ys) = ltb x y || (eqb x y && lex_less xs ys)

-- inserted in its place; an element of the same key is replaced
unfoldable pub upsert : {A : Type 0} → (A → List ℕ) → A → List A → List A
upsert key a [] = a ∷ []
upsert key a (x ∷ xs) =
    if lex_less (key a) (key x) then a ∷ x ∷ xs else
    if lex_less (key x) (key a) then x ∷ upsert key a xs else
    a ∷ xs

-- sorted, with one element of each key
unfoldable pub sort_unique : {A : Type 0} → (A → List ℕ) → List A → List A
sort_unique key [] = []
sort_unique key (x ∷ xs) = upsert key x (sort_unique key xs)

-- the element of a key, or none
unfoldable pub lookup : {A : Type 0} → (A → List ℕ) → List ℕ → List A → Option A
lookup key k [] = none
lookup key k (x ∷ xs) = if equal_lists eqb (key x) k then some x else lookup key k xs

-- each element's key is below those of all later ones
abbrev pub Ascending : {A : Type 0} → (A → List ℕ) → List A → Type 0
Ascending key [] = Unit {0}
Ascending key (x ∷ xs) = All (λ y. lex_less (key x) (key y) ≡ true) xs × Ascending key xs
