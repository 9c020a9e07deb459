-- Tests that compute, and lists of them: the few words that the definitions of every other crate use.
use Rattle.std.specs.Prelude.{Bool, true, false, ◌&&◌, ◌||◌, List, [], ◌∷◌, leb, ℕ}
use Rattle.std.proofs.Math.Option.{Option, none, some}

-- low ≤ n ≤ high
abbrev pub between : ℕ → ℕ → ℕ → Bool
between low high n = leb low n && leb n high

-- every element passes the test
abbrev pub all : {A : Type 0} → (A → Bool) → List A → Bool
all test [] = true
all test (x ∷ xs) = test x && all test xs

-- some element passes the test
abbrev pub any : {A : Type 0} → (A → Bool) → List A → Bool
any test [] = false
any test (x ∷ xs) = test x || any test xs

-- two lists are equal, by a test of their elements
abbrev pub equal_lists : {A : Type 0} → (A → A → Bool) → List A → List A → Bool
equal_lists test [] [] = true
equal_lists test [] (y ∷ ys) = false
equal_lists test (x ∷ xs) [] = false
equal_lists test (x ∷ xs) (y ∷ ys) = test x y && equal_lists test xs ys

-- a list has no element
abbrev pub is_empty : {A : Type 0} → List A → Bool
is_empty [] = true
is_empty (x ∷ xs) = false

-- every element has the property
abbrev pub All : {A : Type 0} → (A → Type 0) → List A → Type 0
All P [] = Unit {0}
All P (x ∷ xs) = P x × All P xs

-- a number, and 0 for none
abbrev pub or_zero : Option ℕ → ℕ
or_zero none = 0
or_zero (some n) = n
