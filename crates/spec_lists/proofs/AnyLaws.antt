-- The library's search of a list is that of the definitions.
use Rattle.std.specs.Prelude.{◌≡◌, refl, Bool, ◌||◌, List, [], ◌∷◌}
use Rattle.std.specs.List.{list_any}
use Rattle.std.proofs.Common.{ap}
use Rattle.spec_lists.specs.Lists.{any}

pub any_listed : {A : Type 0} (test : A → Bool) (l : List A) → list_any test l ≡ any test l
any_listed test [] = refl
any_listed test (x ∷ xs) = ap (λ b. test x || b) (any_listed test xs)
