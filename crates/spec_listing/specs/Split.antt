-- Bytes parted by a separator: lines, and the fields of a line.
use Rattle.std.specs.Prelude.{ℕ, Bool, not, List, [], ◌∷◌, eqb, if◌then◌else◌}
use Rattle.std.proofs.Math.Option.{Option, none, some, map}
use Rattle.spec_lists.specs.Lists.{all}

-- a byte before the first part
unfoldable pub prepend : ℕ → List (List ℕ) → List (List ℕ)
prepend b [] = (b ∷ []) ∷ []
prepend b (part ∷ parts) = (b ∷ part) ∷ parts

-- the parts between the separators; two separators in a row have an empty part between them
unfoldable pub split : ℕ → List ℕ → List (List ℕ)
split separator [] = [] ∷ []
split separator (b ∷ bs) = if eqb b separator then [] ∷ split separator bs else prepend b (split separator bs)

-- no byte is a separator
abbrev pub lacks : ℕ → List ℕ → Bool
lacks separator = all (λ (b : ℕ). not (eqb b separator))

-- what was read of one part before what was read of the others, if all of them were
unfoldable pub cons : {A : Type 0} → Option A → Option (List A) → Option (List A)
cons none others = none
cons (some a) others = map (λ l. a ∷ l) others
