-- What the test of a prefix says of the bytes.
use Rattle.std.specs.Prelude.{ℕ, ◌<◌, ◌≡◌, refl, Bool, true, false, ◌&&◌, List, [], ◌∷◌, ◌++◌, eqb, length, drop}
use Rattle.std.proofs.Common.{arith, eqb-true, eq-eqb}
use Rattle.std.proofs.Common.{ap, ◌∙◌, sym, Bor}
use Rattle.std.proofs.Math.ListN.{length-drop, drop_of_length-le}
use Rattle.std.proofs.lemmas.List.{take_all}
use Rattle.std.specs.Prelude.{◌-◌, take}
use Rattle.std.specs.Cmp.Lexicographic.{pointwise}
use Rattle.std.specs.Prelude as code
use Rattle.std.specs.Option.{unwrap_or}
use Rattle.std.specs.Slice.{IsGetRangeResult}
use Rattle.std.specs.List as library
use Rattle.spec_lists.specs.Lists.{equal_lists}
use Rattle.spec_lists.proofs.ListLaws.{and_left, and_right}
use Rattle.bytes_wire.specs.Prefix.{starts_with}

pub starts_cons : (x : ℕ) (p : List ℕ) (y : ℕ) (bs : List ℕ) → starts_with (x ∷ p) (y ∷ bs) ≡ (eqb x y && starts_with p bs)
unfolding starts_with
starts_cons x p y bs = refl

pub starts_empty : (bs : List ℕ) → starts_with [] bs ≡ true
unfolding starts_with
starts_empty bs = refl

-- too few bytes
pub starts_short : (p bs : List ℕ) → length bs < length p → starts_with p bs ≡ false
unfolding starts_with
starts_short [] bs h = absurd (omega arith)
starts_short (x ∷ p) [] h = refl
starts_short (x ∷ p) (y ∷ bs) h = go (eqb x y) (starts_short p bs (omega arith))
  where
    go : (t : Bool) → starts_with p bs ≡ false → (t && starts_with p bs) ≡ false
    go true e = e
    go false e = refl

pub starts_append : (p rest : List ℕ) → starts_with p (p ++ rest) ≡ true
unfolding starts_with
starts_append [] rest = refl
starts_append (x ∷ p) rest = rw (eq-eqb x x refl) (starts_append p rest)

pub starts_true : (p bs : List ℕ) → starts_with p bs ≡ true → bs ≡ p ++ drop (length p) bs
unfolding starts_with
starts_true [] bs e = refl
starts_true (x ∷ p) [] e = cc
starts_true (x ∷ p) (y ∷ bs) e =
    let heads : x ≡ y = eqb-true x y (and_left (eqb x y) _ e) in
    let tails : bs ≡ p ++ drop (length p) bs = starts_true p bs (and_right (eqb x y) _ e) in
    cc

-- the library's test of a prefix, of what it hands out from an index on
equal_pointwise : (a b : List ℕ) → pointwise eqb a b ≡ equal_lists eqb a b
equal_pointwise [] [] = refl
equal_pointwise [] (y ∷ b) = refl
equal_pointwise (x ∷ a) [] = refl
equal_pointwise (x ∷ a) (y ∷ b) = ap (λ (t : Bool). eqb x y && t) (equal_pointwise a b)

pub starts_from : (p l : List ℕ) (at : ℕ) (empty : Bor (List ℕ)) → empty.now ≡ [] → (r : code.Option (Bor (List ℕ)))
    → IsGetRangeResult l at (length l) r → library.starts_with eqb (unwrap_or r empty).now p ≡ starts_with p (drop at l)
unfolding starts_with
starts_from p l at empty none (code.Some x) h =
    let here : x.now ≡ drop at l = h.0.2 ∙ take_all (length l - at) (drop at l) (omega (arith, length-drop at l)) in
    equal_pointwise p (take (length p) x.now) ∙ ap (λ (s : List ℕ). equal_lists eqb p (take (length p) s)) here
starts_from p l at empty none code.None h =
    let here : drop at l ≡ [] = drop_of_length-le l (omega (arith, h.0)) in
    equal_pointwise p (take (length p) empty.now) ∙ ap (λ (s : List ℕ). equal_lists eqb p (take (length p) s)) (none ∙ sym here)
