-- A part of a list that is lent and comes back: what the whole is then.
use mathlib.Core.Path.{◌≡◌, ◌∙◌}
use mathlib.Core.List.{List, ◌++◌}
use Prim.Native.Nat.{ℕ}
use lib.ListN.{length}
use lib.Seq.{take_at, drop_at}
use borrow.Rule.Slice.PartMut.{mid_of, put_mid}

module _ (xs a s z : List ℕ) (from k : ℕ) (split : xs ≡ a ++ (s ++ z)) (front : length a ≡ from) (size : length s ≡ k) where
  pub part_is : mid_of from k xs ≡ s
  part_is = rw (split, drop_at, take_at)

  put_back : (ys : List ℕ) → put_mid from k xs ys ≡ a ++ (ys ++ z)
  put_back ys = rw (split, take_at, drop_at, drop_at)

  -- the part s is lent, and comes back as what f makes of it
  pub lent : (f : List ℕ → List ℕ) (ys : List ℕ) → ys ≡ f (mid_of from k xs) → put_mid from k xs ys ≡ a ++ (f s ++ z)
  lent f ys e = put_back ys ∙ rw (e, part_is)
