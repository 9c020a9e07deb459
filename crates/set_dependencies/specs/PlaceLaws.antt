-- The place of a key tells what is looked up of it.
use Rattle.std.specs.Prelude.{ℕ, ◌≤◌, ◌<◌, ◌≡◌, refl, true, length, get_or}
use Rattle.std.proofs.Math.Path.{ap}
use Rattle.std.proofs.Common.{◌∙◌}
use mathlib.Core.List.{List, [], ◌∷◌}
use Rattle.std.proofs.Math.Option.{none, some}
use native.Mathlib.Omega.{arith}
use Rattle.spec_lists.proofs.ListLaws.{test_cases, all_map}
use Rattle.spec_lists.specs.Order.{lex_less, lookup, Ascending}
use Rattle.spec_lists.proofs.OrderLaws.{lex_less_total, lex_less_irreflexive, lex_less_trans}
use Rattle.spec_lists.proofs.LookupLaws.{lookup_here, lookup_past, lookup_below}
use Rattle.bytes_records.specs.Search.{next_place, place_of}
use Rattle.std.specs.Prelude.{Result, Ok, Err}

module _ {A : Type 0} (key : A → List ℕ) (k : List ℕ) (d : A) where
  -- what a place says of a lookup
  abbrev pub PlaceTells : Result ℕ ℕ → List A → Type 0
  PlaceTells (Ok i) l = (i < length l) × (lookup key k l ≡ some (get_or l i d))
  PlaceTells (Err i) l = (i ≤ length l) × (lookup key k l ≡ none)

  past : (x : A) (l : List A) → lex_less (key x) k ≡ true → (p : Result ℕ ℕ) → PlaceTells p l → PlaceTells (next_place p) (x ∷ l)
  unfolding next_place
  past x l h (Ok i) t = (omega (arith, t.0), lookup_past key k x l (λ e. lex_less_irreflexive k (rw e at h)) ∙ t.1)
  past x l h (Err i) t = (omega (arith, t.0), lookup_past key k x l (λ e. lex_less_irreflexive k (rw e at h)) ∙ t.1)

  pub place_tells : (l : List A) → Ascending key l → PlaceTells (place_of key k l) l
  unfolding place_of lookup
  place_tells [] h = (omega arith, refl)
  place_tells (x ∷ l) h = test_cases (lex_less k (key x))
      (λ s. rw s (omega arith, lookup_below key k (x ∷ l) (s, all_map (λ y. lex_less (key x) (key y) ≡ true) (λ y. lex_less k (key y) ≡ true) (λ y. lex_less_trans k (key x) (key y) s) l h.0)))
      (λ s. test_cases (lex_less (key x) k) (λ t. rw (s, t) (past x l t (place_of key k l) (place_tells l h.1)))
      (λ t. rw (s, t) (omega arith, ap (λ j. lookup key j (x ∷ l)) (lex_less_total k (key x) s t) ∙ lookup_here key x l)))
