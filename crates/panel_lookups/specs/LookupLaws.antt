-- A place in a table that ascends by a key is the lookup's, and where a row holds its value.
use Prim.Native.Nat.{ℕ, zero, suc}
use Rattle.std.proofs.Math.Path.{◌≡◌, refl, subst}
use Rattle.std.proofs.Common.{◌∙◌, arith}
use Rattle.std.specs.Prelude.{◌≢◌, Bool, get_or, if◌then◌else◌}
use Rattle.std.proofs.Math.Bool.{true, false}
use mathlib.Core.List.{List, [], ◌∷◌, map}
use Rattle.std.proofs.Math.Option.{none, some}
use Rattle.spec_lists.specs.Lists.{All}
use Rattle.spec_lists.proofs.ListLaws.{all_map}
use Rattle.spec_lists.specs.Order.{lex_less, lookup, Ascending}
use Rattle.spec_lists.proofs.OrderLaws.{lex_less_trans, lex_less_total, lex_less_irreflexive}
use Rattle.spec_lists.proofs.LookupLaws.{lookup_here, lookup_past, lookup_below}
use Rattle.bytes_records.specs.Search.{next_place, place_of}
use Rattle.std.specs.Prelude.{Result, Ok, Err}

-- ---- places

-- the element that a place names, and its image
pub record FoundBy {A : Type 0} (key : A → List ℕ) {B : Type 0} (f : A → B) (P : A → Type 0) (k : List ℕ) (l : List A) (i : ℕ) : Type 0 where
  pub element : A
  pub has : P element
  pub found : lookup key k l ≡ some element
  pub image : (d : B) → get_or (map f l) i d ≡ f element

module _ {A : Type 0} (key : A → List ℕ) {B : Type 0} (f : A → B) (P : A → Type 0) (k : List ℕ) where
  -- a key that is less is another
  other : (x : A) → lex_less (key x) k ≡ true → key x ≢ k
  other x h e = lex_less_irreflexive k (subst (λ y. lex_less y k ≡ true) e h)

  pub place_taken : (l : List A) → All P l → (i : ℕ) → place_of key k l ≡ Ok i → FoundBy key f P k l i
  unfolding place_of next_place
  place_taken [] ps i e = absurd (let z : ◌≡◌ {A = ℕ} 0 1 = cc in omega arith)
  place_taken (x ∷ l) ps i e = go (lex_less k (key x)) refl (lex_less (key x) k) refl (place_of key k l) refl e (place_taken l ps.1)
    where
      go : (s : Bool) → lex_less k (key x) ≡ s → (t : Bool) → lex_less (key x) k ≡ t → (p : Result ℕ ℕ) → place_of key k l ≡ p
          → (if s then Err zero else if t then next_place p else Ok zero) ≡ Ok i → ((j : ℕ) → place_of key k l ≡ Ok j → FoundBy key f P k l j) → FoundBy key f P k (x ∷ l) i
      go true s t u p is e ih = absurd (let z : ◌≡◌ {A = ℕ} 0 1 = cc in omega arith)
      go false s true u (Ok j) is e ih =
          let r = ih j is in
          let same : suc j ≡ i = cc in
          subst (FoundBy key f P k (x ∷ l)) same (record { element = r.element; has = r.has; found = lookup_past key k x l (other x u) ∙ r.found; image = r.image })
      go false s true u (Err j) is e ih = absurd (let z : ◌≡◌ {A = ℕ} 0 1 = cc in omega arith)
      go false s false u p is e ih =
          let same : zero ≡ i = cc in
          let own : key x ≡ k = lex_less_total (key x) k u s in
          subst (FoundBy key f P k (x ∷ l)) same (record { element = x; has = ps.0; found = subst (λ y. lookup key y (x ∷ l) ≡ some x) own (lookup_here key x l); image = λ d. refl })

  pub place_before : (l : List A) → Ascending key l → (i : ℕ) → place_of key k l ≡ Err i → lookup key k l ≡ none
  unfolding place_of next_place lookup
  place_before [] up i e = refl
  place_before (x ∷ l) up i e = go (lex_less k (key x)) refl (lex_less (key x) k) refl (place_of key k l) refl e (place_before l up.1)
    where
      go : (s : Bool) → lex_less k (key x) ≡ s → (t : Bool) → lex_less (key x) k ≡ t → (p : Result ℕ ℕ) → place_of key k l ≡ p
          → (if s then Err zero else if t then next_place p else Ok zero) ≡ Err i → ((j : ℕ) → place_of key k l ≡ Err j → lookup key k l ≡ none) → lookup key k (x ∷ l) ≡ none
      go true s t u p is e ih =
          lookup_below key k (x ∷ l) (s, all_map (λ y. lex_less (key x) (key y) ≡ true) (λ y. lex_less k (key y) ≡ true) (λ y h. lex_less_trans k (key x) (key y) s h) l up.0)
      go false s true u (Ok j) is e ih = absurd (let z : ◌≡◌ {A = ℕ} 0 1 = cc in omega arith)
      go false s true u (Err j) is e ih = lookup_past key k x l (other x u) ∙ ih j is
      go false s false u p is e ih = absurd (let z : ◌≡◌ {A = ℕ} 0 1 = cc in omega arith)
