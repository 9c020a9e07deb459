-- The order of keys is strict and total, and an ascending list stays ascending when an element is inserted.
use Prim.Native.Nat.{ℕ, suc, ◌≤◌, ◌<◌}
use Rattle.std.specs.Prelude.{◌≡◌, Bool, true, false, ◌&&◌, ◌||◌, ◌⊎◌, ltb, eqb}
use Rattle.std.proofs.Math.Path.{refl, sym}
use Rattle.std.proofs.Common.{◌∙◌, ltb-true, ltb-false, lt-ltb, le-ltb, eqb-true, eq-eqb}
use Rattle.std.proofs.lemmas.Bool.{false≢true, eqb-false}
use mathlib.Core.HLevel.{⊥_prop}
use mathlib.Core.List.Pairwise
use mathlib.Core.List.{List, [], ◌∷◌, ◌++◌, Nodup}
use mathlib.Core.List.Memᴰ
use mathlib.Core.List.{Memᴰ}
use Rattle.std.proofs.Math.Logic.{inl, inr, ⊎_elim, ∥∥₁_elim}
use native.Mathlib.Omega.{arith}
use Rattle.std.proofs.Math.ListN.{length}
use Rattle.spec_lists.specs.Lists.{All}
use Rattle.spec_lists.proofs.ListLaws.{if_cases, all_member}
use Rattle.spec_lists.specs.Order.{lex_less, upsert, sort_unique, Ascending}

-- what `lex_less` says of two keys with a first number each
pub lex_less_cases : (x y : ℕ) (xs ys : List ℕ) → lex_less (x ∷ xs) (y ∷ ys) ≡ true → (x < y) ⊎ ((x ≡ y) × (lex_less xs ys ≡ true))
unfolding lex_less
lex_less_cases x y xs ys h = go (ltb x y) refl (eqb x y) refl h
  where
    go : (s : Bool) → ltb x y ≡ s → (t : Bool) → eqb x y ≡ t → (s || (t && lex_less xs ys)) ≡ true → (x < y) ⊎ ((x ≡ y) × (lex_less xs ys ≡ true))
    go true e t f h = inl (ltb-true x y e)
    go false e true f h = inr (eqb-true x y f, h)
    go false e false f h = let z : ◌≡◌ {A = ℕ} 0 1 = cc in absurd (omega arith)

pub lex_less_less : (x y : ℕ) (xs ys : List ℕ) → x < y → lex_less (x ∷ xs) (y ∷ ys) ≡ true
unfolding lex_less
lex_less_less x y xs ys h = rw (lt-ltb x y h)

pub lex_less_same : (x y : ℕ) (xs ys : List ℕ) → x ≡ y → lex_less xs ys ≡ true → lex_less (x ∷ xs) (y ∷ ys) ≡ true
unfolding lex_less
lex_less_same x y xs ys e h = rw (eq-eqb x y e, h) (or_true (ltb x y))
  where
    or_true : (t : Bool) → (t || true) ≡ true
    or_true true = refl
    or_true false = refl

pub lex_less_trans : (a b c : List ℕ) → lex_less a b ≡ true → lex_less b c ≡ true → lex_less a c ≡ true
unfolding lex_less
lex_less_trans [] [] c p q = q
lex_less_trans [] (y ∷ b) [] p q = q
lex_less_trans [] (y ∷ b) (z ∷ c) p q = refl
lex_less_trans (x ∷ a) [] c p q = cc
lex_less_trans (x ∷ a) (y ∷ b) [] p q = q
lex_less_trans (x ∷ a) (y ∷ b) (z ∷ c) p q = go (lex_less_cases x y a b p) (lex_less_cases y z b c q) (lex_less_trans a b c)
  where
    go : (x < y) ⊎ ((x ≡ y) × (lex_less a b ≡ true)) → (y < z) ⊎ ((y ≡ z) × (lex_less b c ≡ true))
        → (lex_less a b ≡ true → lex_less b c ≡ true → lex_less a c ≡ true) → lex_less (x ∷ a) (z ∷ c) ≡ true
    go (inl h) (inl k) ih = lex_less_less x z a c (omega arith)
    go (inl h) (inr k) ih = lex_less_less x z a c (omega arith)
    go (inr h) (inl k) ih = lex_less_less x z a c (omega arith)
    go (inr h) (inr k) ih = lex_less_same x z a c (omega arith) (ih h.1 k.1)

-- two keys of which neither is below the other are equal
pub lex_less_total : (a b : List ℕ) → lex_less a b ≡ false → lex_less b a ≡ false → a ≡ b
unfolding lex_less
lex_less_total [] [] p q = refl
lex_less_total [] (y ∷ b) p q = cc
lex_less_total (x ∷ a) [] p q = cc
lex_less_total (x ∷ a) (y ∷ b) p q = go (ltb x y) refl (ltb y x) refl (eqb x y) refl p q (lex_less_total a b)
  where
    go : (s : Bool) → ltb x y ≡ s → (t : Bool) → ltb y x ≡ t → (u : Bool) → eqb x y ≡ u
        → (s || (u && lex_less a b)) ≡ false → (t || (eqb y x && lex_less b a)) ≡ false → (lex_less a b ≡ false → lex_less b a ≡ false → a ≡ b) → ◌≡◌ {A = List ℕ} (x ∷ a) (y ∷ b)
    go true e t f u g p q ih = cc
    go false e true f u g p q ih = cc
    go false e false f true g p q ih =
        let same : x ≡ y = eqb-true x y g in
        let tails : a ≡ b = ih p (rw (eq-eqb y x (sym same)) at q) in
        cc
    go false e false f false g p q ih = absurd (eqb-false x y g (omega (arith, ltb-false x y e, ltb-false y x f)))

-- ---- ascending lists

module _ {A : Type 0} (key : A → List ℕ) where
  -- where an element is inserted: before one of a larger key, behind one of a smaller key, or in place of one of the same key
  pub upsert_cases : (P : List A → Type 0) (a x : A) (l : List A) → (lex_less (key a) (key x) ≡ true → P (a ∷ x ∷ l)) → (lex_less (key x) (key a) ≡ true → P (x ∷ upsert key a l))
      → (key a ≡ key x → P (a ∷ l)) → P (upsert key a (x ∷ l))
  unfolding upsert
  upsert_cases P a x l before behind same = if_cases P _ _ _ before (λ e. if_cases P _ _ _ behind (λ f. same (lex_less_total (key a) (key x) e f)))

  -- a key below one element is below all that follow it
  pub above : (a x : A) (l : List A) → lex_less (key a) (key x) ≡ true → All (λ y. lex_less (key x) (key y) ≡ true) l → All (λ y. lex_less (key a) (key y) ≡ true) l
  above a x [] h k = tt
  above a x (y ∷ l) h k = (lex_less_trans (key a) (key x) (key y) h k.0, above a x l h k.1)

  pub alike : (a x : A) (l : List A) → key a ≡ key x → All (λ y. lex_less (key x) (key y) ≡ true) l → All (λ y. lex_less (key a) (key y) ≡ true) l
  alike a x [] h k = tt
  alike a x (y ∷ l) h k = (rw h k.0, alike a x l h k.1)

  -- what holds of a new element and of the old ones holds of all
  pub upsert_all : (P : A → Type 0) (a : A) (l : List A) → P a → All P l → All P (upsert key a l)
  unfolding upsert
  upsert_all P a [] p h = (p, tt)
  upsert_all P a (x ∷ l) p h = upsert_cases (All P) a x l (λ e. (p, h)) (λ e. (h.0, upsert_all P a l p h.1)) (λ e. (p, h.1))

  pub upsert_ascending : (a : A) (l : List A) → Ascending key l → Ascending key (upsert key a l)
  unfolding upsert
  upsert_ascending a [] h = (tt, tt)
  upsert_ascending a (x ∷ l) h =
      upsert_cases (Ascending key) a x l (λ e. ((e, above a x l e h.0), h)) (λ e. (upsert_all (λ y. lex_less (key x) (key y) ≡ true) a l e h.0, upsert_ascending a l h.1))
      (λ e. (alike a x l e h.0, h.1))

  pub sort_unique_ascending : (l : List A) → Ascending key (sort_unique key l)
  unfolding sort_unique
  sort_unique_ascending [] = tt
  sort_unique_ascending (a ∷ l) = upsert_ascending a (sort_unique key l) (sort_unique_ascending l)

-- ---- members

-- no key is below itself
pub lex_less_self : (a : List ℕ) → lex_less a a ≡ false
unfolding lex_less
lex_less_self [] = refl
lex_less_self (x ∷ a) = rw (le-ltb x x (omega arith), eq-eqb x x refl, lex_less_self a)

pub lex_less_irreflexive : (a : List ℕ) → lex_less a a ≡ true → ⊥
lex_less_irreflexive a e = false≢true (sym (lex_less_self a) ∙ e)

module _ {A : Type 0} (key : A → List ℕ) where
  pub upsert_member : (x a : A) (l : List A) → Memᴰ x (upsert key a l) → (x ≡ a) ⊎ Memᴰ x l
  unfolding upsert
  upsert_member x a [] = λ m. inl (Memᴰ.eq_of_singleton m)
  upsert_member x a (y ∷ l) =
      upsert_cases key (λ r. Memᴰ x r → (x ≡ a) ⊎ Memᴰ x (y ∷ l)) a y l (λ e m. Memᴰ.cases_cons m)
      (λ e m. ⊎_elim (λ (h : x ≡ y). inr (Memᴰ.head h)) (λ (d : Memᴰ x (upsert key a l)). behind (upsert_member x a l d)) (Memᴰ.cases_cons m))
      (λ e m. behind (Memᴰ.cases_cons m))
    where
      behind : (x ≡ a) ⊎ Memᴰ x l → (x ≡ a) ⊎ Memᴰ x (y ∷ l)
      behind (inl e) = inl e
      behind (inr d) = inr (Memᴰ.tail d)

  pub upsert_new : (a : A) (l : List A) → Memᴰ a (upsert key a l)
  unfolding upsert
  upsert_new a [] = Memᴰ.head refl
  upsert_new a (y ∷ l) = upsert_cases key (Memᴰ a) a y l (λ e. Memᴰ.head refl) (λ e. Memᴰ.tail (upsert_new a l)) (λ e. Memᴰ.head refl)

  -- what is sorted holds nothing new
  pub sort_unique_member : (x : A) (l : List A) → Memᴰ x (sort_unique key l) → Memᴰ x l
  unfolding sort_unique
  sort_unique_member x [] m = m
  sort_unique_member x (a ∷ l) m =
      ⊎_elim (λ (e : x ≡ a). Memᴰ.head e) (λ (d : Memᴰ x (sort_unique key l)). Memᴰ.tail (sort_unique_member x l d)) (upsert_member x a (sort_unique key l) m)

  upsert_length : (a : A) (l : List A) → length (upsert key a l) ≤ suc (length l)
  unfolding upsert
  upsert_length a [] = omega arith
  upsert_length a (y ∷ l) = upsert_cases key (λ r. length r ≤ suc (suc (length l))) a y l (λ e. omega arith) (λ e. omega (arith, upsert_length a l)) (λ e. omega arith)

  pub sort_unique_length : (l : List A) → length (sort_unique key l) ≤ length l
  unfolding sort_unique
  sort_unique_length [] = omega arith
  sort_unique_length (a ∷ l) = omega (arith, upsert_length a (sort_unique key l), sort_unique_length l)

  -- an ascending list has no repeats
  pub ascending_nodup : (l : List A) → Ascending key l → Nodup l
  ascending_nodup [] h = Pairwise.nil
  ascending_nodup (x ∷ l) h = Pairwise.cons (λ y m e. ∥∥₁_elim m ⊥_prop (λ d. apart y d e)) (ascending_nodup l h.1)
    where
      apart : (y : A) → Memᴰ y l → x ≡ y → ⊥
      apart y d e = lex_less_irreflexive (key y) (rw e at (all_member _ l h.0 d))

  heads : (x y : A) (a b : List A) → All (λ z. lex_less (key x) (key z) ≡ true) a → All (λ z. lex_less (key y) (key z) ≡ true) b → Memᴰ x (y ∷ b) → Memᴰ y (x ∷ a) → x ≡ y
  heads x y a b h k m n = go (Memᴰ.cases_cons m) (Memᴰ.cases_cons n)
    where
      go : (x ≡ y) ⊎ Memᴰ x b → (y ≡ x) ⊎ Memᴰ y a → x ≡ y
      go (inl e) o = e
      go (inr d) (inl e) = sym e
      go (inr d) (inr c) = absurd (lex_less_irreflexive (key x) (lex_less_trans (key x) (key y) (key x) (all_member _ a h c) (all_member _ b k d)))

  later : (x y : A) (a b : List A) → x ≡ y → All (λ z. lex_less (key x) (key z) ≡ true) a → (z : A) → Memᴰ z a → Memᴰ z (y ∷ b) → Memᴰ z b
  later x y a b e h z m n =
      ⊎_elim (λ (f : z ≡ y). absurd (lex_less_irreflexive (key x) (rw (f ∙ sym e) at (all_member _ a h m)))) (λ (d : Memᴰ z b). d) (Memᴰ.cases_cons n)

  -- its members determine an ascending list
  pub ascending_unique : (a b : List A) → Ascending key a → Ascending key b → ((x : A) → Memᴰ x a → Memᴰ x b) → ((x : A) → Memᴰ x b → Memᴰ x a) → a ≡ b
  ascending_unique [] [] h k f g = refl
  ascending_unique [] (y ∷ b) h k f g = absurd (Memᴰ.not-nil (g y (Memᴰ.head refl)))
  ascending_unique (x ∷ a) [] h k f g = absurd (Memᴰ.not-nil (f x (Memᴰ.head refl)))
  ascending_unique (x ∷ a) (y ∷ b) h k f g =
      let e : x ≡ y = heads x y a b h.0 k.0 (f x (Memᴰ.head refl)) (g y (Memᴰ.head refl)) in
      let into : (z : A) → Memᴰ z a → Memᴰ z b = λ z m. later x y a b e h.0 z m (f z (Memᴰ.tail m)) in
      let back : (z : A) → Memᴰ z b → Memᴰ z a = λ z m. later y x b a (sym e) k.0 z m (g z (Memᴰ.tail m)) in
      cc (ascending_unique a b h.1 k.1 into back)

-- a key that tells the elements apart
module _ {A : Type 0} (key : A → List ℕ) (injective : (a b : A) → key a ≡ key b → a ≡ b) where
  pub upsert_old : (x a : A) (l : List A) → Memᴰ x l → Memᴰ x (upsert key a l)
  unfolding upsert
  upsert_old x a [] m = absurd (Memᴰ.not-nil m)
  upsert_old x a (y ∷ l) m =
      upsert_cases key (Memᴰ x) a y l (λ e. Memᴰ.tail m)
      (λ e. ⊎_elim (λ (h : x ≡ y). Memᴰ.head h) (λ (d : Memᴰ x l). Memᴰ.tail (upsert_old x a l d)) (Memᴰ.cases_cons m))
      (λ e. ⊎_elim (λ (h : x ≡ y). Memᴰ.head (h ∙ sym (injective a y e))) (λ (d : Memᴰ x l). Memᴰ.tail d) (Memᴰ.cases_cons m))

  -- what is sorted has lost nothing
  pub member_sort_unique : (x : A) (l : List A) → Memᴰ x l → Memᴰ x (sort_unique key l)
  unfolding sort_unique
  member_sort_unique x [] m = m
  member_sort_unique x (a ∷ l) m =
      ⊎_elim (λ (e : x ≡ a). Memᴰ.cast e (upsert_new key a (sort_unique key l))) (λ (d : Memᴰ x l). upsert_old x a (sort_unique key l) (member_sort_unique x l d)) (Memᴰ.cases_cons m)

  -- sorting may go from either end
  pub sort_unique_snoc : (l : List A) (x : A) → sort_unique key (l ++ (x ∷ [])) ≡ upsert key x (sort_unique key l)
  sort_unique_snoc l x =
      ascending_unique key _ _ (sort_unique_ascending key (l ++ (x ∷ []))) (upsert_ascending key x (sort_unique key l) (sort_unique_ascending key l))
      (λ y m. ⊎_elim (λ (d : Memᴰ y l). upsert_old y x (sort_unique key l) (member_sort_unique y l d)) (λ (d : Memᴰ y (x ∷ [])). Memᴰ.cast (Memᴰ.eq_of_singleton d) (upsert_new key x (sort_unique key l)))
      (Memᴰ.append_cases l (sort_unique_member key y (l ++ (x ∷ [])) m)))
      (λ y m. member_sort_unique y (l ++ (x ∷ [])) (⊎_elim (λ (e : y ≡ x). Memᴰ.append_right l (Memᴰ.head e)) (λ (d : Memᴰ y (sort_unique key l)). Memᴰ.append_left (x ∷ []) (sort_unique_member key y l d))
      (upsert_member key y x (sort_unique key l) m)))
