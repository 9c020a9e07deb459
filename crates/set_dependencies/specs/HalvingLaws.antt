-- A search by halving in an ascending list: what is left between two positions shrinks to the place of the key.
use Prim.Native.Nat.{ℕ, zero, suc, ◌+◌, ◌≤◌, ◌<◌}
use Rattle.std.specs.Prelude.{◌≡◌, true, false, eqb, length, get_or}
use Rattle.std.proofs.Math.Path.{refl}
use mathlib.Core.List.{List, [], ◌∷◌}
use Rattle.std.proofs.Common.{arith, eqb-true}
use Rattle.std.proofs.lemmas.Bool.{eqb-false}
use Rattle.spec_lists.proofs.ListLaws.{test_cases, all_member, get_or_member}
use Rattle.spec_lists.specs.Order.{lex_less, Ascending}
use Rattle.spec_lists.proofs.OrderLaws.{lex_less_total, lex_less_trans, lex_less_irreflexive, lex_less_self}
use Rattle.bytes_records.specs.Keys.{order_of}
use Rattle.bytes_records.specs.Search.{next_place, place_of}
use Rattle.std.specs.Prelude.{Ok, Err}
use Rattle.std.specs.declared.cmp.Ordering.TheVariants.{Less, Equal, Greater}

-- ---- how one key stands to another

pub lex_less_not : (a b : List ℕ) → lex_less a b ≡ true → lex_less b a ≡ false
lex_less_not a b h = test_cases (lex_less b a) (λ k. absurd (lex_less_irreflexive a (lex_less_trans a b a h k))) (λ k. k)

module _ (a b : List ℕ) where
  told : {P : Type 0} → (lex_less b a ≡ true → order_of a b ≡ Greater → P) → (lex_less a b ≡ true → order_of a b ≡ Less → P) → (a ≡ b → order_of a b ≡ Equal → P) → P
  unfolding order_of
  told above below same = test_cases (lex_less b a) (λ s. above s (rw s)) (λ s. test_cases (lex_less a b) (λ t. below t (rw (s, t))) (λ t. same (lex_less_total a b t s) (rw (s, t))))

  pub told_below : order_of a b ≡ Less → lex_less a b ≡ true
  told_below e = told (λ s f. let z : ◌≡◌ {A = ℕ} 0 1 = cc in absurd (omega arith)) (λ s f. s) (λ s f. let z : ◌≡◌ {A = ℕ} 0 1 = cc in absurd (omega arith))

  pub told_same : order_of a b ≡ Equal → a ≡ b
  told_same e = told (λ s f. let z : ◌≡◌ {A = ℕ} 0 1 = cc in absurd (omega arith)) (λ s f. let z : ◌≡◌ {A = ℕ} 0 1 = cc in absurd (omega arith)) (λ s f. s)

  pub told_above : order_of a b ≡ Greater → lex_less b a ≡ true
  told_above e = told (λ s f. s) (λ s f. let z : ◌≡◌ {A = ℕ} 0 1 = cc in absurd (omega arith)) (λ s f. let z : ◌≡◌ {A = ℕ} 0 1 = cc in absurd (omega arith))

-- ---- positions

module _ {A : Type 0} (key : A → List ℕ) (d : A) where
  ascending_at : (l : List A) → Ascending key l → (i j : ℕ) → i < j → j < length l → lex_less (key (get_or l i d)) (key (get_or l j d)) ≡ true
  ascending_at [] h i j order below = absurd (omega arith)
  ascending_at (x ∷ l) h i zero order below = absurd (omega arith)
  ascending_at (x ∷ l) h zero (suc j) order below = all_member (λ y. lex_less (key x) (key y) ≡ true) l h.0 (get_or_member l j d (omega arith))
  ascending_at (x ∷ l) h (suc i) (suc j) order below = ascending_at l h.1 i j (omega arith) (omega arith)

  module _ (k : List ℕ) where
    -- the elements before position low are below the key, and those from position high on above it
    pub record Between (low high : ℕ) (l : List A) : Type 0 where
      pub below : (i : ℕ) → i < low → lex_less (key (get_or l i d)) k ≡ true
      pub above : (i : ℕ) → high ≤ i → i < length l → lex_less k (key (get_or l i d)) ≡ true

    pub between_all : (l : List A) (n : ℕ) → length l ≡ n → Between 0 n l
    between_all l n e = record { below = λ i h. absurd (omega arith); above = λ i h b. absurd (omega arith) }

    pub between_none : (n : ℕ) (l : List A) → n ≤ length l → Between n n l → place_of key k l ≡ Err n
    unfolding place_of next_place
    between_none zero [] h s = refl
    between_none (suc n) [] h s = absurd (omega arith)
    between_none zero (x ∷ l) h s = rw (s.above 0 (omega arith) (omega arith))
    between_none (suc n) (x ∷ l) h s =
        let first = s.below 0 (omega arith) in
        let rest : Between n n l = record { below = λ i b. s.below (suc i) (omega arith); above = λ i b c. s.above (suc i) (omega arith) (omega arith) } in
        rw (lex_less_not (key x) k first, first, between_none n l (omega arith) rest)

    taken : (n : ℕ) (l : List A) → n < length l → ((i : ℕ) → i < n → lex_less (key (get_or l i d)) k ≡ true) → key (get_or l n d) ≡ k → place_of key k l ≡ Ok n
    unfolding place_of next_place
    taken n [] h below e = absurd (omega arith)
    taken zero (x ∷ l) h below e = rw (e, lex_less_self k)
    taken (suc n) (x ∷ l) h below e =
        let first = below 0 (omega arith) in
        rw (lex_less_not (key x) k first, first, taken n l (omega arith) (λ i b. below (suc i) (omega arith)) e)

    module _ (l : List A) (ascending : Ascending key l) (low high middle : ℕ) (s : Between low high l) (within : middle < length l) where
      -- the element in the middle is below the key, above it, or of it
      pub between_above : order_of (key (get_or l middle d)) k ≡ Less → Between (middle + 1) high l
      between_above e = record { below = go; above = s.above }
        where
          go : (i : ℕ) → i < middle + 1 → lex_less (key (get_or l i d)) k ≡ true
          go i h = test_cases (eqb i middle)
              (λ f. rw (eqb-true i middle f) (told_below _ k e))
              (λ f. lex_less_trans (key (get_or l i d)) (key (get_or l middle d)) k (ascending_at l ascending i middle (omega (arith, eqb-false i middle f)) within) (told_below _ k e))

      pub between_below : order_of (key (get_or l middle d)) k ≡ Greater → Between low middle l
      between_below e = record { below = s.below; above = go }
        where
          go : (i : ℕ) → middle ≤ i → i < length l → lex_less k (key (get_or l i d)) ≡ true
          go i h b = test_cases (eqb i middle)
              (λ f. rw (eqb-true i middle f) (told_above _ k e))
              (λ f. lex_less_trans k (key (get_or l middle d)) (key (get_or l i d)) (told_above _ k e) (ascending_at l ascending middle i (omega (arith, eqb-false i middle f)) b))

      pub between_taken : order_of (key (get_or l middle d)) k ≡ Equal → place_of key k l ≡ Ok middle
      between_taken e =
          let same = told_same (key (get_or l middle d)) k e in
          taken middle l within (λ i h. rw same at (ascending_at l ascending i middle h within)) same
