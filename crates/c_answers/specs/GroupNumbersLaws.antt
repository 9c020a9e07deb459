-- Batches read from numbers one after the other are those that a call names.
use Prim.Native.Nat.{ℕ, zero, suc, ◌+◌, ◌≤◌, ◌<◌, min}
use Rattle.std.specs.Prelude.{◌≡◌, Bool, true, ◌&&◌, leb, length, get_or, set}
use Rattle.std.proofs.Math.Path.{refl, ap, ap₂}
use Rattle.std.proofs.Common.{sym, ◌∙◌, take-suc-set}
use mathlib.Core.List.{List, [], ◌∷◌, ◌++◌, map, map-append}
use Rattle.std.proofs.Math.Nat.{min-eq_left, min-eq_right}
use Rattle.std.proofs.Math.Numerals.{add-one}
use native.Mathlib.Omega.{arith}
use borrow.Author.Tests.{leb-true, leb-false}
use Rattle.std.proofs.Math.ListN.{take, length-set, length-append}
use Rattle.std.proofs.Math.Seq.{take_all, take-append-le}
use Rattle.spec_lists.proofs.ListLaws.{test_cases}
use Rattle.spec_group.specs.Group as model
use Rattle.spec_group.specs.Group.{group_batches}
use Rattle.session_group.specs.declared.GroupBatch.{GroupBatch}
use Rattle.session_group.specs.Groups.{batch_means, Names}
use Rattle.c_answers.specs.Asked.{is_edition}
use Rattle.c_answers.specs.GroupNumbers.{batch_of_numbers, numbers_at, first_batches, editions_known}

-- the first places are read
pub record BatchesUpTo (numbers : List ℕ) (known : Bool) (batches : List GroupBatch) (i : ℕ) : Type 0 where
  pub size : length batches ≡ group_batches
  pub editions : known ≡ editions_known numbers i
  pub same : map batch_means (take i batches) ≡ first_batches numbers i

module _ (numbers : List ℕ) where
  pub batches_start : (batches : List GroupBatch) → length batches ≡ group_batches → BatchesUpTo numbers true batches 0
  unfolding editions_known first_batches
  batches_start batches size = record { size = size; editions = refl; same = refl }

  pub batches_turn : {known : Bool} {batches : List GroupBatch} {i : ℕ} → BatchesUpTo numbers known batches i → i < group_batches → (b : GroupBatch) → batch_means b ≡ batch_of_numbers (numbers_at numbers i) → (now : Bool) → now ≡ (known && is_edition (get_or (numbers_at numbers i) 5 0))
      → BatchesUpTo numbers now (set batches i b) (i + 1)
  unfolding editions_known first_batches
  batches_turn {known = known} {batches = batches} {i = i} h more b told now is = record {
    size = length-set batches i b ∙ h.size;
    editions = is ∙ ap (λ (t : Bool). t && is_edition (get_or (numbers_at numbers i) 5 0)) h.editions ∙ ap (editions_known numbers) (sym (add-one i));
    same =
        ap (λ (k : ℕ). map batch_means (take k (set batches i b))) (add-one i)
        ∙ ap (map batch_means) (take-suc-set batches i b (omega (arith, h.size)))
        ∙ map-append batch_means (take i batches) (b ∷ [])
        ∙ ap₂ (λ (l : List model.GroupBatch) (x : model.GroupBatch). l ++ (x ∷ [])) h.same told
        ∙ ap (first_batches numbers) (sym (add-one i));
  }

  first_length : (n : ℕ) → length (first_batches numbers n) ≡ n
  unfolding first_batches
  first_length zero = refl
  first_length (suc n) = length-append (first_batches numbers n) _ ∙ ap (λ (k : ℕ). k + 1) (first_length n) ∙ add-one n

  -- the first of so many
  first_take : (k n : ℕ) → k ≤ n → take k (first_batches numbers n) ≡ first_batches numbers k
  unfolding first_batches
  first_take k zero few = let none : k ≡ 0 = omega arith in ap (λ (i : ℕ). take i (first_batches numbers 0)) none ∙ ap (first_batches numbers) (sym none)
  first_take k (suc n) few =
      test_cases (leb k n)
      (λ e. take-append-le k (first_batches numbers n) _ (omega (arith, leb-true k n e, first_length n)) ∙ first_take k n (leb-true k n e))
      (λ e.
      let all : k ≡ suc n = omega (arith, few, leb-false k n e) in
      take_all k (first_batches numbers (suc n)) (omega (arith, all, first_length (suc n))) ∙ ap (first_batches numbers) (sym all))

  pub batches_named : (count : ℕ) {known : Bool} {batches : List GroupBatch} {i : ℕ} → BatchesUpTo numbers known batches i → i ≡ min count group_batches → Names count batches (first_batches numbers count)
  batches_named count {batches = batches} {i = i} h is =
      test_cases (leb count group_batches)
      (λ e.
      let few = leb-true count group_batches e in
      let here : i ≡ count = is ∙ min-eq_left few in
      record {
        many = first_length count;
        firsts = take_all group_batches (first_batches numbers count) (omega (arith, few, first_length count)) ∙ ap (first_batches numbers) (sym here) ∙ sym h.same ∙ ap (λ (k : ℕ). map batch_means (take k batches)) here;
      })
      (λ e.
      let over : group_batches ≤ count = omega (arith, leb-false count group_batches e) in
      let here : i ≡ group_batches = is ∙ min-eq_right over in
      record {
        many = first_length count;
        firsts = first_take group_batches count over
            ∙ ap (first_batches numbers) (sym here)
            ∙ sym h.same
            ∙ ap (map batch_means) (take_all i batches (omega (arith, here, h.size)) ∙ sym (take_all count batches (omega (arith, over, h.size))));
      })
