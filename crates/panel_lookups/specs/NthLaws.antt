-- One entry after the other: how many of a collection are passed, and which is the n-th.
use Rattle.std.specs.Prelude.{ℕ, zero, suc, ◌+◌, ◌-◌, ◌≤◌, ◌<◌, ◌≡◌, refl, true, false, List, [], ◌∷◌, map, eqb, length, drop, get_or}
use Rattle.std.proofs.Common.{sym, ap, ◌∙◌, add-one, arith, drop_of_length-le, drop-cons}
use Rattle.std.proofs.Math.Option.{Option, none, some}
use Rattle.std.proofs.Math.ListN.{get_elem?}
use Rattle.spec_lists.specs.Lists.{All}
use Rattle.spec_lists.proofs.ListLaws.{test_cases, all_member, get_or_member}
use Rattle.spec_projection.specs.Projection.{Entry}
use Rattle.spec_projection.specs.Lookups.{KeyedValue, keyed_value, entries_in}
use Rattle.spec_projection.specs.Valid.{FitsEntry}
use Rattle.panel_rows.specs.Rows.{entry_row}
use Rattle.panel_lookups.specs.Nth.{counts_for}

pub counts_test : (c : ℕ) (e : Entry) (n : ℕ) → (eqb e.collection c ≡ true → n ≡ 1) → (eqb e.collection c ≡ false → n ≡ 0) → n ≡ counts_for c e
unfolding entries_in
counts_test c e n f g = test_cases (eqb e.collection c) (λ t. rw t (f t)) (λ t. rw t (g t))

-- an entry in front
counts_front : (c : ℕ) (e : Entry) (l : List Entry) → length (entries_in c (e ∷ l)) ≡ counts_for c e + length (entries_in c l)
unfolding entries_in
counts_front c e l = test_cases (eqb e.collection c) (λ t. rw t (omega arith)) (λ t. rw t (omega arith))

-- the n-th behind an entry
nth_behind : (c : ℕ) (e : Entry) (l : List Entry) (n : ℕ) → counts_for c e ≤ n → get_elem? (entries_in c (e ∷ l)) n ≡ get_elem? (entries_in c l) (n - counts_for c e)
unfolding entries_in
nth_behind c e l n h = test_cases (eqb e.collection c) (λ t. rw t (one n (rw t at h))) (λ t. rw t (none_passed n))
  where
    one : (n : ℕ) → 1 ≤ n → get_elem? (keyed_value e ∷ entries_in c l) n ≡ get_elem? (entries_in c l) (n - 1)
    one zero h = absurd (omega arith)
    one (suc n) h =
        let e : suc n - 1 ≡ n = omega arith in
        ap (get_elem? (entries_in c l)) (sym e)

    none_passed : (n : ℕ) → get_elem? (entries_in c l) n ≡ get_elem? (entries_in c l) (n - 0)
    none_passed n =
        let e : n ≡ n - 0 = omega arith in
        ap (get_elem? (entries_in c l)) e

-- the n-th is this entry
nth_here : (c : ℕ) (e : Entry) (l : List Entry) (n : ℕ) → n < counts_for c e → get_elem? (entries_in c (e ∷ l)) n ≡ some (keyed_value e)
unfolding entries_in
nth_here c e l n h = test_cases (eqb e.collection c) (λ t. rw t (here n (rw t at h))) (λ t. absurd (omega (arith, rw t at h)))
  where
    here : (n : ℕ) → n < 1 → get_elem? (keyed_value e ∷ entries_in c l) n ≡ some (keyed_value e)
    here zero h = refl
    here (suc n) h = absurd (omega arith)

module _ (c : ℕ) (es : List Entry) (d : Entry) (i : ℕ) (below : i < length es) where
  front : drop i es ≡ get_or es i d ∷ drop (i + 1) es
  front = rw (add-one, drop-cons es i d)

  pub counts_turn : (n : ℕ) → n + length (entries_in c (drop i es)) ≡ length (entries_in c es) → n + counts_for c (get_or es i d) + length (entries_in c (drop (i + 1) es)) ≡ length (entries_in c es)
  counts_turn n h = omega (arith, counts_front c (get_or es i d) (drop (i + 1) es), ap (λ (l : List Entry). length (entries_in c l)) front)

  pub nth_turn : (n left : ℕ) → counts_for c (get_or es i d) ≤ left → get_elem? (entries_in c (drop i es)) left ≡ get_elem? (entries_in c es) n → get_elem? (entries_in c (drop (i + 1) es)) (left - counts_for c (get_or es i d)) ≡ get_elem? (entries_in c es) n
  nth_turn n left h e = sym (nth_behind c (get_or es i d) (drop (i + 1) es) left h) ∙ ap (λ (l : List Entry). get_elem? (entries_in c l) left) (sym front) ∙ e

  pub nth_found : (n left : ℕ) → left < counts_for c (get_or es i d) → get_elem? (entries_in c (drop i es)) left ≡ get_elem? (entries_in c es) n → get_elem? (entries_in c es) n ≡ some (keyed_value (get_or es i d))
  nth_found n left h e = sym e ∙ ap (λ (l : List Entry). get_elem? (entries_in c l) left) front ∙ nth_here c (get_or es i d) (drop (i + 1) es) left h

pub counts_end : (c : ℕ) (es : List Entry) (i : ℕ) → length es ≤ i → length (entries_in c (drop i es)) ≡ 0
unfolding entries_in
counts_end c es i h = ap (λ (l : List Entry). length (entries_in c l)) (drop_of_length-le es h)

pub nth_end : (c : ℕ) (es : List Entry) (i left : ℕ) → length es ≤ i → get_elem? (entries_in c (drop i es)) left ≡ none
unfolding entries_in
nth_end c es i left h = ap (λ (l : List Entry). get_elem? (entries_in c l) left) (drop_of_length-le es h) ∙ go left
  where
    go : (n : ℕ) → ◌≡◌ {A = Option KeyedValue} (get_elem? [] n) none
    go zero = refl
    go (suc n) = refl

-- an entry that stands at a position, with its row
pub fits_at : (es : List Entry) (i : ℕ) (d : Entry) → i < length es → All FitsEntry es → FitsEntry (get_or es i d)
fits_at es i d h f = all_member FitsEntry es f (get_or_member es i d h)

pub row_at_entry : (es : List Entry) (i : ℕ) (d : Entry) → i < length es → get_or (map entry_row es) i [] ≡ entry_row (get_or es i d)
row_at_entry [] i d h = absurd (omega arith)
row_at_entry (e ∷ es) zero d h = refl
row_at_entry (e ∷ es) (suc i) d h = row_at_entry es i d (omega arith)
