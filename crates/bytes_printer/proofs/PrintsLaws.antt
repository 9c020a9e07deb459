-- Laws of printing: one behind another, nothing, one byte, a line for each element of a list; and what a whole print leaves.
use Rattle.std.specs.Prelude.{ℕ, suc, ◌+◌, ◌-◌, ◌≤◌, ◌<◌, ◌≡◌, refl, min, leb, set, get_or, Option, Some, None}
use Rattle.std.proofs.Math.Path.{sym, ap, ap₂}
use Rattle.std.proofs.Common.{◌∙◌, subst, add-one, arith, length-take, length-drop, take-append-drop, drop_of_length-le, take_at, take_all, drop_at, drop-drop, length-take-le, leb-true, leb-false, le-leb}
use borrow.Rule.Slice.PartMut.{put_mid}
use mathlib.Core.List.{List, [], ◌∷◌, ◌++◌, append_assoc, append-nil, flat_map}
use Rattle.std.proofs.Math.ListN.{length, take, drop, length-append}
use Rattle.std.proofs.Math.Seq.{take-suc, take-append-add}
use Rattle.std.proofs.lemmas.List.{set_split, take-append-le}
use Rattle.std.proofs.lemmas.Bool.{lt-leb}
use Rattle.spec_lists.proofs.ListLaws.{flat_map_append, test_cases}
use Rattle.bytes_printer.specs.Prints.{printed, printed_behind, Prints, Within}

-- ---- bytes that fit, and bytes that do not

module _ (l : List ℕ) (i : ℕ) (bs : List ℕ) where
  pub behind_all : i + length bs ≤ length l → printed_behind l (Some i) bs ≡ Some (i + length bs)
  unfolding printed_behind
  behind_all h = rw (le-leb (i + length bs) (length l) h)

  pub behind_none : length l < i + length bs → printed_behind l (Some i) bs ≡ None
  unfolding printed_behind
  behind_none h = rw (lt-leb (i + length bs) (length l) h)

  pub printed_all : i + length bs ≤ length l → printed l (Some i) bs ≡ take i l ++ bs ++ drop (i + length bs) l
  unfolding printed
  printed_all h = ap (λ (b : List ℕ). take i l ++ b ++ drop (i + length bs) l) (take_all (length l - i) bs (omega arith))

  pub printed_part : length l ≤ i + length bs → printed l (Some i) bs ≡ take i l ++ take (length l - i) bs
  unfolding printed
  printed_part h = rw (drop_of_length-le l h) (append-nil _)

-- the slice keeps its length
pub length_printed : (l : List ℕ) (at : Option ℕ) (bs : List ℕ) → length (printed l at bs) ≡ length l
unfolding printed
length_printed l (Some i) bs = simp (length-append, length-take, length-drop) (omega arith)
length_printed l None bs = refl

-- ---- one behind another

module _ (l : List ℕ) (i : ℕ) (a b : List ℕ) where
  -- what stands before and behind a print that fits
  module _ (h : i + length a ≤ length l) where
    front : length (take i l ++ a) ≡ i + length a
    front = length-append (take i l) a ∙ omega (arith, length-take-le i l (omega arith))

    taken : take (i + length a) (printed l (Some i) a) ≡ take i l ++ a
    taken = ap (take (i + length a)) (printed_all l i a h) ∙ take_at (take i l ++ a) (drop (i + length a) l) (i + length a) front

    dropped : drop (i + length a + length b) (printed l (Some i) a) ≡ drop (i + length (a ++ b)) l
    dropped =
        let sum : i + length a + length b ≡ i + length (a ++ b) = omega (arith, length-append a b) in
        sym (drop-drop (length b) (i + length a) (printed l (Some i) a))
        ∙ ap (drop (length b)) (ap (drop (i + length a)) (printed_all l i a h) ∙ drop_at (take i l ++ a) (drop (i + length a) l) (i + length a) front)
        ∙ drop-drop (length b) (i + length a) l
        ∙ ap (λ (k : ℕ). drop k l) sum

    middle : take (length l - i) (a ++ b) ≡ a ++ take (length l - (i + length a)) b
    middle =
        let sum : length l - i ≡ length a + (length l - (i + length a)) = omega arith in
        ap (λ (k : ℕ). take k (a ++ b)) sum ∙ take-append-add a b (length l - (i + length a))

  output_append : printed (printed l (Some i) a) (printed_behind l (Some i) a) b ≡ printed l (Some i) (a ++ b)
  unfolding printed
  output_append = test_cases (leb (i + length a) (length l)) (λ t. all (leb-true _ _ t)) (λ t. part (leb-false _ _ t))
    where
      all : i + length a ≤ length l → printed (printed l (Some i) a) (printed_behind l (Some i) a) b ≡ printed l (Some i) (a ++ b)
      all h =
          ap (λ (p : Option ℕ). printed (printed l (Some i) a) p b) (behind_all l i a h)
          ∙ ap₂ (λ (x y : List ℕ). x ++ take (length (printed l (Some i) a) - (i + length a)) b ++ y) (taken h) (dropped h)
          ∙ ap (λ (k : ℕ). take i l ++ a ++ take (k - (i + length a)) b ++ drop (i + length (a ++ b)) l) (length_printed l (Some i) a)
          ∙ ap (λ (x : List ℕ). x ++ drop (i + length (a ++ b)) l) (append_assoc (take i l) a _ ∙ ap (λ (x : List ℕ). take i l ++ x) (sym (middle h)))

      part : length l < i + length a → printed (printed l (Some i) a) (printed_behind l (Some i) a) b ≡ printed l (Some i) (a ++ b)
      part h =
          ap (λ (p : Option ℕ). printed (printed l (Some i) a) p b) (behind_none l i a h)
          ∙ printed_part l i a (omega arith)
          ∙ ap (λ (x : List ℕ). take i l ++ x) (sym (take-append-le (length l - i) a b (omega arith)))
          ∙ sym (printed_part l i (a ++ b) (omega (arith, length-append a b)))

  answer_append : printed_behind (printed l (Some i) a) (printed_behind l (Some i) a) b ≡ printed_behind l (Some i) (a ++ b)
  unfolding printed_behind
  answer_append = test_cases (leb (i + length a) (length l)) (λ t. all (leb-true _ _ t)) (λ t. part (leb-false _ _ t))
    where
      all : i + length a ≤ length l → printed_behind (printed l (Some i) a) (printed_behind l (Some i) a) b ≡ printed_behind l (Some i) (a ++ b)
      all h =
          let sum : i + length a + length b ≡ i + length (a ++ b) = omega (arith, length-append a b) in
          ap (λ (p : Option ℕ). printed_behind (printed l (Some i) a) p b) (behind_all l i a h) ∙ rw (length_printed l (Some i) a, sum)

      part : length l < i + length a → printed_behind (printed l (Some i) a) (printed_behind l (Some i) a) b ≡ printed_behind l (Some i) (a ++ b)
      part h =
          ap (λ (p : Option ℕ). printed_behind (printed l (Some i) a) p b) (behind_none l i a h) ∙ sym (behind_none l i (a ++ b) (omega (arith, length-append a b)))

infixr 60 ◌⨾◌
-- printing a, then b where that ended, is printing a ++ b
pub ◌⨾◌ : {l m n : List ℕ} {at r s : Option ℕ} {a b : List ℕ} → Prints l at a m r → Prints m r b n s → Prints l at (a ++ b) n s
unfolding printed printed_behind
◌⨾◌ {l} {at = at} {a = a} {b = b} p q = record {
  answer = q.answer ∙ ap₂ (λ (x : List ℕ) (y : Option ℕ). printed_behind x y b) p.output p.answer ∙ answers at;
  output = q.output ∙ ap₂ (λ (x : List ℕ) (y : Option ℕ). printed x y b) p.output p.answer ∙ outputs at;
}
  where
    answers : (at : Option ℕ) → printed_behind (printed l at a) (printed_behind l at a) b ≡ printed_behind l at (a ++ b)
    answers (Some i) = answer_append l i a b
    answers None = refl

    outputs : (at : Option ℕ) → printed (printed l at a) (printed_behind l at a) b ≡ printed l at (a ++ b)
    outputs (Some i) = output_append l i a b
    outputs None = refl

-- the same bytes, spelt otherwise
pub prints_same : {l m bs cs : List ℕ} {at r : Option ℕ} → bs ≡ cs → Prints l at bs m r → Prints l at cs m r
prints_same {l} {m} {bs} {cs} {at} {r} e p = subst (λ (b : List ℕ). Prints l at b m r) e p

-- ---- from a position that a match told

pub from_next : {l m bs : List ℕ} {at r : Option ℕ} {i : ℕ} → at ≡ Some i → Prints l (Some i) bs m r → Prints l at bs m r
from_next {l} {m} {bs} {at} {r} e p = subst (λ (a : Option ℕ). Prints l a bs m r) (sym e) p

-- the answer that a `?` hands on
pub handed_on : {l m bs : List ℕ} {at r : Option ℕ} → r ≡ None → Prints l at bs m None → Prints l at bs m r
handed_on {l} {m} {bs} {at} e p = subst (λ (a : Option ℕ). Prints l at bs m a) (sym e) p

-- without a position nothing is printed
pub not_printed : (l bs : List ℕ) {at : Option ℕ} → at ≡ None → Prints l at bs l None
unfolding printed printed_behind
not_printed l bs e = subst (λ (a : Option ℕ). Prints l a bs l None) (sym e) (record { answer = refl; output = refl })

-- ---- nothing, one byte, and a slice that is full

module _ (l : List ℕ) (i : ℕ) where
  -- one byte stored
  pub one_printed : (b : ℕ) → i < length l → Prints l (Some i) (b ∷ []) (set l i b) (Some (i + 1))
  one_printed b h = record {
    answer = sym (behind_all l i (b ∷ []) (omega arith));
    output =
        let k : suc i ≡ i + 1 = omega arith in
        set_split l i b h ∙ ap (λ (n : ℕ). take i l ++ b ∷ drop n l) k ∙ sym (append_assoc (take i l) (b ∷ []) (drop (i + 1) l)) ∙ sym (printed_all l i (b ∷ []) (omega arith));
  }

  -- no room for any
  pub none_printed : (bs : List ℕ) → length l ≤ i → length l < i + length bs → Prints l (Some i) bs l None
  none_printed bs full some = record {
    answer = sym (behind_none l i bs some);
    output =
        let none_left : length l - i ≡ 0 = omega arith in
        sym (printed_part l i bs (omega arith) ∙ rw none_left (append-nil (take i l)) ∙ take_all i l full);
  }

-- nothing is printed at a position in the slice
pub nothing_printed : (l : List ℕ) (at : Option ℕ) → Within l at → Prints l at [] l at
unfolding printed printed_behind
nothing_printed l (Some i) h =
    let same : i + 0 ≡ i = omega arith in
    record {
      answer = sym (behind_all l i [] (omega arith) ∙ ap Some same);
      output = sym (printed_all l i [] (omega arith) ∙ rw (same, append-nil (take i l)) (take-append-drop i l));
    }
nothing_printed l None h = record { answer = refl; output = refl }

pub keeps_length : {l m : List ℕ} {at r : Option ℕ} {bs : List ℕ} → Prints l at bs m r → length m ≡ length l
keeps_length {l} {at = at} {bs = bs} p = ap length p.output ∙ length_printed l at bs

-- a print ends in the slice
pub ends_within : {l m : List ℕ} {at r : Option ℕ} {bs : List ℕ} → Prints l at bs m r → Within m r
unfolding printed_behind
ends_within {l} {m} {at} {r} {bs} p = subst (λ (x : Option ℕ). Within m x) (sym p.answer) (by_position at (keeps_length p))
  where
    by_position : (at : Option ℕ) → length m ≡ length l → Within m (printed_behind l at bs)
    by_position (Some i) size = test_cases (leb (i + length bs) (length l)) (λ t. rw t (omega (arith, leb-true (i + length bs) (length l) t))) (λ t. rw t tt)
    by_position None size = tt

-- ---- as many bytes as there is room for, copied in one go

module _ (l t s : List ℕ) (i n : ℕ) (within : i ≤ length l) (count : n ≡ min (length t) (length l - i)) (copied : s ≡ take n t) where
  behind : drop (i + n - i) (drop i l) ≡ drop (i + n) l
  behind = drop-drop (i + n - i) i l ∙ ap (λ (k : ℕ). drop k l) (omega arith)

  pub copied_all : length t ≤ n → Prints l (Some i) t (put_mid i (i + n - i) l s) (Some (i + n))
  copied_all all =
      let same : i + length t ≡ i + n = omega arith in
      record {
        answer = sym (behind_all l i t (omega arith) ∙ ap Some same);
        output =
            ap₂ (λ (x y : List ℕ). take i l ++ (x ++ y)) (copied ∙ take_all n t all) (behind ∙ ap (λ (k : ℕ). drop k l) (sym same))
            ∙ sym (append_assoc (take i l) t (drop (i + length t) l))
            ∙ sym (printed_all l i t (omega arith));
      }

  pub copied_part : n < length t → Prints l (Some i) t (put_mid i (i + n - i) l s) None
  copied_part part =
      let room : n ≡ length l - i = omega arith in
      record {
        answer = sym (behind_none l i t (omega arith));
        output =
            ap₂ (λ (x y : List ℕ). take i l ++ (x ++ y)) (copied ∙ ap (λ (k : ℕ). take k t) room) (behind ∙ drop_of_length-le l (omega arith))
            ∙ ap (λ (x : List ℕ). take i l ++ x) (append-nil (take (length l - i) t))
            ∙ sym (printed_part l i t (omega arith));
      }

-- ---- byte by byte

module _ (text : List ℕ) (i : ℕ) (h : i < length text) {l m : List ℕ} {at : Option ℕ} {to : ℕ} (p : Prints l at (take i text) m (Some to)) where
  pub byte_turn : to < length m → Prints l at (take (i + 1) text) (set m to (get_or text i 0)) (Some (to + 1))
  byte_turn room = prints_same (sym (ap (λ (k : ℕ). take k text) (add-one i) ∙ take-suc text i 0 h)) (p ⨾ one_printed m to (get_or text i 0) room)

  pub byte_full : length m ≤ to → Prints l at text m None
  byte_full full =
      prints_same (take-append-drop i text) (p ⨾ none_printed m to (drop i text) full (omega (arith, length-drop i text)))

-- ---- a line for each element of a list

module _ {A : Type 0} (line : A → List ℕ) (xs : List A) {l : List ℕ} {at : Option ℕ} where
  -- before the first turn of a loop over the list
  pub lines_start : Within l at → Prints l at (flat_map line (take 0 xs)) l at
  unfolding flat_map
  lines_start h = nothing_printed l at h

  -- one turn prints the line of the next element
  pub lines_turn : (i : ℕ) (d : A) → i < length xs → {m n : List ℕ} {r s : Option ℕ} → Prints l at (flat_map line (take i xs)) m r → Prints m r (line (get_or xs i d)) n s
      → Prints l at (flat_map line (take (i + 1) xs)) n s
  unfolding flat_map
  lines_turn i d h p q =
      let lines : flat_map line (take i xs) ++ line (get_or xs i d) ≡ flat_map line (take (i + 1) xs) =
      sym (ap (flat_map line) (ap (λ (k : ℕ). take k xs) (add-one i) ∙ take-suc xs i d h)
      ∙ flat_map_append line (take i xs) (get_or xs i d ∷ [])
      ∙ ap (λ (b : List ℕ). flat_map line (take i xs) ++ b) (append-nil (line (get_or xs i d)))) in
      prints_same lines (p ⨾ q)

  -- after the last turn
  pub lines_end : (i : ℕ) → length xs ≤ i → {m : List ℕ} {r : Option ℕ} → Prints l at (flat_map line (take i xs)) m r → Prints l at (flat_map line xs) m r
  lines_end i h p = prints_same (ap (flat_map line) (take_all i xs h)) p

-- ---- what a whole print leaves

-- bytes that fit, printed from the start
pub whole_printed : {l bs m : List ℕ} {r : Option ℕ} → Prints l (Some 0) bs m r → length bs ≤ length l → (r ≡ Some (length bs)) × (take (length bs) m ≡ bs)
whole_printed {l} {bs} p h = (
  p.answer ∙ behind_all l 0 bs (omega arith) ∙ ap Some (omega arith),
  ap (take (length bs)) (p.output ∙ printed_all l 0 bs (omega arith)) ∙ take_at bs (drop (0 + length bs) l) (length bs) refl,
)
