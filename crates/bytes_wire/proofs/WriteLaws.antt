-- What writing leaves: the bytes in place where there is room, else the list as it was; and writing one thing behind another is writing both.
use Rattle.std.specs.Prelude.{ℕ, ◌+◌, ◌-◌, leb, ◌≤◌, ◌<◌, ◌≡◌, refl, Bool, true, false, List, ◌++◌, length, take, drop}
use Rattle.std.proofs.Common.{sym, ap, ap₂, ◌∙◌, append_assoc, arith, length-append, take_at, drop_at, drop-drop, length-take-le}
use borrow.Author.Tests.{leb-true, le-leb, lt-leb}
use borrow.Rule.Slice.PartMut.{put_mid}
use Rattle.std.proofs.lemmas.List.Edits.{length-paste}
use Rattle.std.proofs.Math.Seq.{take-length}
use Rattle.bytes_wire.specs.Write.{has_room, overwrite}

-- ---- the test of room

module _ (l : List ℕ) (at n : ℕ) where
  pub room_true : has_room l at n ≡ true → at + n ≤ length l
  unfolding has_room
  room_true = leb-true (at + n) (length l)

  pub has_room_lem : at + n ≤ length l → has_room l at n ≡ true
  unfolding has_room
  has_room_lem = le-leb (at + n) (length l)

  pub no_room : length l < at + n → has_room l at n ≡ false
  unfolding has_room
  no_room = lt-leb (at + n) (length l)

-- ---- n bytes in place

module _ (l : List ℕ) (at : ℕ) (bs : List ℕ) (n : ℕ) (long : length bs ≡ n) where
  pub overwrite_in_place : has_room l at n ≡ true → overwrite l at bs ≡ take at l ++ bs ++ drop (at + n) l
  unfolding overwrite
  overwrite_in_place h = rw (long, h)

  pub overwrite_refused : has_room l at n ≡ false → overwrite l at bs ≡ l
  unfolding overwrite
  overwrite_refused h = rw (long, h)

module _ (l : List ℕ) (at : ℕ) (bs : List ℕ) where
  -- the bytes copied into the part of the list from index at on
  pub overwrite_part : {new : List ℕ} → new ≡ bs → true ≡ leb (at + length bs) (length l) → put_mid at (at + length bs - at) l new ≡ overwrite l at bs
  unfolding has_room
  overwrite_part {new} same room =
      let width : at + length bs - at ≡ length bs = omega arith in
      ap (λ (k : ℕ). put_mid at k l new) width
      ∙ ap (put_mid at (length bs) l) same
      ∙ ap (λ (s : List ℕ). take at l ++ (bs ++ s)) (drop-drop (length bs) at l)
      ∙ sym (append_assoc (take at l) bs (drop (at + length bs) l))
      ∙ sym (overwrite_in_place l at bs (length bs) refl (sym room))

  pub length_overwrite : length (overwrite l at bs) ≡ length l
  length_overwrite = go (has_room l at (length bs)) refl
    where
      go : (t : Bool) → has_room l at (length bs) ≡ t → length (overwrite l at bs) ≡ length l
      go true e =
          ap length (overwrite_in_place l at bs (length bs) refl e)
          ∙ ap (λ (s : List ℕ). length (take at l ++ s ++ drop (at + length bs) l)) (sym (take-length bs))
          ∙ length-paste l at bs (length bs) (room_true l at (length bs) e) (omega arith)
      go false e = ap length (overwrite_refused l at bs (length bs) refl e)

-- ---- what stands where, after n bytes were written

module _ (l : List ℕ) (at : ℕ) (bs : List ℕ) (n : ℕ) (long : length bs ≡ n) (room : has_room l at n ≡ true) where
  front_long : length (take at l) ≡ at
  front_long = length-take-le at l (omega (arith, room_true l at n room))

  -- up to the end of what was written
  pub take_overwrite : take (at + n) (overwrite l at bs) ≡ take at l ++ bs
  take_overwrite =
      ap (take (at + n)) (overwrite_in_place l at bs n long room)
      ∙ take_at (take at l ++ bs) (drop (at + n) l) (at + n) (length-append (take at l) bs ∙ omega (arith, front_long))

  -- from the start of what was written on
  pub drop_overwrite : drop at (overwrite l at bs) ≡ bs ++ drop (at + n) l
  drop_overwrite =
      ap (drop at) (overwrite_in_place l at bs n long room ∙ append_assoc (take at l) bs (drop (at + n) l))
      ∙ drop_at (take at l) (bs ++ drop (at + n) l) at front_long

  -- behind what was written
  pub drop_past_overwrite : drop (at + n) (overwrite l at bs) ≡ drop (at + n) l
  drop_past_overwrite =
      sym (drop-drop n at (overwrite l at bs)) ∙ ap (drop n) drop_overwrite ∙ drop_at bs (drop (at + n) l) n long

-- ---- one write behind another

pub overwrite_append : (l : List ℕ) (at : ℕ) (a b : List ℕ) (n : ℕ) → length a ≡ n → at + (n + length b) ≤ length l
    → overwrite (overwrite l at a) (at + n) b ≡ overwrite l at (a ++ b)
overwrite_append l at a b n long h =
    let first : has_room l at n ≡ true = has_room_lem l at n (omega arith) in
    let second : has_room (overwrite l at a) (at + n) (length b) ≡ true = has_room_lem (overwrite l at a) (at + n) (length b) (omega (arith, length_overwrite l at a)) in
    let sum : length (a ++ b) ≡ n + length b = length-append a b ∙ ap (λ (k : ℕ). k + length b) long in
    let regroup : at + n + length b ≡ at + (n + length b) = omega arith in
    let rest : drop (at + n + length b) (overwrite l at a) ≡ drop (at + (n + length b)) l =
    sym (drop-drop (length b) (at + n) (overwrite l at a))
    ∙ ap (drop (length b)) (drop_past_overwrite l at a n long first)
    ∙ drop-drop (length b) (at + n) l
    ∙ ap (λ (k : ℕ). drop k l) regroup in
    overwrite_in_place (overwrite l at a) (at + n) b (length b) refl second
    ∙ ap₂ (λ (x y : List ℕ). x ++ b ++ y) (take_overwrite l at a n long first) rest
    ∙ ap (λ (x : List ℕ). x ++ drop (at + (n + length b)) l) (append_assoc (take at l) a b)
    ∙ sym (overwrite_in_place l at (a ++ b) (n + length b) sum (has_room_lem l at (n + length b) h))

-- ---- reading gives back what was written
