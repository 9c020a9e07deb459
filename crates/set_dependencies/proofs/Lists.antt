-- One list written behind another, in the part of the output that follows the first.
use Prim.Native.Nat.{ℕ, ◌+◌, ◌-◌, ◌≤◌}
use mathlib.Core.Path.{◌≡◌, sym, ap, ap₂, ◌∙◌}
use mathlib.Core.List.{List, ◌++◌, append_assoc, append-nil}
use native.Mathlib.Omega.{arith}
use lib.ListN.{length, take, drop, length-append, length-drop, drop_of_length-le}
use lib.Seq.{take_at, drop_at, take_all, drop-drop}
use borrow.Rule.Slice.PartMut.{mid_of, put_mid}
use Rattle.spec_dependencies.specs.Answer.{words_written}

pub written_length : (words lent : List ℕ) → length words ≤ length lent → length (words_written words lent) ≡ length lent
unfolding words_written
written_length words lent h = length-append words (drop (length words) lent) ∙ omega (arith, length-drop (length words) lent)

module _ (a b lent : List ℕ) (from : ℕ) (front : length a ≡ from) (room : from + length b ≤ length lent) {one : List ℕ} (first : one ≡ words_written a lent) where
  abbrev rest : List ℕ
  rest = drop from lent

  split : one ≡ a ++ rest
  unfolding words_written
  split = first ∙ ap (λ (n : ℕ). a ++ drop n lent) front

  behind : drop from one ≡ rest
  behind = ap (drop from) split ∙ drop_at a rest from front

  same_size : length one ≡ length lent
  same_size = ap length first ∙ written_length a lent (omega arith)

  -- the part that is lent to the second
  pub second_part : mid_of from (length one - from) one ≡ rest
  second_part = ap (take (length one - from)) behind ∙ take_all (length one - from) rest (omega (arith, length-drop from lent, same_size))

  pub second_written : {two : List ℕ} → two ≡ words_written b (mid_of from (length one - from) one) → put_mid from (length one - from) one two ≡ words_written (a ++ b) lent
  unfolding words_written
  second_written {two} second =
      let gone : length rest ≤ length one - from = omega (arith, length-drop from lent, same_size) in
      let none = drop_of_length-le rest gone in
      let sum : from + length b ≡ length (a ++ b) = omega (arith, length-append a b) in
      let last : two ≡ b ++ drop (length (a ++ b)) lent = second ∙ ap (words_written b) second_part ∙ ap (λ (l : List ℕ). b ++ l) (drop-drop (length b) from lent ∙ ap (λ (n : ℕ). drop n lent) sum) in
      ap₂ (λ (x y : List ℕ). x ++ (two ++ y)) (ap (take from) split ∙ take_at a rest from front) (ap (drop (length one - from)) behind ∙ none)
      ∙ ap (λ (l : List ℕ). a ++ l) (append-nil two ∙ last) ∙ sym (append_assoc a b (drop (length (a ++ b)) lent))
