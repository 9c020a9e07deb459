-- What stands before and behind the first place of a byte; and the first line of a list.
use Prim.Native.Nat.{ℕ, suc, ◌+◌, ◌≤◌, ◌<◌}
use Rattle.std.specs.Prelude.{◌≡◌, true, ◌≢◌, eqb, length, take, drop, get_or, ◌==◌}
use Rattle.std.specs.Prelude.{Bool, false, nat_lt}
use Rattle.std.specs.Option.{unwrap_or}
use Rattle.std.specs.List.{position, position_or_len}
use Rattle.std.proofs.lemmas.List.Recursion.{is_position_or_len}
use Rattle.std.proofs.Math.Path.{refl, ap}
use Rattle.std.proofs.Common.{sym, ◌∙◌, drop_of_length-le, take_all, drop-cons, drop-drop}
use mathlib.Core.List.{List, [], ◌∷◌, ◌++◌}
use native.Mathlib.Omega.{arith}
use borrow.Author.Tests.{eqb-true, eq-eqb, ne_eqb, ltb-false}
use Rattle.spec_lists.proofs.ListLaws.{test_cases}
use Rattle.spec_listing.specs.Escapes.{newline}
use Rattle.spec_listing.specs.Split.{prepend, lacks}
use Rattle.spec_import.specs.Import.{lines}
use Rattle.patch_terms.specs.Places.{byte_place_of, first_term_line, other_lines}

module _ (byte : ℕ) where
  pub byte_place_of_within : (l : List ℕ) → byte_place_of byte l ≤ length l
  unfolding byte_place_of
  byte_place_of_within [] = omega arith
  byte_place_of_within (b ∷ l) = test_cases (eqb b byte) (λ t. rw t (omega arith)) (λ t. rw t (omega (arith, byte_place_of_within l)))

  -- none stands before it
  pub place_lacks : (l : List ℕ) → lacks byte (take (byte_place_of byte l) l) ≡ true
  unfolding byte_place_of
  place_lacks [] = refl
  place_lacks (b ∷ l) = test_cases (eqb b byte) (λ t. rw t) (λ t. rw (t, t) (place_lacks l))

  -- the byte stands there
  pub place_found : (l : List ℕ) → byte_place_of byte l < length l → l ≡ take (byte_place_of byte l) l ++ (byte ∷ drop (suc (byte_place_of byte l)) l)
  unfolding byte_place_of
  place_found [] = λ h. absurd (omega arith)
  place_found (b ∷ l) =
      test_cases (eqb b byte)
      (λ t. rw t (λ h. ap (λ (x : ℕ). x ∷ l) (eqb-true b byte t)))
      (λ t. rw t (λ h. ap (λ (r : List ℕ). b ∷ r) (place_found l (omega arith))))

  -- or there is none
  pub place_none : (l : List ℕ) → byte_place_of byte l ≡ length l → lacks byte l ≡ true
  place_none l h = ap (lacks byte) (sym (take_all (byte_place_of byte l) l (omega arith))) ∙ place_lacks l

  -- it is the library's search
  pub place_is : (l : List ℕ) → byte_place_of byte l ≡ position_or_len (λ b. b == byte) l
  unfolding byte_place_of
  place_is l = is_position_or_len (byte_place_of byte) (λ b. b == byte) refl (λ x xs. test_cases (eqb x byte) (λ t. rw t) (λ t. rw t (omega arith))) l

  -- and that is as far as its length where it finds none
  pub place_or_length : (l : List ℕ) → unwrap_or (position (λ b. b == byte) l) (length l) ≡ byte_place_of byte l
  place_or_length l = go (nat_lt (byte_place_of byte l) (length l)) refl
    where
      go : (t : Bool) → nat_lt (byte_place_of byte l) (length l) ≡ t → unwrap_or (position (λ b. b == byte) l) (length l) ≡ byte_place_of byte l
      go true e = rw (← place_is l, e)
      go false e = rw (← place_is l, e) (omega (arith, ltb-false (byte_place_of byte l) (length l) e, byte_place_of_within l))

  -- ---- the scan: what is left answers as the whole does

  pub place_turn : (l : List ℕ) (i : ℕ) → i < length l → get_or l i 0 ≢ byte → i + byte_place_of byte (drop i l) ≡ i + 1 + byte_place_of byte (drop (i + 1) l)
  unfolding byte_place_of
  place_turn l i h e =
      let next : suc i ≡ i + 1 = omega arith in
      rw (drop-cons l i 0 h, ne_eqb (get_or l i 0) byte e) (sym (ap (λ (n : ℕ). n + byte_place_of byte (drop n l)) (sym next) ∙ omega arith))

  pub place_here : (l : List ℕ) (i : ℕ) → i < length l → get_or l i 0 ≡ byte → i + byte_place_of byte (drop i l) ≡ i
  unfolding byte_place_of
  place_here l i h e = rw (drop-cons l i 0 h, eq-eqb (get_or l i 0) byte e) (omega arith)

  pub place_end : (l : List ℕ) (i : ℕ) → length l ≤ i → i + byte_place_of byte (drop i l) ≡ i
  unfolding byte_place_of
  place_end l i h = rw (drop_of_length-le l {i = i} h) (omega arith)

-- ---- lines

-- a list with bytes has a first line, and the others behind it
lines_first : (b : ℕ) (bs : List ℕ) → lines (b ∷ bs) ≡ first_term_line (b ∷ bs) ∷ lines (other_lines (b ∷ bs))
unfolding lines prepend byte_place_of
lines_first b [] = test_cases (eqb b newline) (λ t. rw t) (λ t. rw t)
lines_first b (c ∷ bs) =
    let later = ap (prepend b) (lines_first c bs) in
    test_cases (eqb b newline) (λ t. rw t) (λ t. rw t later)

-- and so has the list from a position on
pub lines_at : (l : List ℕ) (at : ℕ) → at < length l → lines (drop at l) ≡ first_term_line (drop at l) ∷ lines (drop (suc (at + byte_place_of newline (drop at l))) l)
lines_at l at h =
    let here = drop-cons l at 0 h in
    let first : lines (drop at l) ≡ first_term_line (drop at l) ∷ lines (other_lines (drop at l)) = rw here (lines_first (get_or l at 0) (drop (suc at) l)) in
    let behind : at + suc (byte_place_of newline (drop at l)) ≡ suc (at + byte_place_of newline (drop at l)) = omega arith in
    first ∙ ap (λ (r : List ℕ). first_term_line (drop at l) ∷ lines r) (drop-drop (suc (byte_place_of newline (drop at l))) at l ∙ ap (λ (n : ℕ). drop n l) behind)
