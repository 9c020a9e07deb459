-- The field behind a place of a line, read or not.
use Rattle.std.specs.Prelude.{ℕ, suc, ◌+◌, ◌-◌, ◌≤◌, ◌<◌, ◌≡◌, ltb, eqb, get_or, take, drop}
use Rattle.std.proofs.Math.Path.{refl, ap}
use Rattle.std.proofs.Common.{sym, ◌∙◌, add-one, drop_of_length-le, take_all}
use mathlib.Core.List.{List, [], ◌∷◌}
use Rattle.std.proofs.Math.Option.{Option, none, some}
use native.Mathlib.Omega.{arith}
use Rattle.std.proofs.Math.ListN.{length, length-drop}
use Rattle.std.proofs.Math.Seq.{drop-drop, drop-cons}
use borrow.Author.Tests.{lt-ltb, le-ltb, ltb-true, ltb-false, eq-eqb, ne_eqb}
use Rattle.spec_lists.proofs.ListLaws.{test_cases}
use Rattle.spec_replay.specs.Lines.{space, prepend, split}
use Rattle.spec_replay.specs.Hex.{read_hex}
use Rattle.spec_replay.specs.Script.{Command, other, Arguments, end, given, read_by, hex}
use Rattle.script_parser.specs.Fields.{first_field, fields_after}

module _ (separator : ℕ) where
  -- ---- the first field

  pub length_first_field : (l : List ℕ) → length (first_field separator l) ≤ length l
  unfolding first_field
  length_first_field [] = omega arith
  length_first_field (b ∷ bs) = test_cases (eqb b separator) (λ t. rw t (omega arith)) (λ t. rw t (omega (arith, length_first_field bs)))

  pub first_field_take : (l : List ℕ) → take (length (first_field separator l)) l ≡ first_field separator l
  unfolding first_field
  first_field_take [] = refl
  first_field_take (b ∷ bs) = test_cases (eqb b separator) (λ t. rw t) (λ t. rw t (ap (λ (r : List ℕ). b ∷ r) (first_field_take bs)))

  -- ---- the fields behind a place

  ltb_shift : (s k n : ℕ) → ltb k (n - s) ≡ ltb (s + k) n
  ltb_shift s k n =
      test_cases (ltb (s + k) n) (λ t. lt-ltb k (n - s) (omega (arith, ltb-true (s + k) n t)) ∙ sym t)
      (λ t. le-ltb k (n - s) (omega (arith, ltb-false (s + k) n t)) ∙ sym t)

  -- a place in what is left of a line is one of the line
  pub fields_after_drop : (l : List ℕ) (s k : ℕ) → fields_after separator (drop s l) k ≡ fields_after separator l (s + k)
  unfolding fields_after
  fields_after_drop l s k =
      let place : s + (k + 1) ≡ s + k + 1 = omega arith in
      rw (length-drop s l, ltb_shift s k (length l), drop-drop (k + 1) s l, place)

  fields_after_suc : (b : ℕ) (l : List ℕ) (k : ℕ) → fields_after separator (b ∷ l) (suc k) ≡ fields_after separator l k
  fields_after_suc b l k =
      let one : suc k ≡ 1 + k = omega arith in
      ap (fields_after separator (b ∷ l)) one ∙ sym (fields_after_drop (b ∷ l) 1 k)

  pub none_after : (line : List ℕ) (at : ℕ) → length line ≤ at → fields_after separator line at ≡ []
  unfolding fields_after
  none_after line at h = rw (le-ltb at (length line) h)

  pub some_after : (line : List ℕ) (at : ℕ) → at < length line → fields_after separator line at ≡ split separator (drop (at + 1) line)
  unfolding fields_after
  some_after line at h = rw (lt-ltb at (length line) h)

  -- a line is its first field and those behind it
  pub split_first : (l : List ℕ) → split separator l ≡ first_field separator l ∷ fields_after separator l (length (first_field separator l))
  unfolding split first_field prepend
  split_first [] = ap (λ (fs : List (List ℕ)). [] ∷ fs) (sym (none_after [] 0 (omega arith)))
  split_first (b ∷ bs) =
      test_cases (eqb b separator)
      (λ t. rw t (ap (λ (fs : List (List ℕ)). [] ∷ fs) (sym (some_after (b ∷ bs) 0 (omega arith)))))
      (λ t. rw (t, split_first bs) (ap (λ (fs : List (List ℕ)). (b ∷ first_field separator bs) ∷ fs) (sym (fields_after_suc b bs (length (first_field separator bs))))))

  -- the field behind a place inside the line
  pub one_after : (line : List ℕ) (at : ℕ) → at < length line → fields_after separator line at ≡ first_field separator (drop (at + 1) line) ∷ fields_after separator line (at + 1 + length (first_field separator (drop (at + 1) line)))
  one_after line at h =
      some_after line at h
      ∙ split_first (drop (at + 1) line)
      ∙ ap (λ (fs : List (List ℕ)). first_field separator (drop (at + 1) line) ∷ fs) (fields_after_drop line (at + 1) (length (first_field separator (drop (at + 1) line))))

  -- ---- reading the field behind a place

  module _ {A : Type 0} (read : List ℕ → Option A) (line : List ℕ) (at : ℕ) (next : A → Arguments) where
    pub missing : length line ≤ at → read_by read next (fields_after separator line at) ≡ other
    unfolding read_by
    missing h = rw (none_after line at h)

    -- the field, which ends at index to, is read as far as the test goes
    pub here : (to : ℕ) → to ≡ at + 1 + length (first_field separator (drop (at + 1) line)) → at < length line
        → read_by read next (fields_after separator line at) ≡ given (read (take (to - (at + 1)) (drop (at + 1) line))) (λ a. next a (fields_after separator line to))
    unfolding read_by
    here to e h =
        let size : at + 1 + length (first_field separator (drop (at + 1) line)) - (at + 1) ≡ length (first_field separator (drop (at + 1) line)) = omega arith in
        rw (one_after line at h, e, size, first_field_take (drop (at + 1) line))

    pub read_here : (to : ℕ) (a : A) → to ≡ at + 1 + length (first_field separator (drop (at + 1) line)) → at < length line → read (take (to - (at + 1)) (drop (at + 1) line)) ≡ some a
        → read_by read next (fields_after separator line at) ≡ next a (fields_after separator line to)
    unfolding given
    read_here to a e h r = here to e h ∙ rw r

    pub not_read : (to : ℕ) → to ≡ at + 1 + length (first_field separator (drop (at + 1) line)) → at < length line → read (take (to - (at + 1)) (drop (at + 1) line)) ≡ none
        → read_by read next (fields_after separator line at) ≡ other
    unfolding given
    not_read to e h r = here to e h ∙ rw r

  -- ---- the last field

  pub fields_ended : (line : List ℕ) (at : ℕ) (c : Command) → length line ≤ at → end c (fields_after separator line at) ≡ c
  unfolding end
  fields_ended line at c h = rw (none_after line at h)

  pub fields_not_ended : (line : List ℕ) (at : ℕ) (c : Command) → at < length line → end c (fields_after separator line at) ≡ other
  unfolding end
  fields_not_ended line at c h = rw (one_after line at h)

  -- ---- where a field ends

  module _ (line : List ℕ) (i : ℕ) where
    pub at_separator : i < length line → get_or line i 0 ≡ separator → length (first_field separator (drop i line)) ≡ 0
    unfolding first_field
    at_separator h e = rw (drop-cons line i 0 h, eq-eqb (get_or line i 0) separator e)

    pub past_byte : i < length line → (get_or line i 0 ≡ separator → ⊥) → length (first_field separator (drop i line)) ≡ 1 + length (first_field separator (drop (i + 1) line))
    unfolding first_field
    past_byte h e = rw (add-one i, drop-cons line i 0 h, ne_eqb (get_or line i 0) separator e) (omega arith)

    pub at_end : length line ≤ i → length (first_field separator (drop i line)) ≡ 0
    unfolding first_field
    at_end h = rw (drop_of_length-le line h)

  -- the part of a line that a field is
  pub field_part : (line : List ℕ) (from to : ℕ) → to ≡ from + length (first_field separator (drop from line)) → take (to - from) (drop from line) ≡ first_field separator (drop from line)
  field_part line from to e =
      let size : to - from ≡ length (first_field separator (drop from line)) = omega arith in
      ap (λ (n : ℕ). take n (drop from line)) size ∙ first_field_take (drop from line)

  -- it is within the line
  pub field_within : (line : List ℕ) (from : ℕ) → from ≤ length line → from + length (first_field separator (drop from line)) ≤ length line
  field_within line from h = omega (arith, length_first_field (drop from line), length-drop from line)

-- ---- hex up to the end of the line

module _ (line : List ℕ) (at : ℕ) (next : List ℕ → Command) (to : ℕ) (e : to ≡ at + 1 + length (first_field space (drop (at + 1) line))) (h : at < length line) where
  -- another field behind it
  pub hex_not_last : to < length line → hex (λ set. end (next set)) (fields_after space line at) ≡ other
  unfolding given
  hex_not_last k = here space read_hex line at (λ set. end (next set)) to e h ∙ by_set (read_hex (take (to - (at + 1)) (drop (at + 1) line)))
    where
      by_set : (x : Option (List ℕ)) → given x (λ set. end (next set) (fields_after space line to)) ≡ other
      by_set none = refl
      by_set (some set) = fields_not_ended space line to (next set) k

  pub hex_last : length line ≤ to → hex (λ set. end (next set)) (fields_after space line at) ≡ given (read_hex (drop (at + 1) line)) next
  unfolding given
  hex_last k =
      here space read_hex line at (λ set. end (next set)) to e h
      ∙ ap (λ (f : List ℕ). given (read_hex f) (λ set. end (next set) (fields_after space line to))) (take_all (to - (at + 1)) (drop (at + 1) line) (omega (arith, length-drop (at + 1) line)))
      ∙ by_set (read_hex (drop (at + 1) line))
    where
      by_set : (x : Option (List ℕ)) → given x (λ set. end (next set) (fields_after space line to)) ≡ given x next
      by_set none = refl
      by_set (some set) = fields_ended space line to (next set) k
