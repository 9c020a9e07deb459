-- The forms are the arguments of spec_replay's tables.
use Rattle.std.specs.Prelude.{ℕ, zero, suc, ◌+◌, ◌%◌, ◌≤◌, ◌<◌, ◌≡◌, Bool, true, false, not, ◌&&◌, eqb, get_or, if◌then◌else◌}
use Rattle.std.proofs.Math.Path.{refl}
use Rattle.std.proofs.Common.{sym, ap, subst, ◌∙◌, arith}
use mathlib.Core.List.{List, [], ◌∷◌}
use Rattle.std.proofs.Math.Option.{Option, none, some}
use Rattle.std.proofs.Math.Dec.{leb}
use borrow.Author.Tests.{eqb-true, eqb-false, leb-true, le-leb, lt-leb, eq-eqb, ne_eqb}
use Rattle.spec_lists.specs.Lists.{any}
use Rattle.spec_patch.specs.Sizes.{set_bytes}
use Rattle.spec_patch.specs.Edition.{Edition}
use Rattle.spec_lists.proofs.ListLaws.{and_left, and_right, test_cases}
use Rattle.spec_decimal.specs.Decimal.{read_decimal}
use Rattle.spec_replay.specs.Hex.{read_hex}
use Rattle.spec_replay.specs.Script.{Command, other, apply, Arguments, end, given, read_by, number_field, at_most, slot, numbered_edition, hex, stimuli, session_arguments, binding_arguments, batch_arguments, convert_arguments, depends_arguments, places_lent, print_arguments, bytes_lent, room_up_to, group_arguments, page_arguments, import_arguments, bound_arguments, keyed_arguments, values, marks, commands}
use Rattle.script_parser.specs.Fields.{most_numbers}
use Rattle.script_parser.specs.Words.{word_row_at}
use Rattle.script_parser.specs.Forms.{form_arguments, up_to, no_form, stimulus_base, value_base, mark_base, first_base, first_words, form_count, form_at, group_form, page_form, import_form, asked_by, shape_of, shapes_from}

-- no form takes no fields
pub none_form : (fs : List (List ℕ)) → other ≡ form_arguments no_form fs
unfolding end
none_form [] = refl
none_form (f ∷ fs) = refl

-- ---- a number that is tested: reading it and testing it when the whole line was read is the same

module _ {A : Type 0} (test : Option ℕ → Option A) (no_number : test none ≡ none) where
  pub number_first : (next : A → Arguments) (fs : List (List ℕ)) → read_by (λ f. test (read_decimal f)) next fs ≡ number_field (λ n gs. given (test (some n)) (λ a. next a gs)) fs
  unfolding read_by given
  number_first next [] = refl
  number_first next (f ∷ fs) = by_number (read_decimal f)
    where
      by_number : (x : Option ℕ) → given (test x) (λ a. next a fs) ≡ given x (λ n. given (test (some n)) (λ a. next a fs))
      by_number none = rw no_number
      by_number (some n) = refl

  -- the last field
  tested_last : (next : A → Command) (fs : List (List ℕ)) → read_by (λ f. test (read_decimal f)) (λ a. end (next a)) fs ≡ number_field (λ n. end (given (test (some n)) next)) fs
  unfolding given
  tested_last next fs = number_first (λ a. end (next a)) fs ∙ (λ i. number_field (λ n gs. at_end (test (some n)) gs i) fs)
    where
      at_end : (o : Option A) (gs : List (List ℕ)) → given o (λ a. end (next a) gs) ≡ end (given o next) gs
      at_end none gs = none_form gs
      at_end (some a) gs = refl

  -- a last field of another kind behind it
  pub tested_then : {B : Type 0} (read : List ℕ → Option B) (next : A → B → Command) (fs : List (List ℕ))
      → read_by (λ f. test (read_decimal f)) (λ a. read_by read (λ b. end (next a b))) fs ≡ number_field (λ n. read_by read (λ b. end (given (test (some n)) (λ a. next a b)))) fs
  unfolding given read_by
  tested_then {B} read next fs = number_first (λ a. read_by read (λ b. end (next a b))) fs ∙ (λ i. number_field (λ n gs. at_last (test (some n)) gs i) fs)
    where
      no_last : (x : Option B) (gs : List (List ℕ)) → other ≡ given x (λ b. end other gs)
      no_last none gs = refl
      no_last (some b) gs = none_form gs

      at_last : (o : Option A) (gs : List (List ℕ)) → given o (λ a. read_by read (λ b. end (next a b)) gs) ≡ read_by read (λ b. end (given o (λ a. next a b))) gs
      at_last none [] = refl
      at_last none (g ∷ gs) = no_last (read g) gs
      at_last (some a) gs = refl

-- a number, and one up to a bound behind it
number_and_bounded : (bound : ℕ) (next : ℕ → ℕ → Command) (fs : List (List ℕ)) → number_field (λ n. room_up_to bound (λ s. end (next n s))) fs ≡ number_field (λ n. number_field (λ s. end (up_to bound s (next n)))) fs
unfolding at_most
number_and_bounded bound next fs = λ i. number_field (λ n gs. tested_last (at_most bound) refl (next n) gs i) fs

number_and_slot : (next : ℕ → ℕ → Command) (fs : List (List ℕ)) → number_field (λ n. slot (λ s. end (next n s))) fs ≡ number_field (λ n. number_field (λ s. end (up_to 4294967295 s (next n)))) fs
number_and_slot = number_and_bounded 4294967295

-- ---- the tables

-- a property of each number from one on
abbrev EachFrom : (ℕ → Type 0) → ℕ → ℕ → Type 0
EachFrom P from zero = Unit {0}
EachFrom P from (suc n) = P from × EachFrom P (suc from) n

infixr 20 ◌also◌
abbrev ◌also◌ : {A B : Type 0} → A → B → A × B
a also b = (a, b)

pick : (P : ℕ → Type 0) (from n : ℕ) → EachFrom P from n → (k : ℕ) → from ≤ k → k < from + n → P k
pick P from zero all k h m = absurd (omega arith)
pick P from (suc n) all k h m =
    test_cases (eqb k from) (λ t. subst P (sym (eqb-true k from t)) all.0)
    (λ t. let other-one : k ≡ from → ⊥ = eqb-false k from t in pick P (suc from) n all.1 k (omega arith) (omega arith))

-- the first words of the second tables
abbrev pub apply_word : ℕ
apply_word = 5

abbrev pub value_word : ℕ
value_word = 10

abbrev pub mark_word : ℕ
mark_word = 16

-- the row of a first word is its form, if no second word follows
abbrev FirstRow : ℕ → Type 0
FirstRow k = (k ≡ apply_word → ⊥) → (k ≡ value_word → ⊥) → (k ≡ mark_word → ⊥) → (fs : List (List ℕ)) → word_row_at (λ a. a) commands k fs ≡ asked_by (first_base + k) fs

pub first_form : (k : ℕ) → k ≤ first_words → FirstRow k
unfolding commands asked_by form_at at_most numbered_edition session_arguments binding_arguments batch_arguments convert_arguments depends_arguments print_arguments
first_form k h =
    pick FirstRow 0 (first_words + 1)
    ((λ a b c fs. refl)
    also (λ a b c fs. refl)
    also (λ a b c fs. number_and_slot _ fs)
    also (λ a b c fs. refl)
    also (λ a b c fs. refl)
    also (λ a b c fs. absurd (a refl))
    also (λ a b c fs. refl)
    also (λ a b c fs. refl)
    also (λ a b c fs. refl)
    also (λ a b c fs. refl)
    also (λ a b c fs. absurd (b refl))
    also (λ a b c fs. refl)
    also (λ a b c fs. refl)
    also (λ a b c fs. refl)
    also (λ a b c fs. tested_last numbered_edition refl _ fs)
    also (λ a b c fs. tested_then (at_most set_bytes) refl read_hex _ fs)
    also (λ a b c fs. absurd (c refl))
    also (λ a b c fs. tested_then (at_most places_lent) refl read_hex _ fs)
    also (λ a b c fs. number_and_bounded bytes_lent _ fs)
    also (λ a b c fs. refl)
    also (λ a b c fs. refl)
    also (λ a b c fs. refl)
    also (λ a b c fs. refl)
    also (λ a b c fs. refl)
    also (λ a b c fs. none_form fs)
    also tt)
    k (omega arith) (omega arith)

pub stimulus_form : (j : ℕ) → j ≤ 5 → (fs : List (List ℕ)) → word_row_at (λ s. number_field (λ n. end (apply s n))) stimuli j fs ≡ asked_by (stimulus_base + j) fs
unfolding stimuli asked_by form_at
stimulus_form zero h fs = refl
stimulus_form (suc zero) h fs = refl
stimulus_form (suc (suc zero)) h fs = refl
stimulus_form (suc (suc (suc zero))) h fs = refl
stimulus_form (suc (suc (suc (suc zero)))) h fs = refl
stimulus_form (suc (suc (suc (suc (suc zero))))) h fs = none_form fs
stimulus_form (suc (suc (suc (suc (suc (suc j)))))) h fs = absurd (omega arith)

pub value_form : (j : ℕ) → j ≤ 3 → (fs : List (List ℕ)) → word_row_at (λ a. a) values j fs ≡ asked_by (value_base + j) fs
unfolding values asked_by form_at bound_arguments keyed_arguments
value_form zero h fs = number_and_slot _ fs
value_form (suc zero) h fs = refl
value_form (suc (suc zero)) h fs = refl
value_form (suc (suc (suc zero))) h fs = none_form fs
value_form (suc (suc (suc (suc j)))) h fs = absurd (omega arith)

pub mark_form : (j : ℕ) → j ≤ 3 → (fs : List (List ℕ)) → word_row_at (λ a. a) marks j fs ≡ asked_by (mark_base + j) fs
unfolding marks asked_by form_at bound_arguments keyed_arguments
mark_form zero h fs = number_and_slot _ fs
mark_form (suc zero) h fs = refl
mark_form (suc (suc zero)) h fs = refl
mark_form (suc (suc (suc zero))) h fs = none_form fs
mark_form (suc (suc (suc (suc j)))) h fs = absurd (omega arith)

-- ---- rules of the table, computed

abbrev below : (ℕ → Bool) → ℕ → Bool
below test zero = true
below test (suc n) = test n && below test n

-- a test that all numbers below a bound pass
rule : (test : ℕ → Bool) (n k : ℕ) → below test n ≡ true → k < n → test k ≡ true
rule test zero k e h = absurd (omega arith)
rule test (suc n) k e h =
    test_cases (eqb k n)
    (λ t. ap test (eqb-true k n t) ∙ and_left (test n) (below test n) e)
    (λ t. let other-one : k ≡ n → ⊥ = eqb-false k n t in rule test n k (and_right (test n) (below test n) e) (omega arith))

abbrev alike : Bool → Bool → Bool
alike true b = b
alike false b = not b

alike_true : (a b : Bool) → alike a b ≡ true → a ≡ b
alike_true true b e = sym e
alike_true false true e = e
alike_true false false e = refl

shape_at : (from n i : ℕ) → i < n → get_or (shapes_from from n) i 0 ≡ shape_of (form_at (i + from))
shape_at from zero i h = absurd (omega arith)
shape_at from (suc n) zero h = let same : from ≡ 0 + from = omega arith in ap (λ (k : ℕ). shape_of (form_at k)) same
shape_at from (suc n) (suc i) h =
    let same : i + suc from ≡ suc i + from = omega arith in
    shape_at (suc from) n i (omega arith) ∙ ap (λ (k : ℕ). shape_of (form_at k)) same

module _ (k : ℕ) (h : k < form_count) where
  own_shape : get_or (shapes_from 0 form_count) k 0 ≡ shape_of (form_at k)
  own_shape = let same : k + 0 ≡ k = omega arith in shape_at 0 form_count k h ∙ ap (λ (n : ℕ). shape_of (form_at n)) same

  few_numbers : (form_at k).count ≤ most_numbers
  unfolding form_at
  few_numbers = leb-true _ _ (rule (λ i. leb (form_at i).count most_numbers) form_count k refl h)

  -- a shape tells how many numbers the form takes, and whether it has a set
  pub counted_forms : (get_or (shapes_from 0 form_count) k 0 % 16 ≡ (form_at k).count) × (get_or (shapes_from 0 form_count) k 0 % 16 ≤ most_numbers)
  counted_forms = rw own_shape (by_set (form_at k).with_set few_numbers)
    where
      by_set : {n : ℕ} (b : Bool) → n ≤ most_numbers → ((n + (if b then 16 else 0)) % 16 ≡ n) × ((n + (if b then 16 else 0)) % 16 ≤ most_numbers)
      by_set true few = (omega arith, omega arith)
      by_set false few = (omega arith, omega arith)

  pub set_forms_lem : leb 16 (get_or (shapes_from 0 form_count) k 0) ≡ (form_at k).with_set
  set_forms_lem = rw own_shape (by_set (form_at k).with_set few_numbers)
    where
      by_set : {n : ℕ} (b : Bool) → n ≤ most_numbers → leb 16 (n + (if b then 16 else 0)) ≡ b
      by_set {n} true few = le-leb 16 (n + 16) (omega arith)
      by_set {n} false few = lt-leb 16 (n + 0) (omega arith)

-- the forms with a set
abbrev pub set_forms : List ℕ
set_forms = 22 ∷ 23 ∷ 24 ∷ 31 ∷ 33 ∷ 39 ∷ []

pub sets_listed : (k : ℕ) → k < form_count → any (eqb k) set_forms ≡ (form_at k).with_set
unfolding form_at
sets_listed k h = alike_true _ _ (rule (λ i. alike (any (eqb i) set_forms) (form_at i).with_set) form_count k refl h)

-- ---- tests of a number

module _ (bound n : ℕ) (next : ℕ → Command) where
  pub fits_bound : n ≤ bound → next n ≡ up_to bound n next
  unfolding at_most given
  fits_bound h = rw (le-leb n bound h)

  pub exceeds_bound : bound < n → other ≡ up_to bound n next
  unfolding at_most given
  exceeds_bound h = rw (lt-leb n bound h)

-- no set makes a command of any other line
pub other_with_set : (x : Option (List ℕ)) → other ≡ given x (λ set. other)
unfolding given
other_with_set none = refl
other_with_set (some set) = refl

pub no_edition : (n : ℕ) (next : Edition → Command) → (n ≡ 1 → ⊥) → (n ≡ 2 → ⊥) → other ≡ given (numbered_edition (some n)) next
unfolding given numbered_edition
no_edition n next h k = rw (ne_eqb n 1 h, ne_eqb n 2 k)

-- ---- by the form

module _ (k : ℕ) (fs : List (List ℕ)) where
  pub group_asked : k ≡ group_form → asked_by k fs ≡ group_arguments fs
  unfolding asked_by
  group_asked e = rw (eq-eqb k group_form e)

  pub page_asked : k ≡ page_form → asked_by k fs ≡ page_arguments fs
  unfolding asked_by
  page_asked e = rw e

  pub import_asked : k ≡ import_form → asked_by k fs ≡ import_arguments fs
  unfolding asked_by
  import_asked e = rw e

  pub counted_asked : (k ≡ group_form → ⊥) → (k ≡ page_form → ⊥) → (k ≡ import_form → ⊥) → asked_by k fs ≡ form_arguments (form_at k) fs
  unfolding asked_by
  counted_asked g p i = rw (ne_eqb k group_form g, ne_eqb k page_form p, ne_eqb k import_form i)
