-- Numbers in a row of fields, read one after the other into an array of zeros.
use Prim.Native.Nat.{ℕ, suc, ◌+◌, ◌-◌, ◌≤◌, ◌<◌}
use mathlib.Core.Path.{◌≡◌, refl, sym, ap, ◌∙◌}
use mathlib.Core.List.{List, [], ◌∷◌, ◌++◌, append_assoc, append-nil}
use native.Mathlib.Omega.{arith}
use lib.ListN.{length, set, replicate, length-append}
use lib.Seq.{set_at}
use Rattle.std.specs.Prelude.{Option, Some, None}
use Rattle.spec_replay.specs.Script.{other, Arguments, number_field}
use Rattle.script_parser.specs.Fields.{fields_after, numbers, most_numbers, filled, number_then, NumberAfter}

-- the first i of count numbers are read, and the last of their fields ends at an index
pub record Reading (separator : ℕ) (line : List ℕ) (from count i : ℕ) (values : List ℕ) (at : ℕ) : Type 0 where
  pub so_far : List ℕ
  pub counted : length so_far ≡ i
  pub few : i ≤ count
  pub held : values ≡ filled i so_far
  pub same : (next : List ℕ → Arguments) → numbers count next (fields_after separator line from) ≡ numbers (count - i) (λ ns. next (so_far ++ ns)) (fields_after separator line at)

pub reading_start : (separator : ℕ) (line : List ℕ) (from count : ℕ) → Reading separator line from count 0 (replicate most_numbers 0) from
reading_start separator line from count =
    let all : count ≡ count - 0 = omega arith in
    record { so_far = []; counted = refl; few = omega arith; held = refl; same = λ next. ap (λ (k : ℕ). numbers k next (fields_after separator line from)) all }

module _ {separator : ℕ} {line : List ℕ} {from count i : ℕ} {values : List ℕ} {at : ℕ} (r : Reading separator line from count i values at) where
  -- reading goes on with the next number
  on : i < count → (next : List ℕ → Arguments)
      → numbers count next (fields_after separator line from) ≡ number_field (λ n. numbers (count - (i + 1)) (λ ns. next (r.so_far ++ (n ∷ ns)))) (fields_after separator line at)
  on h next =
      let left : count - i ≡ suc (count - (i + 1)) = omega arith in
      r.same next ∙ ap (λ (k : ℕ). numbers k (λ ns. next (r.so_far ++ ns)) (fields_after separator line at)) left

  pub reading_turn : i < count → count ≤ most_numbers → (f : Option (ℕ × ℕ)) (n to : ℕ) → NumberAfter separator line at f → f ≡ Some (n, to) → Reading separator line from count (i + 1) (set values i n) to
  reading_turn h few f n to told is =
      let left : most_numbers - i ≡ suc (most_numbers - (i + 1)) = omega arith in
      record {
        so_far = r.so_far ++ (n ∷ []);
        counted = omega (arith, r.counted, length-append r.so_far (n ∷ []));
        few = omega arith;
        held =
            ap (λ (l : List ℕ). set l i n) (r.held ∙ ap (λ (k : ℕ). r.so_far ++ replicate k 0) left)
            ∙ set_at r.so_far 0 (replicate (most_numbers - (i + 1)) 0) n i r.counted
            ∙ sym (append_assoc r.so_far (n ∷ []) (replicate (most_numbers - (i + 1)) 0));
        same = λ next.
            on h next
            ∙ told (λ m. numbers (count - (i + 1)) (λ ns. next (r.so_far ++ (m ∷ ns))))
            ∙ ap (λ (g : Option (ℕ × ℕ)). number_then separator line g (λ m. numbers (count - (i + 1)) (λ ns. next (r.so_far ++ (m ∷ ns))))) is
            ∙ (λ j. numbers (count - (i + 1)) (λ ns. next (sym (append_assoc r.so_far (n ∷ []) ns) j)) (fields_after separator line to));
      }

  pub reading_off : i < count → (f : Option (ℕ × ℕ)) → NumberAfter separator line at f → f ≡ None → (next : List ℕ → Arguments) → numbers count next (fields_after separator line from) ≡ other
  reading_off h f told is next = on h next ∙ told _ ∙ ap (λ (g : Option (ℕ × ℕ)). number_then separator line g (λ m. numbers (count - (i + 1)) (λ ns. next (r.so_far ++ (m ∷ ns))))) is

  pub reading_end : count ≤ i → (next : List ℕ → Arguments) → numbers count (λ ns. next (filled count ns)) (fields_after separator line from) ≡ next values (fields_after separator line at)
  reading_end h next =
      let all : i ≡ count = omega (arith, r.few) in
      let none_left : count - i ≡ 0 = omega arith in
      r.same (λ ns. next (filled count ns))
      ∙ ap (λ (k : ℕ). numbers k (λ ns. next (filled count (r.so_far ++ ns))) (fields_after separator line at)) none_left
      ∙ ap (λ (l : List ℕ). next l (fields_after separator line at)) (ap (filled count) (append-nil r.so_far) ∙ ap (λ (k : ℕ). filled k r.so_far) (sym all) ∙ sym r.held)
