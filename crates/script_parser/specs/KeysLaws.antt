-- The keys of a page, read field by field.
use Prim.Native.Nat.{ℕ, suc, ◌+◌, ◌-◌, ◌≤◌, ◌<◌}
use Rattle.std.specs.Prelude.{◌≡◌, refl, List, [], ◌∷◌, ◌++◌, length, take, set, Option, Some, None}
use Rattle.std.proofs.Math.Path.{sym, ap}
use Rattle.std.proofs.Common.{◌∙◌, append_assoc, append-nil, add-one, length-set, take-suc-set}
use native.Mathlib.Omega.{arith}
use Rattle.spec_replay.specs.Lines.{space}
use Rattle.spec_replay.specs.Script.{Command, page, other, Arguments, number_field, read_by, at_most, up_to_end, places_of_page, line_keys, page_arguments}
use Rattle.script_parser.specs.Fields.{fields_after, numbers, filled, number_then, NumberAfter}
use Rattle.script_parser.specs.FieldsLaws.{none_after, one_after}
use Rattle.script_parser.specs.Forms.{number_in, up_to}
use Rattle.script_parser.specs.FormsLaws.{number_first}
use Rattle.script_parser.specs.Keys.{page_then}
use Rattle.script_parser.specs.declared.keys.PageFields.{PageFields}

-- ---- before the keys

-- what follows the collection and the room
abbrev pub keys_behind_room : List ℕ → Arguments
keys_behind_room ns fs = up_to places_of_page (number_in ns 1) (λ room. up_to_end line_keys (page (number_in ns 0) room) fs)

-- two numbers, the second of which is tested
pub page_numbers : (fs : List (List ℕ)) → page_arguments fs ≡ numbers 2 (λ ns. keys_behind_room (filled 2 ns)) fs
unfolding page_arguments at_most
page_numbers fs = λ i. number_field (λ c gs. number_first (at_most places_of_page) refl (λ room. up_to_end line_keys (page c room)) gs i) fs

-- ---- the keys so far

-- the keys of the first fields stand in the first places, and the rest of the fields is read behind them
pub record KeyedLine (line : List ℕ) (end : ℕ) (keys : List ℕ) (count from : ℕ) : Type 0 where
  pub places : length keys ≡ line_keys
  pub few : count ≤ line_keys
  pub same : (next : List ℕ → Command) → up_to_end line_keys next (fields_after space line end) ≡ up_to_end (line_keys - count) (λ ks. next (take count keys ++ ks)) (fields_after space line from)

pub keyed_start : (line : List ℕ) (end : ℕ) (keys : List ℕ) → length keys ≡ line_keys → KeyedLine line end keys 0 end
keyed_start line end keys many = record { places = many; few = omega arith; same = λ next. refl }

module _ {line : List ℕ} {end : ℕ} {keys : List ℕ} {count from : ℕ} (k : KeyedLine line end keys count from) where
  -- no field is left
  pub keyed_end : length line ≤ from → (next : List ℕ → Command) → up_to_end line_keys next (fields_after space line end) ≡ next (take count keys)
  unfolding up_to_end
  keyed_end h next =
      k.same next
      ∙ ap (up_to_end (line_keys - count) (λ ks. next (take count keys ++ ks))) (none_after space line from h)
      ∙ ap next (append-nil (take count keys))

  module _ (inside : from < length line) where
    -- one field too many
    pub keyed_many : line_keys ≤ count → (next : List ℕ → Command) → up_to_end line_keys next (fields_after space line end) ≡ other
    unfolding up_to_end
    keyed_many full next =
        let no_more : line_keys - count ≡ 0 = omega arith in
        k.same next
        ∙ ap (λ (n : ℕ). up_to_end n (λ ks. next (take count keys ++ ks)) (fields_after space line from)) no_more
        ∙ ap (up_to_end 0 (λ ks. next (take count keys ++ ks))) (one_after space line from inside)

    module _ (room : count < line_keys) (r : Option (ℕ × ℕ)) (told : NumberAfter space line from r) where
      -- the field is read, and the rest behind it
      onward : (next : List ℕ → Command) → up_to_end line_keys next (fields_after space line end)
          ≡ number_then space line r (λ n. up_to_end (line_keys - (count + 1)) (λ ks. next (take count keys ++ (n ∷ ks))))
      unfolding up_to_end read_by
      onward next =
          let left : line_keys - count ≡ suc (line_keys - (count + 1)) = omega arith in
          let goes : ℕ → Arguments = λ n. up_to_end (line_keys - (count + 1)) (λ ks. next (take count keys ++ (n ∷ ks))) in
          k.same next
          ∙ ap (λ (n : ℕ). up_to_end n (λ ks. next (take count keys ++ ks)) (fields_after space line from)) left
          ∙ ap (up_to_end (suc (line_keys - (count + 1))) (λ ks. next (take count keys ++ ks))) (one_after space line from inside)
          ∙ sym (ap (number_field goes) (one_after space line from inside))
          ∙ told goes

      pub keyed_off : r ≡ None → (next : List ℕ → Command) → up_to_end line_keys next (fields_after space line end) ≡ other
      keyed_off is next = onward next ∙ ap (λ (x : Option (ℕ × ℕ)). number_then space line x (λ n. up_to_end (line_keys - (count + 1)) (λ ks. next (take count keys ++ (n ∷ ks))))) is

      pub keyed_turn : (n to : ℕ) → r ≡ Some (n, to) → KeyedLine line end (set keys count n) (count + 1) to
      keyed_turn n to is =
          let kept : take (count + 1) (set keys count n) ≡ take count keys ++ (n ∷ []) =
          ap (λ (m : ℕ). take m (set keys count n)) (add-one count) ∙ take-suc-set keys count n (omega (arith, k.places)) in
          record {
            places = length-set keys count n ∙ k.places;
            few = omega arith;
            same = λ next.
                onward next
                ∙ ap (λ (x : Option (ℕ × ℕ)). number_then space line x (λ m. up_to_end (line_keys - (count + 1)) (λ ks. next (take count keys ++ (m ∷ ks))))) is
                ∙ (λ i. up_to_end (line_keys - (count + 1)) (λ ks. next (moved kept ks i)) (fields_after space line to));
          }
        where
          moved : take (count + 1) (set keys count n) ≡ take count keys ++ (n ∷ []) → (ks : List ℕ) → take count keys ++ (n ∷ ks) ≡ take (count + 1) (set keys count n) ++ ks
          moved kept ks = sym (ap (λ (l : List ℕ). l ++ ks) kept ∙ append_assoc (take count keys) (n ∷ []) ks)

-- ---- a line that is no page

pub no_page_then : (r : Option PageFields) → r ≡ None → page_then r ≡ other
no_page_then r e = ap page_then e
