-- What is left to write: nothing changes for a row of the other list, and a row of this one is written behind the others.
use Rattle.std.specs.Prelude.{ℕ, suc, ◌+◌, ◌*◌, ◌≤◌, ◌≡◌, refl, Bool, true, false, set}
use Rattle.std.proofs.Math.Path.{sym, ap, ap₂}
use Rattle.std.proofs.Common.{◌∙◌, length-append, take-append-drop, length-take-le}
use Rattle.std.specs.Bool.{beq}
use mathlib.Core.List.{List, [], ◌∷◌, ◌++◌, append_assoc, flat_map}
use native.Mathlib.Omega.{arith}
use Rattle.std.proofs.Math.ListN.{length, take, drop}
use Rattle.std.proofs.Math.Seq.{take_at, drop_at, drop-drop}
use Rattle.std.proofs.lemmas.List.Edits.{sets-eq}
use Rattle.spec_dependencies.specs.Settled.{Settled}
use Rattle.spec_dependencies.specs.Dependencies.{key_words, keys_at_start}
use Rattle.spec_dependencies.specs.Answer.{pair_length, all_words, words_written}
use Rattle.set_dependencies.specs.WrittenKeys.{KeysLeft}

pub keys_left_start : (b : Bool) (t : List Settled) (out : List ℕ) → KeysLeft b t 0 out (length (keys_at_start b t)) (words_written (all_words (keys_at_start b t)) out)
keys_left_start b t out = record { counted = omega arith; words = refl }

-- two numbers over two others
module _ (out : List ℕ) (at c k : ℕ) (room : at + 2 ≤ length out) where
  abbrev front : List ℕ
  front = take at out ++ (c ∷ k ∷ [])

  both_set : set (set out at c) (at + 1) k ≡ front ++ drop (at + 2) out
  both_set =
      let next : at + 1 ≡ suc at = omega arith in
      ap (λ (n : ℕ). set (set out at c) n k) next ∙ sets-eq (c ∷ k ∷ []) out at room

  front_long : length front ≡ at + 2
  front_long = length-append (take at out) (c ∷ k ∷ []) ∙ omega (arith, length-take-le at out (omega arith))

  pair_written : (words : List ℕ)
      → take (at + 2) (set (set out at c) (at + 1) k) ++ words_written words (drop (at + 2) (set (set out at c) (at + 1) k)) ≡ take at out ++ words_written (c ∷ k ∷ words) (drop at out)
  unfolding words_written
  pair_written words =
      let sum : at + 2 + length words ≡ at + length (c ∷ k ∷ words) = omega arith in
      let behind : drop (length words) (drop (at + 2) out) ≡ drop (length (c ∷ k ∷ words)) (drop at out) =
      drop-drop (length words) (at + 2) out ∙ ap (λ (n : ℕ). drop n out) sum ∙ sym (drop-drop (length (c ∷ k ∷ words)) at out) in
      ap₂ (λ (x y : List ℕ). x ++ (words ++ drop (length words) y)) (ap (take (at + 2)) both_set ∙ take_at front (drop (at + 2) out) (at + 2) front_long) (ap (drop (at + 2)) both_set ∙ drop_at front (drop (at + 2) out) (at + 2) front_long)
      ∙ append_assoc (take at out) (c ∷ k ∷ []) (words ++ drop (length words) (drop (at + 2) out))
      ∙ ap (λ (l : List ℕ). take at out ++ (c ∷ k ∷ (words ++ l))) behind

module _ (b : Bool) (s : Settled) (t : List Settled) (n : ℕ) (out : List ℕ) (total : ℕ) (whole : List ℕ) (h : KeysLeft b (s ∷ t) n out total whole) where
  -- a row of the other list
  pub keys_left_other : beq s.at_start b ≡ false → KeysLeft b t n out total whole
  unfolding keys_at_start
  keys_left_other f = record { counted = rw f at h.counted; words = rw f at h.words }

  module _ (f : beq s.at_start b ≡ true) where
    counted_own : n + suc (length (keys_at_start b t)) ≡ total
    unfolding keys_at_start
    counted_own = rw f at h.counted

    words_own : take (pair_length * n) out ++ words_written (s.collection ∷ s.key ∷ all_words (keys_at_start b t)) (drop (pair_length * n) out) ≡ whole
    unfolding keys_at_start all_words flat_map key_words
    words_own = rw f at h.words

    -- a row of this list has room
    pub keys_left_room : pair_length * total ≤ length out → pair_length * n + 2 ≤ length out
    keys_left_room few = omega (arith, counted_own)

    pub keys_left_own : pair_length * n + 2 ≤ length out → KeysLeft b t (n + 1) (set (set out (pair_length * n) s.collection) (pair_length * n + 1) s.key) total whole
    keys_left_own room =
        let more : pair_length * (n + 1) ≡ pair_length * n + 2 = omega arith in
        let next = set (set out (pair_length * n) s.collection) (pair_length * n + 1) s.key in
        record {
          counted = omega (arith, counted_own);
          words =
              ap (λ (m : ℕ). take m next ++ words_written (all_words (keys_at_start b t)) (drop m next)) more
              ∙ pair_written out (pair_length * n) s.collection s.key room (all_words (keys_at_start b t)) ∙ words_own;
        }

-- no rows are left
pub keys_left_none : (b : Bool) (n : ℕ) (out : List ℕ) (total : ℕ) (whole : List ℕ) → KeysLeft b [] n out total whole → (n ≡ total) × (out ≡ whole)
unfolding keys_at_start all_words flat_map words_written
keys_left_none b n out total whole h = (omega (arith, h.counted), sym (take-append-drop (pair_length * n) out) ∙ h.words)
