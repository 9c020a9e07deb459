-- An anchor more of a kind is kept, up to as many as a set-up keeps.
use Prim.Native.Nat.{ℕ, zero, suc, ◌+◌, ◌-◌, ◌≤◌, ◌<◌}
use Rattle.std.specs.Prelude.{◌≡◌, refl, length, take}
use Rattle.std.proofs.Math.Path.{sym, ap}
use Rattle.std.proofs.Common.{◌∙◌, ltb-true, ltb-false, take_at}
use mathlib.Core.List.{List, [], ◌∷◌, ◌++◌, append_assoc, map}
use native.Mathlib.Omega.{arith}
use Rattle.std.proofs.Math.Dec.{ltb}
use Rattle.std.proofs.Math.ListN.{set, replicate, length-append}
use Rattle.std.proofs.lemmas.List.{length-replicate}
use Rattle.std.proofs.Math.Seq.{set_at, set_out}
use Rattle.spec_lists.proofs.ListLaws.{test_cases}
use Rattle.spec_replay.specs.Replay.{kept_anchors, keep}
use Rattle.script_calls.specs.SetsUp.{kept_count, Keeps}

module _ {A : Type 0} where
  pub map_set : {B : Type 0} (f : A → B) (l : List A) (n : ℕ) (a : A) → map f (set l n a) ≡ set (map f l) n (f a)
  map_set f [] n a = refl
  map_set f (x ∷ l) zero a = refl
  map_set {B} f (x ∷ l) (suc n) a = ap (λ (m : List B). f x ∷ m) (map_set f l n a)

  module _ (none : A) (array : List A) (count : ℕ) (l : List A) (k : Keeps none array count l) where
    kept_long : length array ≡ kept_anchors
    kept_long = ap length k.is ∙ length-append l (replicate (kept_anchors - count) none) ∙ omega (arith, k.counted, k.few, length-replicate (kept_anchors - count) none)

    -- the first places have the list
    pub kept_front : take count array ≡ l
    kept_front = ap (take count) k.is ∙ take_at l (replicate (kept_anchors - count) none) count (sym k.counted)

    -- the array with one more behind the first count keeps the list with one more
    pub kept_more : (a : A) → Keeps none (set array count a) (kept_count count) (keep l a)
    unfolding kept_count keep
    kept_more a =
        test_cases (ltb count kept_anchors)
        (λ e. rw (ap (λ (n : ℕ). ltb n kept_anchors) (sym k.counted), e) (one_more (ltb-true count kept_anchors e)))
        (λ e. rw (ap (λ (n : ℕ). ltb n kept_anchors) (sym k.counted), e) (as_before (ltb-false count kept_anchors e)))
      where
        one_more : count < kept_anchors → Keeps none (set array count a) (count + 1) (l ++ (a ∷ []))
        one_more h =
            let left : kept_anchors - count ≡ suc (kept_anchors - (count + 1)) = omega arith in
            record {
              counted = omega (arith, k.counted, length-append l (a ∷ []));
              few = omega arith;
              is =
                  ap (λ (m : List A). set m count a) (k.is ∙ ap (λ (n : ℕ). l ++ replicate n none) left)
                  ∙ set_at l none (replicate (kept_anchors - (count + 1)) none) a count (sym k.counted)
                  ∙ sym (append_assoc l (a ∷ []) (replicate (kept_anchors - (count + 1)) none));
            }

        as_before : kept_anchors ≤ count → Keeps none (set array count a) count l
        as_before h = record { counted = k.counted; few = k.few; is = set_out array count a (omega (arith, kept_long)) ∙ k.is }

-- nothing is kept
pub none_kept : {A : Type 0} (none : A) → Keeps none (replicate kept_anchors none) 0 []
none_kept none = record { counted = refl; few = omega arith; is = refl }
