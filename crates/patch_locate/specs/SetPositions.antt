-- Loops over the fields of a set: what is left answers as the whole does; places and the end.
use Prim.Native.Nat.{ℕ, suc, ◌+◌, ◌-◌, ◌≤◌, ◌<◌}
use Rattle.std.specs.Prelude.{◌≡◌, refl, Result, Ok, Err, Bool, true, false, eqb, length, if◌then◌else◌}
use Rattle.std.proofs.Common.{sym, ◌∙◌, le-leb, lt-ltb, le-ltb, eq-eqb, ne_eqb, length-append, drop_of_length-le, drop-cons}
use Rattle.std.proofs.Math.Path.{ap}
use mathlib.Core.List.{List, [], ◌∷◌}
use native.Mathlib.Omega.{arith}
use Rattle.std.proofs.lemmas.Bool.{lt-leb}
use Rattle.std.proofs.Math.ListN.{get_or, drop}
use Rattle.spec_patch.specs.Sizes.{set_bytes}
use Rattle.spec_patch.specs.Edition.{Edition}
use Rattle.spec_patch.specs.Reader.{Fault, read, refused, byte}
use Rattle.spec_patch.specs.Read.{read_u32}
use Rattle.spec_explain.specs.ReadingRule as model
use Rattle.spec_explain.specs.ReadingRule.{wrong_heading}
use Rattle.spec_explain.specs.Locate as locating
use Rattle.spec_explain.specs.Locate.{Locator, stop_at, ◌⨟◌, field_then, repeated, counted, placed_stop, locate_patch, locate_letters, locate_patches, at_end, stop_of, from_start, locate}
use Rattle.spec_explain.proofs.SteadyLaws.{Steady, steady_within}
use Rattle.spec_explain.proofs.SteadySetLaws.{steady_operation, steady_patches}
use Rattle.patch_locate.specs.Answers.{rule_to, reading_rule_of, inside_to, inside_of, stop_outside, located_answer, place_in, within_to, end_to, located_set}
use Rattle.patch_locate.specs.Fields.{operation_in, patch_fields}
use Rattle.patch_locate.specs.Positions.{stop_anywhere, stop_here, tag_lacking, tag_there}
use Rattle.patch_locate.specs.declared.rules.ReadingRule.{ReadingRule}
use Rattle.patch_locate.specs.declared.rules.ReadingRule.TheVariants as rules
use Rattle.patch_locate.specs.declared.rules.Inside.{Inside}
use Rattle.patch_locate.specs.declared.rules.Stop.{Stop}
use Rattle.patch_locate.specs.declared.rules.Inside.TheVariants as insides

-- ---- so many times

module _ (l : ℕ → Locator) (count j : ℕ) (bs : List ℕ) where
  pub repeated_turn : j < count → repeated l j (count - j) bs ≡ (l j ⨟ repeated l (j + 1) (count - (j + 1))) bs
  unfolding repeated
  repeated_turn h =
      let left : count - j ≡ suc (count - (j + 1)) = omega arith in
      let next : suc j ≡ j + 1 = omega arith in
      ap (λ (m : ℕ). repeated l j m bs) left ∙ ap (λ (k : ℕ). (l j ⨟ repeated l k (count - (j + 1))) bs) next

  pub repeated_end : count ≤ j → repeated l j (count - j) bs ≡ locating.past bs
  unfolding repeated
  repeated_end h = let none_left : count - j ≡ 0 = omega arith in ap (λ (m : ℕ). repeated l j m bs) none_left

pub repeated_start : (l : ℕ → Locator) (count : ℕ) (bs : List ℕ) → repeated l 0 (count - 0) bs ≡ repeated l 0 count bs
repeated_start l count bs = let all : count - 0 ≡ count = omega arith in ap (λ (m : ℕ). repeated l 0 m bs) all

-- ---- a count

module _ (part : List ℕ) (at : ℕ) (rule : ReadingRule) (capacity : ℕ) (l : ℕ → Locator) where
  pub count_lacking : {f : Fault} → read_u32 (drop at part) ≡ refused f → Err (stop_outside rules.TooFewBytes (length part - (length part - at))) ≡ located_answer (length part) (counted (reading_rule_of rule) capacity l (drop at part))
  count_lacking e = rw e (stop_anywhere part at rules.TooFewBytes)

  pub count_fits : (n : ℕ) → read_u32 (drop at part) ≡ read n (drop (at + 4) part) → n ≤ capacity → located_answer (length part) (repeated l 0 n (drop (at + 4) part)) ≡ located_answer (length part) (counted (reading_rule_of rule) capacity l (drop at part))
  count_fits n e h = rw (e, le-leb n capacity h)

  pub count_over : (n : ℕ) → read_u32 (drop at part) ≡ read n (drop (at + 4) part) → at ≤ length part → capacity < n → Err (stop_outside rule at) ≡ located_answer (length part) (counted (reading_rule_of rule) capacity l (drop at part))
  count_over n e room h = rw (e, lt-leb n capacity h) (stop_here part at rule room)

-- ---- places

pub within_is : (n : ℕ) (here : Inside) (x : locating.Located) → within_to here (located_answer n x) ≡ located_answer n (placed_stop (inside_of here) x)
within_is n here (locating.past rest) = refl
within_is n here (locating.stop s) = ap (λ (i : Inside). Err (record { rule = rule_to s.rule; inside = i; at = n - s.left })) (by_place s.inside here)
  where
    by_place : (i : model.Inside) (here : Inside) → place_in here (inside_to i) ≡ inside_to (locating.placed (inside_of here) i)
    by_place model.outside insides.Outside = refl
    by_place model.outside (insides.Patch i) = refl
    by_place model.outside (insides.Operation i j) = refl
    by_place (model.in_patch i) here = refl
    by_place (model.in_operation i j) here = refl

pub steady_operation_in : (ed : Edition) (i j : ℕ) → Steady (operation_in ed i j)
unfolding operation_in
steady_operation_in ed i j = steady_within _ (steady_operation ed)

-- a patch is its fields, in their place
pub patch_located : (ed : Edition) (i : ℕ) (bs : List ℕ) → placed_stop (model.in_patch i) (patch_fields ed i bs) ≡ locate_patch ed i bs
unfolding locate_patch patch_fields operation_in
patch_located ed i bs = refl

-- ---- the letters of the heading

module _ (set ls : List ℕ) (i : ℕ) (h : i < length ls) where
  letters_cons : (bs : List ℕ) → locate_letters (drop i ls) bs ≡ field_then byte (λ b rest. if eqb b (get_or ls i 0) then locate_letters (drop (i + 1) ls) rest else stop_at wrong_heading bs) bs
  unfolding locate_letters
  letters_cons bs =
      let next : suc i ≡ i + 1 = omega arith in
      ap (λ (l : List ℕ). locate_letters l bs) (drop-cons ls i 0 h ∙ ap (λ (k : ℕ). get_or ls i 0 ∷ drop k ls) next)

  pub letter_lacking : length set ≤ i → Err (stop_outside rules.TooFewBytes (length set - (length set - i))) ≡ located_answer (length set) (locate_letters (drop i ls) (drop i set))
  letter_lacking k = tag_lacking set i _ k ∙ ap (located_answer (length set)) (sym (letters_cons (drop i set)))

  module _ (k : i < length set) where
    pub letter_same : get_or set i 0 ≡ get_or ls i 0 → located_answer (length set) (locate_letters (drop (i + 1) ls) (drop (i + 1) set)) ≡ located_answer (length set) (locate_letters (drop i ls) (drop i set))
    letter_same e =
        ap (located_answer (length set)) (sym (chosen (eqb (get_or set i 0) (get_or ls i 0)) (eq-eqb (get_or set i 0) (get_or ls i 0) e)))
        ∙ tag_there set i (λ b rest. if eqb b (get_or ls i 0) then locate_letters (drop (i + 1) ls) rest else stop_at wrong_heading (drop i set)) k (get_or set i 0) refl
        ∙ ap (located_answer (length set)) (sym (letters_cons (drop i set)))
      where
        chosen : (t : Bool) → t ≡ true → (if t then locate_letters (drop (i + 1) ls) (drop (i + 1) set) else stop_at wrong_heading (drop i set)) ≡ locate_letters (drop (i + 1) ls) (drop (i + 1) set)
        chosen t e = rw e

    pub letter_differs : (get_or set i 0 ≡ get_or ls i 0 → ⊥) → Err (stop_outside rules.WrongHeading i) ≡ located_answer (length set) (locate_letters (drop i ls) (drop i set))
    letter_differs e =
        stop_here set i rules.WrongHeading (omega arith)
        ∙ ap (located_answer (length set)) (sym (chosen (eqb (get_or set i 0) (get_or ls i 0)) (ne_eqb (get_or set i 0) (get_or ls i 0) e)))
        ∙ tag_there set i (λ b rest. if eqb b (get_or ls i 0) then locate_letters (drop (i + 1) ls) rest else stop_at wrong_heading (drop i set)) k (get_or set i 0) refl
        ∙ ap (located_answer (length set)) (sym (letters_cons (drop i set)))
      where
        chosen : (t : Bool) → t ≡ false → (if t then locate_letters (drop (i + 1) ls) (drop (i + 1) set) else stop_at wrong_heading (drop i set)) ≡ stop_at wrong_heading (drop i set)
        chosen t e = rw e

pub letters_end : (ls : List ℕ) (i : ℕ) → length ls ≤ i → (bs : List ℕ) → locate_letters (drop i ls) bs ≡ locating.past bs
unfolding locate_letters
letters_end ls i h bs = rw (drop_of_length-le ls h)

-- ---- the end

pub set_end_is : (ed : Edition) (set : List ℕ) → length set ≤ set_bytes → end_to (length set) (located_answer (length set) (locate_patches ed set)) ≡ located_set (locate ed set)
unfolding locate stop_of at_end
set_end_is ed set h = rw (le-leb (length set) set_bytes h) (by_way (locate_patches ed set) refl)
  where
    by_way : (x : locating.Located) → locate_patches ed set ≡ x → end_to (length set) (located_answer (length set) x) ≡ located_set (from_start set (at_end x))
    by_way (locating.past []) is =
        let same : length set - 0 ≡ length set = omega arith in
        ap (λ (t : Bool). if t then Err (stop_outside rules.BytesLeft (length set - 0)) else Ok tt) (le-ltb (length set - 0) (length set) (omega arith))
    by_way (locating.past (b ∷ rest)) is =
        let p = (steady_patches ed).passes set (b ∷ rest) is in
        let long : length set ≡ length p.taken + length (b ∷ rest) = ap length p.parts ∙ length-append p.taken (b ∷ rest) in
        ap (λ (t : Bool). if t then Err (stop_outside rules.BytesLeft (length set - length (b ∷ rest))) else Ok tt) (lt-ltb (length set - length (b ∷ rest)) (length set) (omega (arith, long)))
    by_way (locating.stop s) is = refl

pub set_too_long_lem : (ed : Edition) (set : List ℕ) → set_bytes < length set → Err (stop_outside rules.SetTooLong 0) ≡ located_set (locate ed set)
unfolding locate stop_of
set_too_long_lem ed set h =
    let start : 0 ≡ length set - length set = omega arith in
    rw (lt-leb (length set) set_bytes h) (ap (λ (k : ℕ). Err (stop_outside rules.SetTooLong k)) start)

-- ---- answers taken apart

-- a stop of this rule, at this place
abbrev pub stopped : ReadingRule → Inside → ℕ → Stop
stopped r i p = record { rule = r; inside = i; at = p }

module _ (here : Inside) (x : Result ℕ Stop) where
  pub within_past : (n : ℕ) → x ≡ Ok n → Ok n ≡ within_to here x
  within_past n e = sym (ap (within_to here) e)

  module _ (r : ReadingRule) (i : Inside) (p : ℕ) (e : x ≡ Err (stopped r i p)) where
    pub within_outside : i ≡ insides.Outside → Err (stopped r here p) ≡ within_to here x
    within_outside q = sym (ap (within_to here) (e ∙ ap (λ (k : Inside). Err (stopped r k p)) q))

    pub within_patch : (a : ℕ) → i ≡ insides.Patch a → Err (stopped r (insides.Patch a) p) ≡ within_to here x
    within_patch a q = sym (ap (within_to here) (e ∙ ap (λ (k : Inside). Err (stopped r k p)) q))

    pub within_operation : (a b : ℕ) → i ≡ insides.Operation a b → Err (stopped r (insides.Operation a b) p) ≡ within_to here x
    within_operation a b q = sym (ap (within_to here) (e ∙ ap (λ (k : Inside). Err (stopped r k p)) q))

module _ (n : ℕ) (x : Result ℕ Stop) where
  pub end_left : (at : ℕ) → x ≡ Ok at → at < n → Err (stop_outside rules.BytesLeft at) ≡ end_to n x
  end_left at e h = sym (ap (end_to n) e ∙ ap (λ (t : Bool). if t then Err (stop_outside rules.BytesLeft at) else Ok tt) (lt-ltb at n h))

  pub end_read : (at : ℕ) → x ≡ Ok at → n ≤ at → Ok tt ≡ end_to n x
  end_read at e h = sym (ap (end_to n) e ∙ ap (λ (t : Bool). if t then Err (stop_outside rules.BytesLeft at) else Ok tt) (le-ltb at n h))

  pub end_stop : (s : Stop) → x ≡ Err s → Err s ≡ end_to n x
  end_stop s e = sym (ap (end_to n) e)
