-- The byte at which reading stops is the first that stops it.
use Rattle.std.specs.Prelude.{ℕ, ◌+◌, ◌-◌, ◌≤◌, ◌<◌, ◌≡◌, leb, take, drop}
use Rattle.std.proofs.Math.Path.{refl, sym, ap, subst}
use Rattle.std.proofs.Common.{◌∙◌, take-append-drop, take_at, length-take-le}
use mathlib.Core.List.{List, [], ◌∷◌, ◌++◌, append_assoc, append-nil}
use Rattle.std.proofs.Math.Option.{none, some}
use native.Mathlib.Omega.{arith}
use borrow.Author.Tests.{le-leb, leb-true, leb-false}
use Rattle.std.proofs.Math.ListN.{length, length-append}
use Rattle.spec_lists.proofs.ListLaws.{test_cases}
use Rattle.spec_lists.specs.Bytes.{little_endian}
use Rattle.spec_patch.specs.Sizes.{set_bytes}
use Rattle.spec_patch.specs.Edition.{Edition}
use Rattle.spec_patch.specs.Encode.{heading}
use Rattle.spec_explain.specs.ReadingRule.{set_too_long, too_few_bytes, bytes_left, Inside, outside, Unread}
use Rattle.spec_explain.specs.Locate.{Stop, Located, past, stop, locate_letters, locate_patches, at_end, stop_of, from_start, locate}
use Rattle.spec_explain.proofs.SteadyLaws.{stop_further, broken_off, Decided, short, fixed, PassedSteadily, StoppedReading, past_is, stop_is, not_both}
use Rattle.spec_explain.proofs.SteadySetLaws.{steady_patches}
use Rattle.spec_explain.specs.FirstByte.{FieldReached, lacks_field, whole_set, BreaksOff, breaks_off, NoOther, is_read, too_few, same_fault, FirstByte}

some_is : {u v : Unread} → some u ≡ some v → u ≡ v
some_is e = cc

-- the field is missing in the same place and at the same byte
lacking : {i j : Inside} {m n : ℕ} → i ≡ j → m ≡ n → ◌≡◌ {A = Unread} (record { rule = too_few_bytes; inside = i; position = m }) (record { rule = too_few_bytes; inside = j; position = n })
lacking p q = cc

-- a position told in two ways
alike : (s : Stop) {m n : ℕ} {u : Unread} → m ≡ n → some (record { rule = s.rule; inside = s.inside; position = m }) ≡ some u → record { rule = s.rule; inside = s.inside; position = n } ≡ u
alike s p q = ap (λ (k : ℕ). record { rule = s.rule; inside = s.inside; position = k }) (sym p) ∙ some_is q

none_not : {C : Type 0} {u : Unread} → none ≡ some u → C
none_not e = absurd (let z : ◌≡◌ {A = ℕ} 0 1 = cc in omega arith)

module _ (ed : Edition) where
  -- a set within its bytes is read
  located : (set : List ℕ) → length set ≤ set_bytes → locate ed set ≡ from_start set (at_end (locate_patches ed set))
  unfolding locate stop_of
  located set h = rw (le-leb (length set) set_bytes h)

  -- ---- a beginning, by what becomes of it

  -- all of it is passed: so is as much of what it begins
  passed_further : (f g rest : List ℕ) → locate_patches ed f ≡ past rest → locate_patches ed (f ++ g) ≡ past (rest ++ g)
  passed_further f g rest is =
      let p = (steady_patches ed).passes f rest is in
      ap (λ (l : List ℕ). locate_patches ed (l ++ g)) p.parts ∙ ap (locate_patches ed) (append_assoc p.taken rest g) ∙ p.again (rest ++ g)

  -- bytes that are a whole set, or end at a field
  data CutShort (front : List ℕ) : Type 0 where
    all : locate_patches ed front ≡ past [] → CutShort front
    at_field : (s : Stop) → s.rule ≡ too_few_bytes → locate_patches ed front ≡ stop s → CutShort front

  -- what is shorter has too few bytes
  breaks : (f g front : List ℕ) → f ++ g ≡ front → 0 < length g → CutShort front → BreaksOff (from_start f (at_end (locate_patches ed f)))
  unfolding at_end
  breaks f g front whole more cut = by (locate_patches ed f) refl cut
    where
      decide : (s : Stop) → Decided (locate_patches ed) f s → CutShort front → s.rule ≡ too_few_bytes
      decide s (short e) c = e
      decide s (fixed h) (all e) = not_both (sym e ∙ ap (locate_patches ed) (sym whole) ∙ h g)
      decide s (fixed h) (at_field t r e) = ap (λ (u : Stop). u.rule) (stop_is (sym (h g) ∙ ap (locate_patches ed) whole ∙ e)) ∙ r

      by : (x : Located) → locate_patches ed f ≡ x → CutShort front → BreaksOff (from_start f (at_end x))
      by (past rest) is (all e) =
          let none_left : rest ++ g ≡ [] = past_is (sym (passed_further f g rest is) ∙ ap (locate_patches ed) whole ∙ e) in
          absurd (omega (arith, length-append rest g, ap length none_left))
      by (past rest) is (at_field t r e) = not_both (sym (passed_further f g rest is) ∙ ap (locate_patches ed) whole ∙ e)
      by (stop s) is c = breaks_off _ (decide s ((steady_patches ed).stops f s is).decided c)

  -- ---- the set's own fault, seen from any beginning

  seen_from : (f g : List ℕ) (u : Unread) → from_start (f ++ g) (at_end (locate_patches ed (f ++ g))) ≡ some u → NoOther u (from_start f (at_end (locate_patches ed f)))
  unfolding at_end
  seen_from f g u e = by (locate_patches ed f) refl
    where
      the_same : (s : Stop) → at_end (locate_patches ed (f ++ g)) ≡ some (stop_further s (length g)) → NoOther u (from_start f (some s))
      the_same s q =
          let place : length (f ++ g) - (s.left + length g) ≡ length f - s.left = omega (arith, length-append f g) in
          rw (alike s place (ap (from_start (f ++ g)) (sym q) ∙ e)) same_fault

      decide : (s : Stop) → Decided (locate_patches ed) f s → NoOther u (from_start f (some s))
      decide s (short r) = too_few _ r
      decide s (fixed h) = the_same s (ap at_end (h g))

      by : (x : Located) → locate_patches ed f ≡ x → NoOther u (from_start f (at_end x))
      by (past []) is = is_read
      by (past (b ∷ rest)) is =
          let left : Stop = record { rule = bytes_left; inside = outside; left = length (b ∷ rest) } in
          the_same left (ap at_end (passed_further f g (b ∷ rest) is) ∙ ap (λ (n : ℕ). some (record { rule = bytes_left; inside = outside; left = n })) (length-append (b ∷ rest) g))
      by (stop s) is = decide s ((steady_patches ed).stops f s is).decided

  -- ---- the claim

  module _ (set : List ℕ) (fits : length set ≤ set_bytes) where
    -- a beginning of a set within its bytes
    begun : (n : ℕ) → locate ed (take n set) ≡ from_start (take n set) (at_end (locate_patches ed (take n set)))
    begun n = located (take n set) (omega (arith, ap length (take-append-drop n set), length-append (take n set) (drop n set)))

    others_of : (u : Unread) → locate ed set ≡ some u → (n : ℕ) → NoOther u (locate ed (take n set))
    others_of u e n =
        let parts = take-append-drop n set in
        rw (begun n)
        (seen_from (take n set) (drop n set) u (ap (λ (l : List ℕ). from_start l (at_end (locate_patches ed l))) parts ∙ sym (located set fits) ∙ e))

    module _ (front back : List ℕ) (parts : set ≡ front ++ back) where
      front_is : take (length front) set ≡ front
      front_is = ap (take (length front)) parts ∙ take_at front back (length front) refl

      front_fits : length front ≤ set_bytes
      front_fits = omega (arith, ap length parts, length-append front back)

      -- a beginning before the end of the front has too few bytes
      before_of : CutShort front → (n : ℕ) → n < length front → BreaksOff (locate ed (take n set))
      before_of cut n h =
          let f = take n front in
          let g = drop n front in
          let whole : f ++ g ≡ front = take-append-drop n front in
          let long : length f ≡ n = length-take-le n front (omega arith) in
          let same : take n set ≡ f = ap (take n) (parts ∙ ap (λ (l : List ℕ). l ++ back) (sym whole) ∙ append_assoc f g back) ∙ take_at f (g ++ back) n long in
          rw (begun n, same) (breaks f g front whole (omega (arith, ap length whole, length-append f g)) cut)

      first_byte_of : (u : Unread) → locate ed set ≡ some u → u.position ≡ length front → CutShort front → FieldReached u (from_start front (at_end (locate_patches ed front))) → FirstByte ed set u
      first_byte_of u e p cut reached = record {
        within = omega (arith, ap length parts, length-append front back, p);
        reached = subst (FieldReached u) (sym (ap (λ (n : ℕ). locate ed (take n set)) p ∙ ap (locate ed) front_is ∙ located front front_fits)) reached;
        before = λ n h. before_of cut n (omega (arith, p));
        others = λ k n. others_of u e n;
      }

  -- no byte of a set that is too long is read
  too_long : (set : List ℕ) (u : Unread) → set_bytes < length set → record { rule = set_too_long; inside = outside; position = length set - length set } ≡ u → FirstByte ed set u
  unfolding locate stop_of at_end locate_patches heading little_endian locate_letters
  too_long set u long same =
      let start : u.position ≡ 0 = sym (ap (λ (v : Unread). v.position) same) ∙ omega arith in
      record {
        within = omega (arith, start);
        reached = subst (FieldReached u) (ap (λ (v : Unread). some (record { rule = too_few_bytes; inside = v.inside; position = v.position })) (sym same) ∙ ap (λ (n : ℕ). some (record { rule = too_few_bytes; inside = outside; position = n })) (omega arith) ∙ sym (ap (λ (n : ℕ). locate ed (take n set)) start)) lacks_field;
        before = λ n h. absurd (omega (arith, start));
        others = λ k n. absurd (omega arith);
      }

  -- the byte that is named is the first
  pub first_byte : (set : List ℕ) (u : Unread) → locate ed set ≡ some u → FirstByte ed set u
  unfolding locate stop_of at_end
  first_byte set u e = test_cases (leb (length set) set_bytes)
      (λ t. let fits = leb-true (length set) set_bytes t in by_way fits (locate_patches ed set) refl (sym (located set fits) ∙ e))
      (λ t. too_long set u (leb-false (length set) set_bytes t) (some_is (rw t at e)))
    where
      left_over : (fits : length set ≤ set_bytes) (b : ℕ) (rest : List ℕ) → PassedSteadily (locate_patches ed) set (b ∷ rest) → from_start set (some (record { rule = bytes_left; inside = outside; left = length (b ∷ rest) })) ≡ some u → FirstByte ed set u
      left_over fits b rest p q =
          let same = some_is q in
          let whole : locate_patches ed p.taken ≡ past [] = ap (locate_patches ed) (sym (append-nil p.taken)) ∙ p.again [] in
          let place : length set - length (b ∷ rest) ≡ length p.taken = omega (arith, ap length p.parts, length-append p.taken (b ∷ rest)) in
          first_byte_of set fits p.taken (b ∷ rest) p.parts u e (sym (ap (λ (v : Unread). v.position) same) ∙ place) (all whole)
          (rw whole (whole_set (sym (ap (λ (v : Unread). v.rule) same))))

      stopped_at : (fits : length set ≤ set_bytes) (s : Stop) → StoppedReading (locate_patches ed) set s → from_start set (some s) ≡ some u → FirstByte ed set u
      stopped_at fits s p q =
          let same = some_is q in
          let place : length set - s.left ≡ length p.front = omega (arith, ap length p.parts, length-append p.front p.back, p.behind) in
          let named : u.position ≡ length p.front = sym (ap (λ (v : Unread). v.position) same) ∙ place in
          let left : length p.front - 0 ≡ length p.front = omega arith in
          first_byte_of set fits p.front p.back p.parts u e named (at_field (broken_off s.inside) refl p.ends)
          (rw p.ends (subst (λ (v : Unread). FieldReached u (some v)) (lacking (ap (λ (v : Unread). v.inside) (sym same)) (named ∙ sym left)) lacks_field))

      by_way : (fits : length set ≤ set_bytes) (x : Located) → locate_patches ed set ≡ x → from_start set (at_end x) ≡ some u → FirstByte ed set u
      by_way fits (past []) is q = none_not q
      by_way fits (past (b ∷ rest)) is q = left_over fits b rest ((steady_patches ed).passes set (b ∷ rest) is) q
      by_way fits (stop s) is q = stopped_at fits s ((steady_patches ed).stops set s is) q
