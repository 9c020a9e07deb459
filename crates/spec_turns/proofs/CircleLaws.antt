-- Laws of the circle: how far ahead a sender is, and what the search around it finds.
use Rattle.std.specs.Prelude.{ℕ, zero, suc, ◌+◌, ◌-◌, ◌≤◌, ◌<◌, ◌≡◌, refl, Bool, true, false, List, ◌⊎◌, ltb, leb, length, get_or, if◌then◌else◌}
use Rattle.std.proofs.Common.{sym, ap, ◌∙◌, inl, inr, arith, ltb-true, ltb-false, leb-true, leb-false, lt-ltb, le-ltb}
use Rattle.std.proofs.lemmas.Bool.{false≢true}
use Rattle.std.proofs.Math.Option.{Option, none, some}
use Rattle.std.proofs.Math.ListN.{get_or-eq_default}
use Rattle.spec_lists.proofs.ListLaws.{test_cases}
use Rattle.spec_turns.specs.Turns.{after, first_asked, first_waiting}
use Rattle.spec_turns.specs.Circle.{ahead, Nearest}

-- ---- the sender that follows

pub after_next : (n s : ℕ) → s + 1 < n → after n s ≡ s + 1
unfolding after
after_next n s h = rw (lt-ltb (s + 1) n h)

pub after_last : (n s : ℕ) → n ≤ s + 1 → after n s ≡ 0
unfolding after
after_last n s h = rw (le-ltb (s + 1) n h)

-- the next number, or 0 behind the last
after_cases : (n s : ℕ) → s < n → ((s + 1 < n) × (after n s ≡ s + 1)) ⊎ ((s + 1 ≡ n) × (after n s ≡ 0))
after_cases n s h =
    test_cases (ltb (s + 1) n) (λ e. let k = ltb-true (s + 1) n e in inl (k, after_next n s k)) (λ e. let k = ltb-false (s + 1) n e in inr (omega arith, after_last n s k))

-- it is one of the circle, whichever number it follows
pub after_within : (n s : ℕ) → 0 < n → after n s < n
unfolding after
after_within n s h = go (ltb (s + 1) n) refl
  where
    go : (t : Bool) → ltb (s + 1) n ≡ t → (if t then s + 1 else 0) < n
    go true e = ltb-true (s + 1) n e
    go false e = h

pub first_asked_within : (n : ℕ) (last : Option ℕ) → 0 < n → first_asked n last < n
unfolding first_asked
first_asked_within n none h = h
first_asked_within n (some s) h = search after_within

-- ---- how far ahead a sender is

ahead_cases : (n from s : ℕ) → from < n → s < n → (ahead n from s + from ≡ s) ⊎ ((s < from) × (ahead n from s + from ≡ n + s))
unfolding ahead
ahead_cases n from s f h = go (leb from s) refl
  where
    go : (t : Bool) → leb from s ≡ t → ((if t then s - from else (n + s) - from) + from ≡ s) ⊎ ((s < from) × ((if t then s - from else (n + s) - from) + from ≡ n + s))
    go true e = inl (omega (arith, leb-true from s e))
    go false e = inr (leb-false from s e, omega (arith, leb-false from s e))

-- nobody is a whole circle ahead
pub ahead_within : (n from s : ℕ) → from < n → s < n → ahead n from s < n
ahead_within n from s f h = go (ahead_cases n from s f h)
  where
    go : (ahead n from s + from ≡ s) ⊎ ((s < from) × (ahead n from s + from ≡ n + s)) → ahead n from s < n
    go (inl e) = omega arith
    go (inr e) = omega arith

-- a sender is no place ahead of itself
pub ahead_here : (n s : ℕ) → s < n → ahead n s s ≡ 0
ahead_here n s h = go (ahead_cases n s s h h)
  where
    go : (ahead n s s + s ≡ s) ⊎ ((s < s) × (ahead n s s + s ≡ n + s)) → ahead n s s ≡ 0
    go (inl e) = omega arith
    go (inr e) = absurd (omega arith)

-- counted from behind a nearer sender, one is nearer by that sender's distance and one
pub ahead_behind : (n from x s : ℕ) → from < n → x < n → s < n → ahead n from x < ahead n from s → ahead n (after n x) s + ahead n from x + 1 ≡ ahead n from s
ahead_behind n from x s f g h near =
    go (ahead_cases n from x f g) (ahead_cases n from s f h) (after_cases n x g) (ahead_cases n (after n x) s (after_within n x (omega arith)) h)
  where
    go : (ahead n from x + from ≡ x) ⊎ ((x < from) × (ahead n from x + from ≡ n + x)) → (ahead n from s + from ≡ s) ⊎ ((s < from) × (ahead n from s + from ≡ n + s))
        → ((x + 1 < n) × (after n x ≡ x + 1)) ⊎ ((x + 1 ≡ n) × (after n x ≡ 0)) → (ahead n (after n x) s + after n x ≡ s) ⊎ ((s < after n x) × (ahead n (after n x) s + after n x ≡ n + s))
        → ahead n (after n x) s + ahead n from x + 1 ≡ ahead n from s
    go (inl a) (inl b) (inl c) (inl d) = omega arith
    go (inl a) (inl b) (inl c) (inr d) = absurd (omega arith)
    go (inl a) (inl b) (inr c) (inl d) = absurd (omega arith)
    go (inl a) (inl b) (inr c) (inr d) = absurd (omega arith)
    go (inl a) (inr b) (inl c) (inl d) = absurd (omega arith)
    go (inl a) (inr b) (inl c) (inr d) = omega arith
    go (inl a) (inr b) (inr c) (inl d) = omega arith
    go (inl a) (inr b) (inr c) (inr d) = absurd (omega arith)
    go (inr a) (inl b) k d = absurd (omega arith)
    go (inr a) (inr b) (inl c) (inl d) = omega arith
    go (inr a) (inr b) (inl c) (inr d) = absurd (omega arith)
    go (inr a) (inr b) (inr c) d = absurd (omega arith)

-- no two senders are equally far ahead
pub ahead_same : (n from x s : ℕ) → from < n → x < n → s < n → ahead n from x ≡ ahead n from s → x ≡ s
ahead_same n from x s f g h same = go (ahead_cases n from x f g) (ahead_cases n from s f h)
  where
    go : (ahead n from x + from ≡ x) ⊎ ((x < from) × (ahead n from x + from ≡ n + x)) → (ahead n from s + from ≡ s) ⊎ ((s < from) × (ahead n from s + from ≡ n + s)) → x ≡ s
    go (inl a) (inl b) = omega arith
    go (inl a) (inr b) = absurd (omega arith)
    go (inr a) (inl b) = absurd (omega arith)
    go (inr a) (inr b) = omega arith

-- ---- the search

-- the sender that is asked waits, or the one that follows is asked, until so many were asked
pub search_here : (w : List Bool) (left s : ℕ) → 0 < left → get_or w s false ≡ true → first_waiting w left s ≡ some s
unfolding first_waiting
search_here w zero s h k = absurd (omega arith)
search_here w (suc left) s h k = rw k

pub search_on : (w : List Bool) (left s : ℕ) → 0 < left → get_or w s false ≡ false → first_waiting w left s ≡ first_waiting w (left - 1) (after (length w) s)
unfolding first_waiting
search_on w zero s h k = absurd (omega arith)
search_on w (suc left) s h k = let e : suc left - 1 ≡ left = omega arith in rw k (ap (λ n. first_waiting w n (after (length w) s)) (sym e))

pub search_over : (w : List Bool) (left s : ℕ) → left ≡ 0 → first_waiting w left s ≡ none
unfolding first_waiting
search_over w left s e = rw e

-- whoever waits is one of the senders
pub waits_within : (w : List Bool) (s : ℕ) → get_or w s false ≡ true → s < length w
waits_within w s h = go (ltb s (length w)) refl
  where
    go : (t : Bool) → ltb s (length w) ≡ t → s < length w
    go true e = ltb-true s (length w) e
    go false e = absurd (false≢true (sym (get_or-eq_default w false (ltb-false s (length w) e)) ∙ h))

differ : (w : List Bool) (x y : ℕ) → get_or w x false ≡ false → get_or w y false ≡ true → x ≡ y → ⊥
differ w x y h k e = false≢true (sym h ∙ ap (λ z. get_or w z false) e ∙ k)

-- one who waits is a place nearer to the sender that follows one who does not
further : (w : List Bool) (from s : ℕ) → from < length w → get_or w from false ≡ false → get_or w s false ≡ true
    → ahead (length w) (after (length w) from) s + 1 ≡ ahead (length w) from s
further w from s f h k =
    let n = length w in
    let g : s < n = waits_within w s k in
    let apart : ahead n from s ≡ 0 → ⊥ = λ e. differ w from s h k (ahead_same n from from s f f g (ahead_here n from f ∙ sym e)) in
    omega (arith, ahead_behind n from from s f f g (rw (ahead_here n from f) (positive (ahead n from s) apart)), ahead_here n from f)
  where
    positive : (m : ℕ) → (m ≡ 0 → ⊥) → 0 < m
    positive zero h = absurd (h refl)
    positive (suc m) h = omega arith

-- a search that gets as far as somebody who waits finds the nearest
pub search_finds : (w : List Bool) (more from s : ℕ) → from < length w → get_or w s false ≡ true → ahead (length w) from s < more → (x : ℕ) × (first_waiting w more from ≡ some x) × Nearest w from x
unfolding first_waiting
search_finds w zero from s f h near = absurd (omega arith)
search_finds w (suc more) from s f h near = go (get_or w from false) refl (search_finds w more (after (length w) from) s (after_within (length w) from (omega arith)) h)
  where
    go : (t : Bool) → get_or w from false ≡ t
        → (ahead (length w) (after (length w) from) s < more → (x : ℕ) × (first_waiting w more (after (length w) from) ≡ some x) × Nearest w (after (length w) from) x)
        → (x : ℕ) × ((if t then some from else first_waiting w more (after (length w) from)) ≡ some x) × Nearest w from x
    go true e ih = (from, refl, record { waiting = e; nearest = λ y k. omega (arith, ahead_here (length w) from f) })
    go false e ih =
        let found = ih (omega (arith, further w from s f e h)) in (
          found.0,
          found.1,
          record {
            waiting = found.2.waiting;
            nearest = λ y k. omega (arith, found.2.nearest y k, further w from y f e k, further w from found.0 f e found.2.waiting);
          },
        )

-- whoever is found waits
pub found_waits : (w : List Bool) (more from x : ℕ) → first_waiting w more from ≡ some x → get_or w x false ≡ true
unfolding first_waiting
found_waits w zero from x h = absurd (let z : ◌≡◌ {A = ℕ} 0 1 = cc in omega arith)
found_waits w (suc more) from x h = go (get_or w from false) refl (found_waits w more (after (length w) from) x) h
  where
    some_is : (a b : ℕ) → some a ≡ some b → a ≡ b
    some_is a b e = cc

    go : (t : Bool) → get_or w from false ≡ t → (first_waiting w more (after (length w) from) ≡ some x → get_or w x false ≡ true)
        → (if t then some from else first_waiting w more (after (length w) from)) ≡ some x → get_or w x false ≡ true
    go true e ih h = ap (λ z. get_or w z false) (sym (some_is from x h)) ∙ e
    go false e ih h = ih h
