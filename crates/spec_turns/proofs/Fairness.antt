-- Nobody is held off: 02, Job 14. Both claims are the last theorems here; they hold of every list of calls, from any turns on.
use Rattle.std.specs.Prelude.{ℕ, zero, suc, ◌+◌, ◌*◌, ◌≤◌, ◌<◌, ◌≡◌, true, false, List, [], ◌∷◌, ◌⊎◌, eqb, length, take, if◌then◌else◌}
use Rattle.std.proofs.Common.{sym, ap, ◌∙◌, inl, inr, add-mul, one-mul, lt_of_mul-lt-mul_right, arith, eqb-true}
use Rattle.std.proofs.lemmas.Bool.{false≢true}
use Rattle.spec_lists.proofs.ListLaws.{and_left, and_right, test_cases, or_second}
use Rattle.spec_session.specs.Session.{Cursor}
use Rattle.spec_turns.specs.Turns.{Turns, senders, waits, register, TurnAnswer, turn}
use Rattle.spec_turns.specs.Calls.{Call, registers, turn_call, step, run, answers, names, times_named, registers_first, registers_again}
use Rattle.spec_turns.specs.Circle.{away}
use Rattle.spec_turns.proofs.CircleLaws.{waits_within}
use Rattle.spec_turns.proofs.TurnsLaws.{register_senders, register_keeps, register_waits, turn_senders, away_within, register_away, turn_nearer}

-- ---- the first answer

first_named : (s : ℕ) (a : TurnAnswer) (rest : List TurnAnswer) → names s a ≡ true → times_named s (a ∷ rest) ≡ 1 + times_named s rest
unfolding times_named
first_named s a rest e = rw e

first_other : (s : ℕ) (a : TurnAnswer) (rest : List TurnAnswer) → names s a ≡ false → times_named s (a ∷ rest) ≡ times_named s rest
unfolding times_named
first_other s a rest e = rw e (omega arith)

-- ---- the first turn

-- Whoever waits goes on waiting until it is named.
pub waits_until_named : (calls : List Call) (t : Turns) (s : ℕ) → waits t s ≡ true → times_named s (answers t calls) ≡ 0 → waits (run t calls) s ≡ true
unfolding run step answers
waits_until_named [] t s k e = k
waits_until_named (registers x ∷ calls) t s k e = waits_until_named calls (register t x).next s (register_keeps t x s k) e
waits_until_named (turn_call c ∷ calls) t s k e = go (turn_nearer t c s k) (waits_until_named calls (turn t c).next s)
  where
    go : (names s (turn t c).answer ≡ true) ⊎ ((names s (turn t c).answer ≡ false) × (waits (turn t c).next s ≡ true) × (away (turn t c).next s < away t s))
        → (waits (turn t c).next s ≡ true → times_named s (answers (turn t c).next calls) ≡ 0 → waits (run (turn t c).next calls) s ≡ true)
        → waits (run (turn t c).next calls) s ≡ true
    go (inl q) ih = absurd (omega (arith, first_named s (turn t c).answer (answers (turn t c).next calls) q))
    go (inr q) ih = ih q.1 (sym (first_other s (turn t c).answer (answers (turn t c).next calls) q.0) ∙ e)

-- it is named in any number of turn calls above the number of senders that are asked before it
named_soon : (calls : List Call) (t : Turns) (s m : ℕ) → waits t s ≡ true → away t s < m → m ≤ length (answers t calls) → 1 ≤ times_named s (take m (answers t calls))
unfolding answers
named_soon [] t s m k near long = absurd (omega arith)
named_soon (registers x ∷ calls) t s m k near long = named_soon calls (register t x).next s m (register_keeps t x s k) (rw (register_away t x s) near) long
named_soon (turn_call c ∷ calls) t s zero k near long = absurd (omega arith)
named_soon (turn_call c ∷ calls) t s (suc m) k near long = go (turn_nearer t c s k) (named_soon calls (turn t c).next s m)
  where
    after : Turns
    after = (turn t c).next

    go : (names s (turn t c).answer ≡ true) ⊎ ((names s (turn t c).answer ≡ false) × (waits after s ≡ true) × (away after s < away t s))
        → (waits after s ≡ true → away after s < m → m ≤ length (answers after calls) → 1 ≤ times_named s (take m (answers after calls)))
        → 1 ≤ times_named s ((turn t c).answer ∷ take m (answers after calls))
    go (inl q) ih = rw (first_named s (turn t c).answer (take m (answers after calls)) q) (omega arith)
    go (inr q) ih = rw (first_other s (turn t c).answer (take m (answers after calls)) q.0) (ih q.1 (omega (arith, near, q.2)) (omega (arith, long)))

-- ---- every later turn

-- at the next turn call the sender waits
WaitsNext : ℕ → Turns → List Call → Type 0
WaitsNext s t calls = (waits t s ≡ true) ⊎ (registers_first s calls ≡ true)

ready_register : (s x : ℕ) (t : Turns) (calls : List Call) → s < senders t → WaitsNext s t (registers x ∷ calls) → WaitsNext s (register t x).next calls
unfolding WaitsNext registers_first
ready_register s x t calls h (inl k) = inl (register_keeps t x s k)
ready_register s x t calls h (inr k) =
    test_cases (eqb x s) (λ e. inl (rw (eqb-true x s e) (register_waits t s h))) (λ e. inr (or_second (eqb x s) (registers_first s calls) k e))

ready_turn : (s : ℕ) (t : Turns) (c : Cursor) (calls : List Call) → WaitsNext s t (turn_call c ∷ calls) → waits t s ≡ true
unfolding WaitsNext registers_first
ready_turn s t c calls (inl k) = k
ready_turn s t c calls (inr k) = absurd (false≢true k)

-- what the premise says of a turn call: if the sender is named it registers first, and the premise holds of what follows
again_after : (s : ℕ) (t : Turns) (c : Cursor) (calls : List Call) → registers_again s t (turn_call c ∷ calls) ≡ true
    → (names s (turn t c).answer ≡ true → registers_first s calls ≡ true) × (registers_again s (turn t c).next calls ≡ true)
unfolding registers_again
again_after s t c calls e =
    let first = if names s (turn t c).answer then registers_first s calls else true in
    let later = registers_again s (turn t c).next calls in
    (λ q. rw q at (and_left first later e), and_right first later e)

-- a number of turn calls is at most that of the senders asked before it, and a whole circle for each time that it is named
named_often : (calls : List Call) (t : Turns) (s m : ℕ) → s < senders t → WaitsNext s t calls → registers_again s t calls ≡ true → m ≤ length (answers t calls)
    → m ≤ away t s + times_named s (take m (answers t calls)) * senders t
unfolding answers registers_again WaitsNext
named_often [] t s m h ready again long = omega arith
named_often (registers x ∷ calls) t s m h ready again long =
    rw (register_away t x s, register_senders t x) at (named_often calls (register t x).next s m (rw (register_senders t x) h) (ready_register s x t calls h ready) again long)
named_often (turn_call c ∷ calls) t s zero h ready again long = omega arith
named_often (turn_call c ∷ calls) t s (suc m) h ready again long =
    go (turn_nearer t c s (ready_turn s t c calls ready)) (λ r. rw (turn_senders t c) at (named_often calls (turn t c).next s m (rw (turn_senders t c) h) r (again_after s t c calls again).1 (omega arith)))
  where
    after : Turns
    after = (turn t c).next

    circle : (n : ℕ) → (1 + n) * senders t ≡ senders t + n * senders t
    circle n = add-mul 1 n (senders t) ∙ ap (λ a. a + n * senders t) (one-mul (senders t))

    within : away after s < senders t
    within = rw (turn_senders t c) at (away_within after s (rw (turn_senders t c) h))

    go : (names s (turn t c).answer ≡ true) ⊎ ((names s (turn t c).answer ≡ false) × (waits after s ≡ true) × (away after s < away t s))
        → (WaitsNext s after calls → m ≤ away after s + times_named s (take m (answers after calls)) * senders t)
        → suc m ≤ away t s + times_named s ((turn t c).answer ∷ take m (answers after calls)) * senders t
    go (inl q) ih =
        let registered : registers_first s calls ≡ true = (again_after s t c calls again).0 q in
        rw (first_named s (turn t c).answer (take m (answers after calls)) q, circle) (omega (arith, within, ih (inr registered)))
    go (inr q) ih = rw (first_other s (turn t c).answer (take m (answers after calls)) q.0) (omega (arith, q.2, ih (inl q.1)))

-- ---- the claims

-- Whoever waits is named within as many turn calls as there are senders, whatever the others register.
pub named_in_one_circle : (t : Turns) (s : ℕ) (calls : List Call) → waits t s ≡ true → senders t ≤ length (answers t calls) → 1 ≤ times_named s (take (senders t) (answers t calls))
named_in_one_circle t s calls k long = named_soon calls t s (senders t) k (away_within t s (waits_within t.waiting s k)) (omega arith)

-- A waiting sender that registers again between each of its turns and the next turn call is named at least k times in k times as many turn
-- calls as there are senders.
pub named_in_each_circle : (k : ℕ) (t : Turns) (s : ℕ) (calls : List Call) → waits t s ≡ true → registers_again s t calls ≡ true → k * senders t ≤ length (answers t calls)
    → k ≤ times_named s (take (k * senders t) (answers t calls))
unfolding WaitsNext
named_in_each_circle k t s calls w again long =
    let h : s < senders t = waits_within t.waiting s w in
    let n = times_named s (take (k * senders t) (answers t calls)) in
    let bound : k * senders t ≤ away t s + n * senders t = named_often calls t s (k * senders t) h (inl w) again long in
    let less : k * senders t < (1 + n) * senders t = rw (add-mul 1 n (senders t), one-mul (senders t)) (omega (arith, away_within t s h)) in
    omega (arith, lt_of_mul-lt-mul_right (senders t) less)
