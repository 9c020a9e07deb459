-- What each call does: to those who wait, to the one last named, to how far each sender is from its turn.
use Rattle.std.specs.Prelude.{ℕ, zero, suc, ◌≤◌, ◌<◌, ◌≡◌, refl, Bool, true, false, List, ◌⊎◌, leb, eqb, length, get_or, set}
use Rattle.std.proofs.Common.{sym, ap, ◌∙◌, inl, inr, arith, leb-true, leb-false, eqb-true, length-set, get_or-set_same, get_or-set_other}
use Rattle.std.proofs.lemmas.Bool.{false≢true, eqb-false}
use Rattle.std.proofs.Math.Option.{Option, none, some}
use Rattle.std.proofs.lemmas.List.{length-replicate}
use Rattle.spec_lists.proofs.ListLaws.{if_cases, test_cases}
use Rattle.spec_session.specs.Session.{Cursor}
use Rattle.spec_session.specs.Diagnostics.{stage_of}
use Rattle.spec_turns.specs.Turns.{Turns, senders, waits, SetUpRefusal, wrong_sender_count, set_up_number, new_turns, RegisterRefusal, unknown_sender, already_waiting, register_number, register_refused, RegisterStep, refuse_register, start_waiting, register, first_asked, next_sender, number_after, nobody, turn_of, spend_turn, turn_for, turn}
use Rattle.spec_turns.specs.Calls.{names}
use Rattle.spec_turns.specs.Circle.{ahead, Nearest, away}
use Rattle.spec_turns.proofs.CircleLaws.{first_asked_within, ahead_within, ahead_behind, ahead_same, waits_within, search_finds, found_waits}

-- ---- registering

-- whoever is refused is out of the range or waits already; anybody else waits from now on
register_cases : (P : RegisterStep → Type 0) (t : Turns) (x : ℕ) → ((f : RegisterRefusal) → (senders t ≤ x) ⊎ (waits t x ≡ true) → P (refuse_register t f)) → (x < senders t → P (start_waiting t x)) → P (register t x)
unfolding register
register_cases P t x refuses takes =
    if_cases P (leb (senders t) x) _ _
    (λ e. refuses _ (inl (leb-true (senders t) x e)))
    (λ e. if_cases P (waits t x) _ _ (λ k. refuses _ (inr k)) (λ k. takes (leb-false (senders t) x e)))

-- a refusal leaves everything
pub register_refused_lem : (t : Turns) (x : ℕ) (f : RegisterRefusal) → (register t x).answer ≡ register_refused f → (register t x).next ≡ t
unfolding refuse_register start_waiting
register_refused_lem t x f =
    register_cases (λ r. r.answer ≡ register_refused f → r.next ≡ t) t x (λ g w q. refl) (λ h q. absurd (let z : ◌≡◌ {A = ℕ} 0 1 = cc in omega arith))

-- there are as many senders as before
pub register_senders : (t : Turns) (x : ℕ) → senders (register t x).next ≡ senders t
unfolding refuse_register start_waiting
register_senders t x = register_cases (λ r. senders r.next ≡ senders t) t x (λ f w. refl) (λ h. length-set t.waiting x _)

-- and the one last named is the same
pub register_last : (t : Turns) (x : ℕ) → (register t x).next.last ≡ t.last
unfolding refuse_register start_waiting
register_last t x = register_cases (λ r. r.next.last ≡ t.last) t x (λ f w. refl) (λ h. refl)

set_true : (w : List Bool) (x s : ℕ) → x < length w → get_or w s false ≡ true → get_or (set w x true) s false ≡ true
set_true w x s h k =
    test_cases (eqb s x) (λ e. rw (eqb-true s x e) (get_or-set_same w x true false h)) (λ e. get_or-set_other w x s true false (eqb-false s x e) ∙ k)

-- whoever registers, all who wait go on waiting
pub register_keeps : (t : Turns) (x s : ℕ) → waits t s ≡ true → waits (register t x).next s ≡ true
unfolding refuse_register start_waiting
register_keeps t x s k = register_cases (λ r. waits r.next s ≡ true) t x (λ f w. k) (λ h. set_true t.waiting x s h k)

-- after its call a sender of the range waits, whatever the answer
pub register_waits : (t : Turns) (s : ℕ) → s < senders t → waits (register t s).next s ≡ true
unfolding refuse_register start_waiting
register_waits t s h = register_cases (λ r. waits r.next s ≡ true) t s (λ f w. waiting w) (λ k. get_or-set_same t.waiting s true false k)
  where
    waiting : (senders t ≤ s) ⊎ (waits t s ≡ true) → waits t s ≡ true
    waiting (inl out) = absurd (omega arith)
    waiting (inr k) = k

-- ---- the turn call

-- nobody is named who did not wait
pub named_waits : (t : Turns) (x : ℕ) → next_sender t ≡ some x → waits t x ≡ true
unfolding next_sender
named_waits t x e = found_waits t.waiting (senders t) _ x e

-- where somebody waits, the one who waits nearest after the one last named is named
pub someone_named : (t : Turns) (s : ℕ) → waits t s ≡ true → (x : ℕ) × (next_sender t ≡ some x) × Nearest t.waiting (first_asked (senders t) t.last) x
unfolding next_sender
someone_named t s k =
    let h : s < senders t = waits_within t.waiting s k in
    let f : first_asked (senders t) t.last < senders t = first_asked_within (senders t) t.last (omega arith) in
    search_finds t.waiting (senders t) (first_asked (senders t) t.last) s f k (ahead_within (senders t) (first_asked (senders t) t.last) s f h)

-- the answer is none exactly where nobody waits
pub nobody_waits : (t : Turns) → next_sender t ≡ none → (s : ℕ) → waits t s ≡ false
nobody_waits t e s = go (waits t s) refl
  where
    go : (b : Bool) → waits t s ≡ b → b ≡ false
    go false k = refl
    go true k = let z : ◌≡◌ {A = ℕ} 0 1 = cc (someone_named t s k).1 in absurd (omega arith)

pub nobody_named : (t : Turns) → ((s : ℕ) → waits t s ≡ false) → next_sender t ≡ none
nobody_named t h = go (next_sender t) refl
  where
    go : (o : Option ℕ) → next_sender t ≡ o → o ≡ none
    go none e = refl
    go (some x) e = absurd (false≢true (sym (h x) ∙ named_waits t x e))

-- there are as many senders as before
pub turn_senders : (t : Turns) (c : Cursor) → senders (turn t c).next ≡ senders t
unfolding turn turn_for spend_turn
turn_senders t c = go (next_sender t)
  where
    go : (o : Option ℕ) → senders (turn_for t c o).next ≡ senders t
    go none = refl
    go (some x) = length-set t.waiting x false

-- what a turn call does that names a sender
pub record Named (t : Turns) (c : Cursor) (x : ℕ) : Type 0 where
  pub answer : (turn t c).answer ≡ turn_of x (number_after c)
  pub last : (turn t c).next.last ≡ some x
  pub cleared : waits (turn t c).next x ≡ false
  pub others : (s : ℕ) → (s ≡ x → ⊥) → waits (turn t c).next s ≡ waits t s

pub turn_names : (t : Turns) (c : Cursor) (x : ℕ) → next_sender t ≡ some x → Named t c x
unfolding turn turn_for spend_turn
turn_names t c x e = record {
  answer = ap (λ o. (turn_for t c o).answer) e;
  last = ap (λ o. (turn_for t c o).next.last) e;
  cleared = ap (λ o. waits (turn_for t c o).next x) e ∙ get_or-set_same t.waiting x false false (waits_within t.waiting x (named_waits t x e));
  others = λ s k. ap (λ o. waits (turn_for t c o).next s) e ∙ get_or-set_other t.waiting x s false false k;
}

-- where nobody is named nothing moves
pub turn_nobody : (t : Turns) (c : Cursor) → next_sender t ≡ none → ((turn t c).answer ≡ nobody) × ((turn t c).next ≡ t)
unfolding turn turn_for
turn_nobody t c e = (ap (λ o. (turn_for t c o).answer) e, ap (λ o. (turn_for t c o).next) e)

-- ---- how far a sender is from its turn

-- fewer are asked before it than there are senders
pub away_within : (t : Turns) (s : ℕ) → s < senders t → away t s < senders t
unfolding away
away_within t s h = ahead_within (senders t) _ s (first_asked_within (senders t) t.last (omega arith)) h

-- no registration brings it nearer or further off
pub register_away : (t : Turns) (x s : ℕ) → away (register t x).next s ≡ away t s
unfolding away
register_away t x s = rw (register_senders t x, register_last t x)

-- at a turn call a sender that waits is named, or it goes on waiting and comes nearer
pub turn_nearer : (t : Turns) (c : Cursor) (s : ℕ) → waits t s ≡ true
    → (names s (turn t c).answer ≡ true) ⊎ ((names s (turn t c).answer ≡ false) × (waits (turn t c).next s ≡ true) × (away (turn t c).next s < away t s))
unfolding names away first_asked
turn_nearer t c s k = go (eqb x s) refl
  where
    found : (x : ℕ) × (next_sender t ≡ some x) × Nearest t.waiting (first_asked (senders t) t.last) x
    found = someone_named t s k

    x : ℕ
    x = found.0

    named : Named t c x
    named = turn_names t c x found.1

    within : s < senders t
    within = waits_within t.waiting s k

    from : ℕ
    from = first_asked (senders t) t.last

    from_within : from < senders t
    from_within = first_asked_within (senders t) t.last (omega (arith, within))

    nearer : (x ≡ s → ⊥) → ahead (senders t) from x < ahead (senders t) from s
    nearer d =
        let same : ahead (senders t) from x ≡ ahead (senders t) from s → ⊥ = λ e. d (ahead_same (senders t) from x s from_within (waits_within t.waiting x found.2.waiting) within e) in
        omega (arith, found.2.nearest s k, same)

    go : (b : Bool) → eqb x s ≡ b
        → (names s (turn t c).answer ≡ true) ⊎ ((names s (turn t c).answer ≡ false) × (waits (turn t c).next s ≡ true) × (away (turn t c).next s < away t s))
    go true e = inl (rw named.answer e)
    go false e =
        let d = eqb-false x s e in
        inr (
          rw named.answer e,
          named.others s (λ q. d (sym q)) ∙ k,
          rw (named.last, turn_senders t c) (omega (arith, ahead_behind (senders t) from x s from_within (waits_within t.waiting x found.2.waiting) within (nearer d))),
        )

-- ---- set-up

-- there are as many senders as were asked for
pub new_turns_senders : (n : ℕ) → senders (new_turns n) ≡ n
unfolding new_turns
new_turns_senders n = length-replicate n false

-- and nobody waits
pub new_turns_waits : (n s : ℕ) → waits (new_turns n) s ≡ false
unfolding new_turns
new_turns_waits zero s = refl
new_turns_waits (suc n) zero = refl
new_turns_waits (suc n) (suc s) = new_turns_waits n s

-- ---- the refusals

-- no stage is given with them
pub set_up_no_stage : (r : SetUpRefusal) → stage_of (set_up_number r) ≡ none
set_up_no_stage wrong_sender_count = refl

pub register_no_stage : (r : RegisterRefusal) → stage_of (register_number r) ≡ none
register_no_stage unknown_sender = refl
register_no_stage already_waiting = refl
