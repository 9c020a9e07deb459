-- A group takes its batches as single calls would, or leaves everything.
use Rattle.std.specs.Prelude.{ℕ, suc, ◌+◌, ◌≤◌, ◌≡◌, refl, Bool, true, false, List, [], ◌∷◌, ◌++◌, leb, length, drop, if◌then◌else◌}
use Rattle.std.proofs.Common.{sym, ap, ◌∙◌, arith, leb-true, eqb-true, length-append}
use Rattle.spec_lists.specs.Lists.{All}
use Rattle.spec_lists.proofs.ListLaws.{and_left, and_right}
use Rattle.spec_session.specs.Session.{Cursor, Session}
use Rattle.spec_session.specs.Batch.{BatchAnswer}
use Rattle.spec_splitting.specs.Splitting.{Run, is_rejected, continue}
use Rattle.spec_group.specs.Group.{group_batches, GroupBatch, total_bytes, is_group, send_first, ended, broke, run_group, not_a_group, with_cursor, conclude_group, group}
use Rattle.spec_group.specs.Singly.{singly, WasTaken, AllOrNone}

true_not_false : {C : Type 0} {b : Bool} → b ≡ true → b ≡ false → C
true_not_false p q = absurd (let z : ◌≡◌ {A = Bool} true false = sym p ∙ q in let w : ◌≡◌ {A = ℕ} 0 1 = cc in omega arith)

-- the answer at the front of a list that ends with one more
one_answer : (a b : BatchAnswer) (firsts : List BatchAnswer) → a ∷ [] ≡ firsts ++ b ∷ [] → (a ≡ b) × (length firsts ≡ 0)
one_answer a b [] e = (cc e, refl)
one_answer a b (f ∷ fs) e = absurd (omega (arith, ap length e, length-append fs (b ∷ [])))

record BehindAnswers (a b : BatchAnswer) (rest firsts : List BatchAnswer) : Type 0 where
  others : List BatchAnswer
  is : rest ≡ others ++ b ∷ []
  one_more : length firsts ≡ suc (length others)

more_answers : (a b : BatchAnswer) (rest firsts : List BatchAnswer) → is_rejected a.disposition ≡ false → is_rejected b.disposition ≡ true → a ∷ rest ≡ firsts ++ b ∷ [] → BehindAnswers a b rest firsts
more_answers a b rest [] p q e = let same : a ≡ b = cc e in true_not_false q (ap (λ (x : BatchAnswer). is_rejected x.disposition) (sym same) ∙ p)
more_answers a b rest (f ∷ fs) p q e = record { others = fs; is = cc e; one_more = refl }

-- the single calls behind the first
abbrev rest : Session → GroupBatch → List GroupBatch → List ℕ → Run
rest s b bs sets = singly (send_first s b sets).next bs (drop b.bytes sets)

-- the single calls, by whether the first was rejected
abbrev chosen : Bool → Session → GroupBatch → List GroupBatch → List ℕ → Run
chosen t s b bs sets =
    if t then record { answers = (send_first s b sets).answer ∷ []; last = (send_first s b sets).next }
    else record { answers = (send_first s b sets).answer ∷ (rest s b bs sets).answers; last = (rest s b bs sets).last }

run_taken : (bs : List GroupBatch) (i : ℕ) (s : Session) (sets : List ℕ) → All WasTaken (singly s bs sets).answers → run_group i s bs sets ≡ ended (singly s bs sets).last
unfolding run_group singly continue
run_taken [] i s sets h = refl
run_taken (b ∷ bs) i s sets h = go (is_rejected (send_first s b sets).answer.disposition) refl h (run_taken bs)
  where
    go : (t : Bool) → is_rejected (send_first s b sets).answer.disposition ≡ t → All WasTaken (chosen t s b bs sets).answers
        → ((j : ℕ) (u : Session) (more : List ℕ) → All WasTaken (singly u bs more).answers → run_group j u bs more ≡ ended (singly u bs more).last)
        → (if t then broke i (send_first s b sets).answer else run_group (i + 1) (send_first s b sets).next bs (drop b.bytes sets)) ≡ ended (chosen t s b bs sets).last
    go true e h ih = true_not_false e h.0
    go false e h ih = ih (i + 1) (send_first s b sets).next (drop b.bytes sets) h.1

run_broke : (bs : List GroupBatch) (i : ℕ) (s : Session) (sets : List ℕ) (firsts : List BatchAnswer) (a : BatchAnswer) → (singly s bs sets).answers ≡ firsts ++ a ∷ [] → is_rejected a.disposition ≡ true
    → run_group i s bs sets ≡ broke (i + length firsts) a
unfolding run_group singly continue
run_broke [] i s sets firsts a e r = absurd (omega (arith, ap length e, length-append firsts (a ∷ [])))
run_broke (b ∷ bs) i s sets firsts a e r = go (is_rejected (send_first s b sets).answer.disposition) refl e (run_broke bs)
  where
    go : (t : Bool) → is_rejected (send_first s b sets).answer.disposition ≡ t → (chosen t s b bs sets).answers ≡ firsts ++ a ∷ []
        → ((j : ℕ) (u : Session) (more : List ℕ) (fs : List BatchAnswer) (x : BatchAnswer) → (singly u bs more).answers ≡ fs ++ x ∷ [] → is_rejected x.disposition ≡ true → run_group j u bs more ≡ broke (j + length fs) x)
        → (if t then broke i (send_first s b sets).answer else run_group (i + 1) (send_first s b sets).next bs (drop b.bytes sets)) ≡ broke (i + length firsts) a
    go true e h ih =
        let one = one_answer (send_first s b sets).answer a firsts h in
        let here : i ≡ i + length firsts = omega (arith, one.1) in
        ap (broke i) one.0 ∙ ap (λ (k : ℕ). broke k a) here
    go false e h ih =
        let behind = more_answers (send_first s b sets).answer a (rest s b bs sets).answers firsts e r h in
        let there : i + 1 + length behind.others ≡ i + length firsts = omega (arith, behind.one_more) in
        ih (i + 1) (send_first s b sets).next (drop b.bytes sets) behind.others a behind.is r ∙ ap (λ (k : ℕ). broke k a) there

-- all or none, for every group
pub all_or_none : (s : Session) (bs : List GroupBatch) (sets : List ℕ) → is_group bs sets ≡ true → AllOrNone s bs sets
unfolding group conclude_group
all_or_none s bs sets g = record {
  all = λ h. rw (g, run_taken bs 0 s sets h);
  none = λ e.
      let from-0 : 0 + length e.firsts ≡ length e.firsts = omega arith in
      rw (g, run_broke bs 0 s sets e.firsts e.refusal e.answers e.rejected, from-0);
}

-- what is no group leaves the session
pub not_a_group_lem : (s : Session) (bs : List GroupBatch) (sets : List ℕ) → is_group bs sets ≡ false → group s bs sets ≡ record { next = s; answer = not_a_group }
unfolding group
not_a_group_lem s bs sets g = rw g

-- a group has one to eight batches, and their lengths add up
pub is_group_lem : (bs : List GroupBatch) (sets : List ℕ) → is_group bs sets ≡ true → (1 ≤ length bs) × ((length bs ≤ 8) × (total_bytes bs ≡ length sets))
unfolding is_group
is_group_lem bs sets e =
    let few = and_right (leb 1 (length bs)) _ e in (
      leb-true 1 (length bs) (and_left (leb 1 (length bs)) _ e),
      (leb-true (length bs) group_batches (and_left (leb (length bs) group_batches) _ few), eqb-true (total_bytes bs) (length sets) (and_right (leb (length bs) group_batches) _ few)),
    )

-- the refused batch's answer has the cursor from before the group, and is otherwise as it was
pub cursor_from_before : (c : Cursor) (a : BatchAnswer) → ((with_cursor c a).cursor ≡ c) × ((with_cursor c a).diagnostics ≡ a.diagnostics)
unfolding with_cursor
cursor_from_before c a = (refl, refl)
