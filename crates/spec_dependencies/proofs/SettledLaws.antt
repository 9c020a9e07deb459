-- The table of settled keys is right: expectations are met one after the other exactly if none contradicts and the start is as the table says.
use Rattle.std.specs.Prelude.{ℕ, Bool, false, ◌&&◌}
use Rattle.std.proofs.Math.Path.{◌≡◌, refl, sym, ap, subst}
use Rattle.std.proofs.Common.{◌∙◌}
use Rattle.std.proofs.Math.Bool.{true, false≢true}
use Rattle.std.specs.Bool.{beq}
use mathlib.Core.List.{List, [], ◌∷◌, ◌++◌, head-eq_of_cons-eq, tail-eq_of_cons-eq}
use Rattle.std.proofs.Math.Option.{Option, none, some, some-injective, none-ne-some}
use borrow.Author.Tests.{eqb-true, eq-eqb}
use Rattle.std.proofs.Math.Dec.{eqb}
use Rattle.spec_lists.proofs.ListLaws.{and_left, and_right, test_cases}
use Rattle.spec_lists.specs.Order.{upsert, lookup, Ascending}
use Rattle.spec_lists.proofs.OrderLaws.{upsert_ascending}
use Rattle.spec_lists.proofs.LookupLaws.{lookup_upsert, lookup_upsert_other}
use Rattle.spec_dependencies.specs.Expectations.{Expectation}
use Rattle.spec_dependencies.specs.Settled.{Settled, settled_key, settled_by, judge_by, judge, further_settled, judge_all}
use Rattle.spec_dependencies.specs.Presence.{Presence, is_of, presence_after, Accepts}

-- ---- tests

pub beq_true : (a b : Bool) → beq a b ≡ true → a ≡ b
beq_true true true h = refl
beq_true true false h = sym h
beq_true false true h = h
beq_true false false h = refl

pub beq_same : (a b : Bool) → a ≡ b → beq a b ≡ true
beq_same true true h = refl
beq_same true false h = sym h
beq_same false true h = h
beq_same false false h = refl

-- ---- an expectation's key

is_own : (e : Expectation) → is_of e e.collection e.key ≡ true
unfolding is_of
is_own e = rw (eq-eqb e.collection e.collection refl, eq-eqb e.key e.key refl)

own_of : (e : Expectation) (c k : ℕ) → is_of e c k ≡ true → (e.collection ≡ c) × (e.key ≡ k)
unfolding is_of
own_of e c k f = (eqb-true e.collection c (and_left _ _ f), eqb-true e.key k (and_right (eqb e.collection c) _ f))

-- ---- the table, by its lookups

abbrev pub settled_at : ℕ → ℕ → List Settled → Option Settled
settled_at c k t = lookup settled_key (c ∷ k ∷ []) t

module _ (b : Bool) (e : Expectation) (t : List Settled) where
  -- what an expectation settles is found at its key
  found_own : (c k : ℕ) → is_of e c k ≡ true → settled_at c k (upsert settled_key (settled_by b e) t) ≡ some (settled_by b e)
  unfolding is_of settled_key settled_by
  found_own c k f =
      let own = own_of e c k f in
      rw (← own.0, ← own.1) (lookup_upsert settled_key (settled_by b e) t)

  -- and other keys are as they were
  found_other : (c k : ℕ) → is_of e c k ≡ false → settled_at c k (upsert settled_key (settled_by b e) t) ≡ settled_at c k t
  unfolding is_of settled_key settled_by
  found_other c k f = lookup_upsert_other settled_key (c ∷ k ∷ []) (settled_by b e) t (λ g. false≢true (sym f ∙ is g))
    where
      is : ◌≡◌ {A = List ℕ} (e.collection ∷ e.key ∷ []) (c ∷ k ∷ []) → (eqb e.collection c && eqb e.key k) ≡ true
      is g = rw (eq-eqb e.collection c (head-eq_of_cons-eq g), eq-eqb e.key k (head-eq_of_cons-eq (tail-eq_of_cons-eq g)))

-- ---- presence now, and at the start

abbrev now_of : Option Settled → Bool → Bool
now_of none b = b
now_of (some s) b = s.now

-- what is settled tells, and other keys are as at the start
pub current : List Settled → Presence → Presence
current t h c k = now_of (settled_at c k t) (h c k)

-- the start is as the table says
abbrev pub StartsAs : Presence → List Settled → Type 0
StartsAs h t = (c k : ℕ) (s : Settled) → settled_at c k t ≡ some s → h c k ≡ s.at_start

pub current_none : (h : Presence) → current [] h ≡ h
unfolding current lookup
current_none h = refl

pub starts_none : (h : Presence) → StartsAs h []
unfolding lookup
starts_none h c k s e = absurd (none-ne-some s e)

-- what goes on was settled before
pub further_some : (x : Option (List Settled)) (f : List Settled → Option (List Settled)) (u : List Settled) → further_settled x f ≡ some u → (t : List Settled) × (x ≡ some t) × (f t ≡ some u)
further_some none f u e = absurd (none-ne-some u e)
further_some (some t) f u e = (t, refl, e)

module _ (h : Presence) where
  current_found : (t : List Settled) (c k : ℕ) (o : Option Settled) → settled_at c k t ≡ o → current t h c k ≡ now_of o (h c k)
  unfolding current
  current_found t c k o e = ap (λ x. now_of x (h c k)) e

  -- a table with one expectation more tells what that expectation leaves
  after_current : (b : Bool) (e : Expectation) (t : List Settled) → presence_after e (current t h) ≡ current (upsert settled_key (settled_by b e) t) h
  unfolding presence_after current settled_by
  after_current b e t = λ i c k. point c k i
    where
      point : (c k : ℕ) → presence_after e (current t h) c k ≡ current (upsert settled_key (settled_by b e) t) h c k
      point c k = test_cases (is_of e c k)
          (λ f. rw f (sym (current_found (upsert settled_key (settled_by b e) t) c k _ (found_own b e t c k f))))
          (λ f. rw f (sym (current_found (upsert settled_key (settled_by b e) t) c k (settled_at c k t) (found_other b e t c k f))))

  starts_more : (b : Bool) (e : Expectation) (t : List Settled) → h e.collection e.key ≡ b → StartsAs h t → StartsAs h (upsert settled_key (settled_by b e) t)
  unfolding settled_by
  starts_more b e t first old c k s found = test_cases (is_of e c k)
      (λ f. let own = own_of e c k f in
      let same : settled_by b e ≡ s = some-injective (settled_by b e) s (sym (found_own b e t c k f) ∙ found) in
      ap (λ x. h x k) (sym own.0) ∙ ap (h e.collection) (sym own.1) ∙ first ∙ ap (λ (x : Settled). x.at_start) same)
      (λ f. old c k s (sym (found_other b e t c k f) ∙ found))

  -- what an expectation settles of the start
  starts_first : (b : Bool) (e : Expectation) (t : List Settled) → StartsAs h (upsert settled_key (settled_by b e) t) → h e.collection e.key ≡ b
  unfolding settled_by
  starts_first b e t new = new e.collection e.key (settled_by b e) (found_own b e t e.collection e.key (is_own e))

  -- where a key that was settled keeps its start
  starts_less : (b : Bool) (e : Expectation) (t : List Settled) → ((s : Settled) → settled_at e.collection e.key t ≡ some s → s.at_start ≡ b)
      → StartsAs h (upsert settled_key (settled_by b e) t) → StartsAs h t
  starts_less b e t keeps new c k s found = test_cases (is_of e c k)
      (λ f. let own = own_of e c k f in
      let there : settled_at e.collection e.key t ≡ some s = rw (own.0, own.1) found in
      ap (λ x. h x k) (sym own.0) ∙ ap (h e.collection) (sym own.1) ∙ starts_first b e t new ∙ sym (keeps s there))
      (λ f. new c k s (found_other b e t c k f ∙ found))

  -- ---- one expectation

  -- it is judged: by a start that the table tells, or that it is the first to tell
  record Judged (e : Expectation) (t u : List Settled) : Type 0 where
    pub start : Bool
    pub table : u ≡ upsert settled_key (settled_by start e) t
    pub keeps : (s : Settled) → settled_at e.collection e.key t ≡ some s → s.at_start ≡ start
    pub met : h e.collection e.key ≡ start → current t h e.collection e.key ≡ e.expected

  judged : (e : Expectation) (t u : List Settled) → judge e t ≡ some u → Judged e t u
  unfolding judge judge_by
  judged e t u j = go (settled_at e.collection e.key t) refl j
    where
      go : (o : Option Settled) → settled_at e.collection e.key t ≡ o → judge_by e t o ≡ some u → Judged e t u
      go none f j = record {
        start = e.expected;
        table = sym (some-injective _ u j);
        keeps = λ s g. absurd (none-ne-some s (sym f ∙ g));
        met = λ m. current_found t e.collection e.key none f ∙ m;
      }
      go (some s) f j = test_cases (beq s.now e.expected)
          (λ a. record {
            start = s.at_start;
            table = sym (some-injective _ u (rw a at j));
            keeps = λ r g. ap (λ (x : Settled). x.at_start) (some-injective r s (sym g ∙ f));
            met = λ m. current_found t e.collection e.key (some s) f ∙ beq_true s.now e.expected a;
          })
          (λ a. absurd (none-ne-some u (rw a at j)))

  -- one that is met is judged, and tells no other start
  judges : (e : Expectation) (t : List Settled) → StartsAs h t → current t h e.collection e.key ≡ e.expected
      → (b : Bool) × (judge e t ≡ some (upsert settled_key (settled_by b e) t)) × (h e.collection e.key ≡ b)
  unfolding judge judge_by
  judges e t starts m = go (settled_at e.collection e.key t) refl
    where
      go : (o : Option Settled) → settled_at e.collection e.key t ≡ o → (b : Bool) × (judge_by e t o ≡ some (upsert settled_key (settled_by b e) t)) × (h e.collection e.key ≡ b)
      go none f = (e.expected, refl, sym (current_found t e.collection e.key none f) ∙ m)
      go (some s) f =
          let a = beq_same s.now e.expected (sym (current_found t e.collection e.key (some s) f) ∙ m) in
          (s.at_start, rw a, starts e.collection e.key s f)

  -- ---- all expectations

  -- what is met one after the other is judged, and the start is as the table says
  pub accepted : (es : List Expectation) (t : List Settled) → StartsAs h t → Accepts es (current t h) → (u : List Settled) × (judge_all es t ≡ some u) × StartsAs h u
  unfolding judge_all
  accepted [] t starts a = (t, refl, starts)
  accepted (e ∷ es) t starts a =
      let j = judges e t starts a.0 in
      let b = j.0 in
      let rest = accepted es (upsert settled_key (settled_by b e) t) (starts_more b e t j.2 starts) (subst (Accepts es) (after_current b e t) a.1) in
      (rest.0, rw j.1 rest.1, rest.2)

  -- where all are judged and the start is as the table says, all are met
  pub accepting : (es : List Expectation) (t u : List Settled) → judge_all es t ≡ some u → StartsAs h u → StartsAs h t × Accepts es (current t h)
  unfolding judge_all
  accepting [] t u j starts = (subst (StartsAs h) (sym (some-injective t u j)) starts, tt)
  accepting (e ∷ es) t u j starts =
      let (r, first, others) = further_some (judge e t) (λ r. judge_all es r) u j in
      let g = judged e t r first in
      let rest = accepting es r u others starts in
      let next : StartsAs h (upsert settled_key (settled_by g.start e) t) = subst (StartsAs h) g.table rest.0 in (
        starts_less g.start e t g.keeps next,
        (g.met (starts_first g.start e t next), subst (Accepts es) (ap (λ x. current x h) g.table ∙ sym (after_current g.start e t)) rest.1),
      )

-- ---- the table is ascending, so it has each key once

judge_by_ascending : (e : Expectation) (t u : List Settled) (o : Option Settled) → Ascending settled_key t → judge_by e t o ≡ some u → Ascending settled_key u
unfolding judge_by
judge_by_ascending e t u none h j = subst (Ascending settled_key) (some-injective _ u j) (upsert_ascending settled_key _ t h)
judge_by_ascending e t u (some s) h j = test_cases (beq s.now e.expected)
    (λ a. subst (Ascending settled_key) (some-injective _ u (rw a at j)) (upsert_ascending settled_key _ t h))
    (λ a. absurd (none-ne-some u (rw a at j)))

pub judge_all_ascending : (es : List Expectation) (t u : List Settled) → Ascending settled_key t → judge_all es t ≡ some u → Ascending settled_key u
unfolding judge_all judge
judge_all_ascending [] t u h j = subst (Ascending settled_key) (some-injective t u j) h
judge_all_ascending (e ∷ es) t u h j =
    let (r, first, others) = further_some (judge e t) (λ r. judge_all es r) u j in
    judge_all_ascending es r u (judge_by_ascending e t r _ h first) others

-- ---- a start that the table tells

start_of : Option Settled → Bool
start_of none = false
start_of (some s) = s.at_start

-- what the table tells of the start, and no other key
pub told_start : List Settled → Presence
told_start t c k = start_of (settled_at c k t)

pub told_starts : (t : List Settled) → StartsAs (told_start t) t
unfolding start_of told_start
told_starts t c k s f = ap start_of f

-- ---- two runs

pub judge_all_append : (a b : List Expectation) (t : List Settled) → judge_all (a ++ b) t ≡ further_settled (judge_all a t) (λ u. judge_all b u)
unfolding judge_all
judge_all_append [] b t = refl
judge_all_append (e ∷ a) b t = go (judge e t) (λ u. judge_all_append a b u)
  where
    go : (x : Option (List Settled)) → ((u : List Settled) → judge_all (a ++ b) u ≡ further_settled (judge_all a u) (λ v. judge_all b v))
        → further_settled x (λ u. judge_all (a ++ b) u) ≡ further_settled (further_settled x (λ u. judge_all a u)) (λ v. judge_all b v)
    go none later = refl
    go (some u) later = later u
