-- The head of a session tells that session's state, limits and counts, and the heads that calls write are those of the next sessions.
use Rattle.std.specs.Prelude.{ℕ, ◌≡◌, refl, eqb, length, get_or, if◌then◌else◌}
use Rattle.std.proofs.Common.{sym, ap₂, ◌∙◌, arith, eq-eqb, ne_eqb}
use Rattle.std.proofs.Math.Path.{ap}
use mathlib.Core.List.{List, [], ◌∷◌}
use Rattle.std.proofs.Math.ListN.{set}
use Rattle.spec_projection.specs.Projection.{Projection, empty}
use Rattle.spec_session.specs.Session.{Lifecycle, created, active, suspended, closed, Cursor, uninitialized, at, Limits, Catalogue, Session, new_session}
use Rattle.spec_session.specs.Lifecycle.{LocalState, state_of, with_lifecycle}
use Rattle.spec_session.specs.Batch.{advanced}
use Rattle.local_projection_state.specs.Stores.{counts_of}
use Rattle.local_projection_state.specs.declared.ProjectionCounts.{ProjectionCounts}
use Rattle.session_lent.specs.Head.{head_numbers, lifecycle_number, lifecycle_numbered, cursor_kind, cursor_number, cursor_numbered, state_at, limits_at, counts_at, lent_head_of, new_head, moved_head}

-- ---- numbers back

pub lifecycle_back : (l : Lifecycle) → lifecycle_numbered (lifecycle_number l) ≡ l
unfolding lifecycle_numbered
lifecycle_back created = refl
lifecycle_back active = refl
lifecycle_back suspended = refl
lifecycle_back closed = refl

pub cursor_numbered_lem : (c : Cursor) → cursor_numbered (cursor_kind c) (cursor_number c) ≡ c
unfolding cursor_numbered
cursor_numbered_lem uninitialized = refl
cursor_numbered_lem (at n) = refl

-- ---- the lifecycle of a number

pub numbered_created : (n : ℕ) → n ≡ 0 → created ≡ lifecycle_numbered n
unfolding lifecycle_numbered
numbered_created n e = ap lifecycle_numbered (sym e)

pub numbered_active : (n : ℕ) → n ≡ 1 → active ≡ lifecycle_numbered n
unfolding lifecycle_numbered
numbered_active n e = ap lifecycle_numbered (sym e)

pub numbered_suspended : (n : ℕ) → n ≡ 2 → suspended ≡ lifecycle_numbered n
unfolding lifecycle_numbered
numbered_suspended n e = ap lifecycle_numbered (sym e)

pub numbered_closed : (n : ℕ) → (n ≡ 0 → ⊥) → (n ≡ 1 → ⊥) → (n ≡ 2 → ⊥) → closed ≡ lifecycle_numbered n
unfolding lifecycle_numbered
numbered_closed n x y z = rw (ne_eqb n 0 x, ne_eqb n 1 y, ne_eqb n 2 z) refl

-- ---- what the head of a session tells

module _ (h : List ℕ) (m : Session) (is : h ≡ lent_head_of m) where
  pub state_told : state_at h ≡ state_of m
  unfolding state_of
  state_told =
      let l = lifecycle_back m.lifecycle in
      let c = cursor_numbered_lem m.cursor in
      ap state_at is ∙ (λ i. record { id = m.id; lifecycle = l i; cursor = c i })

  pub limits_told : limits_at h ≡ m.limits
  limits_told = ap limits_at is

  pub counts_told : counts_at h ≡ counts_of m.projection
  counts_told = ap counts_at is

  pub lent_head_long : length h ≡ head_numbers
  lent_head_long = ap length is

  -- the head after a batch that was applied
  pub moved_told : (n : ℕ) (k : ProjectionCounts) (p : Projection) → k ≡ counts_of p → moved_head h n k ≡ lent_head_of (advanced m n p)
  unfolding advanced
  moved_told n k p same = ap (λ (x : List ℕ). moved_head x n k) is ∙ ap (λ (x : ProjectionCounts). moved_head (lent_head_of m) n x) same

  -- the head with another lifecycle
  pub entered_told : (x : Lifecycle) → set h 1 (lifecycle_number x) ≡ lent_head_of (with_lifecycle m x)
  unfolding with_lifecycle
  entered_told x = ap (λ (y : List ℕ). set y 1 (lifecycle_number x)) is

pub new_told : (id : ℕ) (l : Limits) (c : Catalogue) → new_head id l ≡ lent_head_of (new_session id l c)
unfolding new_session empty
new_told id l c = refl

-- ---- a head of which every number is written

pub head_written : (h : List ℕ) (a b c d e f g i j k l : ℕ) → length h ≡ head_numbers
    → set (set (set (set (set (set (set (set (set (set (set h 0 a) 1 b) 2 c) 3 d) 4 e) 5 f) 6 g) 7 i) 8 j) 9 k) 10 l ≡ a ∷ b ∷ c ∷ d ∷ e ∷ f ∷ g ∷ i ∷ j ∷ k ∷ l ∷ []
head_written [] a b c d e f g i j k l n = absurd (omega arith)
head_written (_ ∷ []) a b c d e f g i j k l n = absurd (omega arith)
head_written (_ ∷ _ ∷ []) a b c d e f g i j k l n = absurd (omega arith)
head_written (_ ∷ _ ∷ _ ∷ []) a b c d e f g i j k l n = absurd (omega arith)
head_written (_ ∷ _ ∷ _ ∷ _ ∷ []) a b c d e f g i j k l n = absurd (omega arith)
head_written (_ ∷ _ ∷ _ ∷ _ ∷ _ ∷ []) a b c d e f g i j k l n = absurd (omega arith)
head_written (_ ∷ _ ∷ _ ∷ _ ∷ _ ∷ _ ∷ []) a b c d e f g i j k l n = absurd (omega arith)
head_written (_ ∷ _ ∷ _ ∷ _ ∷ _ ∷ _ ∷ _ ∷ []) a b c d e f g i j k l n = absurd (omega arith)
head_written (_ ∷ _ ∷ _ ∷ _ ∷ _ ∷ _ ∷ _ ∷ _ ∷ []) a b c d e f g i j k l n = absurd (omega arith)
head_written (_ ∷ _ ∷ _ ∷ _ ∷ _ ∷ _ ∷ _ ∷ _ ∷ _ ∷ []) a b c d e f g i j k l n = absurd (omega arith)
head_written (_ ∷ _ ∷ _ ∷ _ ∷ _ ∷ _ ∷ _ ∷ _ ∷ _ ∷ _ ∷ []) a b c d e f g i j k l n = absurd (omega arith)
head_written (_ ∷ _ ∷ _ ∷ _ ∷ _ ∷ _ ∷ _ ∷ _ ∷ _ ∷ _ ∷ _ ∷ []) a b c d e f g i j k l n = refl
head_written (_ ∷ _ ∷ _ ∷ _ ∷ _ ∷ _ ∷ _ ∷ _ ∷ _ ∷ _ ∷ _ ∷ _ ∷ h) a b c d e f g i j k l n = absurd (omega arith)
