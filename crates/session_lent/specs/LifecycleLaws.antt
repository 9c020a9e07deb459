-- A lifecycle step of a lent head is the step of the session that the slices hold.
use Rattle.std.specs.Prelude.{Option}
use Rattle.std.specs.Prelude.{ℕ, refl, List}
use Rattle.std.proofs.Math.Path.{◌≡◌, sym, ap, subst}
use Rattle.std.proofs.Common.{ap₂, ◌∙◌, arith}
use Rattle.std.proofs.Math.ListN.{set}
use Rattle.spec_session.specs.Session.{Limits, Lifecycle, Session}
use Rattle.spec_session.specs.Lifecycle.{Stimulus, applied, no_change, rejected, LocalState, LifecycleAnswer, state_of, with_lifecycle, lifecycle_step}
use Rattle.spec_session.specs.ValidSession.{FewAnchors}
use Rattle.spec_session.proofs.ValidSessionLaws.{lifecycle_step_unchanged, lifecycle_step_rest}
use Rattle.spec_lengths.specs.Lengths.{collection_lengths}
use Rattle.session_gates.specs.Lent.{Lent}
use Rattle.local_projection_state.specs.Stores.{StoredTables, StoredLengths, counts_of}
use Rattle.session_lifecycle.specs.Meaning.{lifecycle_of, disposition_means, answer_of, bare}
use Rattle.session_lifecycle.specs.MeaningLaws.{bare_answers}
use Rattle.session_lifecycle.specs.declared.lifecycle.ShellTransitionDisposition.{ShellTransitionDisposition}
use Rattle.session_lifecycle.specs.declared.lifecycle.ShellTransitionDisposition.TheVariants.{Applied, NoChange, Rejected}
use Rattle.session_lifecycle.specs.declared.lifecycle.ShellTransitionResult.{ShellTransitionResult}
use Rattle.session_lent.specs.Head.{lifecycle_number, state_at, limits_at, lent_head_of}
use Rattle.session_lent.specs.HeadLaws.{state_told, limits_told, entered_told}
use Rattle.session_lent.specs.LentSession.{LentSession}
use Rattle.session_lent.specs.Steps.{stepped_head, TransitionBecame, TransitionAnswered}

module _ (h : List ℕ) (u : Stimulus) (n : ℕ) (r : ShellTransitionResult) (answered : answer_of r ≡ (lifecycle_step (bare (limits_at h) (state_at h)) u n).answer)
    (m : Session) (nodes pairs collections b a e l : List ℕ) (holds : LentSession h nodes pairs collections b a e l m) where
  same_answer : answer_of r ≡ (lifecycle_step m u n).answer
  same_answer =
      answered
      ∙ ap₂ (λ (k : Limits) (t : LocalState). (lifecycle_step (bare k t) u n).answer) (limits_told h m holds.head_is) (state_told h m holds.head_is)
      ∙ bare_answers m u n

  entered : lifecycle_of r.state.lifecycle ≡ (lifecycle_step m u n).answer.state.lifecycle
  entered = ap (λ (x : LifecycleAnswer). x.state.lifecycle) same_answer

  abbrev number : ℕ
  number = lifecycle_number (lifecycle_of r.state.lifecycle)

  moved : LentSession (set h 1 number) nodes pairs collections b a e l (lifecycle_step m u n).next
  unfolding with_lifecycle
  moved =
      let rest = lifecycle_step_rest m u n in
      record {
        head_is =
            ap (λ (x : Lifecycle). set h 1 (lifecycle_number x)) entered
            ∙ entered_told h m holds.head_is (lifecycle_step m u n).answer.state.lifecycle
            ∙ sym (ap lent_head_of rest);
        anchors_are = subst (λ (s : Session). Lent s.catalogue nodes pairs collections) (sym rest) holds.anchors_are;
        few = subst (λ (s : Session). FewAnchors s.catalogue) (sym rest) holds.few;
        projection = subst (λ (s : Session). StoredTables (counts_of s.projection) b a e s.projection) (sym rest) holds.projection;
        collections_told = subst (λ (s : Session). StoredLengths l (collection_lengths s.projection)) (sym rest) holds.collections_told;
      }

  stays : ((lifecycle_step m u n).answer.disposition ≡ applied → ⊥) → LentSession h nodes pairs collections b a e l (lifecycle_step m u n).next
  stays not = subst (LentSession h nodes pairs collections b a e l) (sym (lifecycle_step_unchanged m u n not)) holds

  stepped : TransitionBecame r (stepped_head h r.disposition number) nodes pairs collections b a e l (lifecycle_step m u n)
  unfolding disposition_means
  stepped = record { answer = same_answer; next = go r.disposition (ap (λ (x : LifecycleAnswer). x.disposition) same_answer) }
    where
      go : (d : ShellTransitionDisposition) → disposition_means d ≡ (lifecycle_step m u n).answer.disposition → LentSession (stepped_head h d number) nodes pairs collections b a e l (lifecycle_step m u n).next
      go Applied is = moved
      go NoChange is = stays (λ k. let z : no_change ≡ applied = is ∙ k in absurd (let y : ◌≡◌ {A = ℕ} 0 1 = cc in omega arith))
      go Rejected is = stays (λ k. let z : rejected ≡ applied = is ∙ k in absurd (let y : ◌≡◌ {A = ℕ} 0 1 = cc in omega arith))

-- what was answered is the model's step, and the slices hold the session after it
pub transition_became : {h h' : List ℕ} {u : Stimulus} {n : ℕ} {r : Option ShellTransitionResult} (t : TransitionAnswered h u n r h') (m : Session) (nodes pairs collections b a e l : List ℕ)
    → LentSession h nodes pairs collections b a e l m → TransitionBecame t.result h' nodes pairs collections b a e l (lifecycle_step m u n)
transition_became {h = h} {u = u} {n = n} t m nodes pairs collections b a e l holds =
    subst (λ (x : List ℕ). TransitionBecame t.result x nodes pairs collections b a e l (lifecycle_step m u n)) (sym t.left) (stepped h u n t.result t.answer m nodes pairs collections b a e l holds)
