-- What the exported calls promise: an answer of the call below, told as numbers, and the memory as that call leaves it.
use Rattle.std.specs.Prelude.{Option}
use Rattle.std.specs.Prelude.{ℕ, ◌<◌, ◌≤◌, ◌≡◌, List}
use Rattle.std.proofs.Common.{subst}
use Rattle.spec_patch.specs.Edition.{Edition}
use Rattle.spec_session.specs.Session.{Limits}
use Rattle.spec_session.specs.Lifecycle.{Stimulus}
use Rattle.spec_session.specs.Batch.{BatchEnvelope}
use Rattle.panel_changes.specs.PlanMemory.{PlanTables}
use Rattle.session_lent.specs.Steps.{TransitionCall, CreationCall}
use Rattle.session_lent.specs.Batches.{SameHalf, BatchCallOnSlices}
use Rattle.session_steps.specs.declared.answers.ProjectionPatchApplicationResult.{ProjectionPatchApplicationResult}
use Rattle.session_lifecycle.specs.declared.lifecycle.ShellTransitionResult.{ShellTransitionResult}
use Rattle.c_answers.specs.declared.answers.GeysertrayAnswer.{GeysertrayAnswer}
use Rattle.c_answers.specs.declared.answers.GeysertrayLifecycle.{GeysertrayLifecycle}
use Rattle.c_answers.specs.Answers.{batch_told, step_told, creation_told, session_absent, no_step}
use Rattle.c_answers.specs.Asked.{command_at, edition_at}

-- a call below answers, and what it answers is told as numbers
pub record Told {A R : Type 0} (tells : A → R) (Call : A → Type 0) (r : R) : Type 0 where
  pub answer : A
  pub call : Call answer
  pub told : r ≡ tells answer

abbrev pub ExportedCreation : (id : ℕ) (limits : Limits) (nodes pairs collections head b a e l : List ℕ) (r : ℕ) (head' b' a' e' l' : List ℕ) → Type 0
ExportedCreation id limits nodes pairs collections head b a e l r head' b' a' e' l' =
    Told creation_told (λ answer. CreationCall id limits nodes pairs collections head b a e l answer head' b' a' e' l') r

-- a step that was called
abbrev pub SteppedAs : (command n : ℕ) (h : List ℕ) (r : GeysertrayLifecycle) (h' : List ℕ) → Type 0
SteppedAs command n h r h' = Told step_told (λ answer. TransitionCall h (command_at command) n answer h') r

pub record ExportedStep (command n : ℕ) (h : List ℕ) (r : GeysertrayLifecycle) (h' : List ℕ) : Type 0 where
  pub known : command ≤ 4 → SteppedAs command n h r h'
  pub unknown : 4 < command → (r ≡ no_step 4) × (h' ≡ h)

module _ (edition : ℕ) (v : BatchEnvelope) (declared : ℕ) (set head nodes pairs collections b a e toH toB toA toE toL : List ℕ) (plan : PlanTables) where
  -- a batch that was called
  abbrev pub BatchedAs : (r : GeysertrayAnswer) (h' b' a' e' l' : List ℕ) → Type 0
  BatchedAs r h' b' a' e' l' =
      Told batch_told (λ answer. BatchCallOnSlices (edition_at edition) v declared set head nodes pairs collections b a e toH toB toA toE toL plan answer h' b' a' e' l') r

  pub record ExportedBatch (r : GeysertrayAnswer) (h' b' a' e' l' : List ℕ) : Type 0 where
    pub known : 1 ≤ edition → edition ≤ 2 → BatchedAs r h' b' a' e' l'
    pub low : edition < 1 → (r ≡ session_absent 4) × SameHalf toH toB toA toE toL h' b' a' e' l'
    pub high : 2 < edition → (r ≡ session_absent 4) × SameHalf toH toB toA toE toL h' b' a' e' l'

-- ---- a call told otherwise

module _ {v : BatchEnvelope} {declared : ℕ} {set head nodes pairs collections b a e toH toB toA toE toL : List ℕ} {plan : PlanTables} {r : Option ProjectionPatchApplicationResult} {h' b' a' e' l' : List ℕ} where
  pub same_edition : {x y : Edition} → x ≡ y → BatchCallOnSlices x v declared set head nodes pairs collections b a e toH toB toA toE toL plan r h' b' a' e' l' → BatchCallOnSlices y v declared set head nodes pairs collections b a e toH toB toA toE toL plan r h' b' a' e' l'
  same_edition is = subst (λ ed. BatchCallOnSlices ed v declared set head nodes pairs collections b a e toH toB toA toE toL plan r h' b' a' e' l') is

pub same_stimulus : {h : List ℕ} {u w : Stimulus} {n : ℕ} {r : Option ShellTransitionResult} {h' : List ℕ} → u ≡ w → TransitionCall h u n r h' → TransitionCall h w n r h'
same_stimulus {h = h} {n = n} {r = r} {h' = h'} is = subst (λ u. TransitionCall h u n r h') is
