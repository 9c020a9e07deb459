-- One batch, from entry to leaf: 01's steps 1 to 9.
use Rattle.std.specs.Prelude.{ℕ, ◌+◌, Bool, true, false, not, ◌&&◌, ◌||◌, List, [], ◌∷◌, leb, ltb, eqb, length, if◌then◌else◌}
use Rattle.spec_lists.specs.Lists.{any, is_empty}
use Rattle.spec_patch.specs.Sizes.{largest_u64}
use Rattle.spec_patch.specs.Patch.{Operation, Patch}
use Rattle.spec_patch.specs.Edition.{Edition}
use Rattle.spec_patch.specs.Read.{SetReading, patches, fault, read_set}
use Rattle.spec_checks.specs.Findings.{findings}
use Rattle.spec_projection.specs.Projection.{Projection}
use Rattle.spec_projection.specs.Effects.{Target, binding_target, node_target, collection_target, target_of}
use Rattle.spec_projection.specs.Apply.{Outcome, done, stopped, apply_steps, replay_steps, operations_of}
use Rattle.spec_session.specs.Session.{Cursor, uninitialized, at, BindingPair, Catalogue, Session}
use Rattle.spec_session.specs.Diagnostics.{SessionRefusal, session_mismatch, session_closed, limit_exceeded, counts_differ, unknown_target, cursor_mismatch, checks_failed, of_reading, of_operation, Diagnostics, no_diagnostics, diagnostics_of}
use Rattle.spec_session.specs.Lifecycle.{is_closed, Disposition, applied, no_change, rejected}

-- the batch's own envelope
pub record BatchEnvelope : Type 0 where
  pub session : ℕ
  pub sequence : ℕ
  pub patches : ℕ
  pub stimulus_bytes : ℕ

-- disposition, diagnostics and the cursor after the call
pub record BatchAnswer : Type 0 where
  pub disposition : Disposition
  pub diagnostics : Diagnostics
  pub cursor : Cursor

pub record BatchStep : Type 0 where
  pub next : Session
  pub answer : BatchAnswer

-- ---- checks, of which the first that fails ends the call

-- a check passes with a value, or refuses with a logical count
pub data Check (A : Type 0) : Type 0 where
  pass : A → Check A
  refuse : SessionRefusal → (logical : ℕ) → Check A

infixl 10 ◌>>=◌
infixl 10 ◌>>◌
abbrev pub ◌>>=◌ : {A B : Type 0} → Check A → (A → Check B) → Check B
pass a >>= f = f a
refuse r n >>= f = refuse r n

abbrev pub ◌>>◌ : {B : Type 0} → Check (Unit {0}) → Check B → Check B
pass u >> c = c
refuse r n >> c = refuse r n

-- the test passes, or there is one diagnostic
unfoldable pub require : Bool → SessionRefusal → Check (Unit {0})
require true r = pass tt
require false r = refuse r 1

-- step 4, first half: the bytes are readable
unfoldable pub readable : SetReading → Check (List Patch)
readable (patches ps) = pass ps
readable (fault f) = refuse (of_reading f) 1

-- the manifest has one target for each operation; a target is in the catalogue as a binding (node, slot), a node or a collection
unfoldable pub in_catalogue : Catalogue → Target → Bool
in_catalogue c (binding_target node slot) = any (λ (b : BindingPair). eqb b.node node && eqb b.slot slot) c.bindings
in_catalogue c (node_target node) = any (eqb node) c.nodes
in_catalogue c (collection_target collection) = any (eqb collection) c.collections

-- how many operations have an absent target, repeats included
unfoldable pub absent_targets : Catalogue → List Operation → ℕ
absent_targets c [] = 0
absent_targets c (o ∷ os) = (if in_catalogue c (target_of o) then 0 else 1) + absent_targets c os

-- step 7: every target is known, else 6 with one diagnostic for each that is absent
unfoldable pub known_targets : ℕ → Check (Unit {0})
known_targets absent = if eqb absent 0 then pass tt else refuse unknown_target absent

-- step 8: Uninitialized takes any number, At(n) only n+1, At(2^64−1) none
unfoldable pub takes_number : Cursor → ℕ → Bool
takes_number uninitialized n = true
takes_number (at m) n = ltb m largest_u64 && eqb n (m + 1)

-- steps 1 to 8, in order, of a set in an edition; they pass with the patches that were read
unfoldable pub batch_checks : Edition → Session → BatchEnvelope → ℕ → List ℕ → Check (List Patch)
batch_checks ed s e references set = do
  require (eqb e.session s.id) session_mismatch
  require (not (is_closed s.lifecycle)) session_closed
  require (leb e.patches s.limits.patches && leb e.stimulus_bytes s.limits.stimulus_bytes) limit_exceeded
  ps ← readable (read_set ed set)
  require (is_empty (findings ps).found) checks_failed
  require (eqb e.patches (length ps) && eqb references (length (operations_of ps))) counts_differ
  require (leb (length (operations_of ps)) s.limits.references) limit_exceeded
  known_targets (absent_targets s.catalogue (operations_of ps))
  require (eqb e.patches 0 || takes_number s.cursor e.sequence) cursor_mismatch
  pass ps

-- ---- the answers

-- every rejection leaves the session as found
unfoldable pub reject_batch : Session → SessionRefusal → ℕ → BatchStep
reject_batch s refusal logical = record {
  next = s;
  answer = record { disposition = rejected; diagnostics = diagnostics_of s.limits.diagnostics refusal logical; cursor = s.cursor };
}

-- patch count 0 answers NoChange
unfoldable pub keep_session : Session → BatchStep
keep_session s = record { next = s; answer = record { disposition = no_change; diagnostics = no_diagnostics; cursor = s.cursor } }

-- the session after a batch: the cursor becomes At(sequence number), and the copy takes the projection's place
unfoldable pub advanced : Session → ℕ → Projection → Session
advanced s n p = record { id = s.id; limits = s.limits; catalogue = s.catalogue; lifecycle = s.lifecycle; cursor = at n; projection = p }

unfoldable pub apply_batch : Session → ℕ → Projection → BatchStep
apply_batch s n p = record { next = advanced s n p; answer = record { disposition = applied; diagnostics = no_diagnostics; cursor = at n } }

-- step 9: all operations apply in order to a copy; the first that fails ends it
unfoldable pub candidate : Session → List Patch → Outcome
candidate s ps = apply_steps s.projection (replay_steps ps)

-- a failed operation gives 8 or 9, and the copy is dropped
unfoldable pub commit : Session → BatchEnvelope → Outcome → BatchStep
commit s e (stopped f) = reject_batch s (of_operation f) 1
commit s e (done p) = if eqb e.patches 0 then keep_session s else apply_batch s e.sequence p

unfoldable pub conclude_batch : Session → BatchEnvelope → Check (List Patch) → BatchStep
conclude_batch s e (refuse r n) = reject_batch s r n
conclude_batch s e (pass ps) = commit s e (candidate s ps)

-- one batch: the set's edition, the envelope, the declared count of target references, the bytes of the set
unfoldable pub batch : Edition → Session → BatchEnvelope → ℕ → List ℕ → BatchStep
batch ed s e references set = conclude_batch s e (batch_checks ed s e references set)
