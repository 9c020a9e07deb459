-- What each reason says of the session and of the batch's arguments, as a statement; `told` of ExplainLaws proves it of every reason that is given.
use Rattle.std.specs.Prelude.{ℕ, ◌≤◌, ◌<◌, ◌≡◌, true, false, List, ◌∷◌, ◌↔◌, length}
use Rattle.std.proofs.Math.Option.{some}
use Rattle.spec_patch.specs.Patch.{Operation, Patch}
use Rattle.spec_patch.specs.Edition.{Edition}
use Rattle.spec_patch.specs.Read.{patches, read_set}
use Rattle.spec_checks.specs.Finding.{Finding}
use Rattle.spec_checks.specs.Findings.{findings}
use Rattle.spec_projection.specs.Projection.{Projection}
use Rattle.spec_projection.specs.Apply.{done, stopped, apply_operation, apply_steps, operations_of}
use Rattle.spec_session.specs.Session.{Session, closed}
use Rattle.spec_session.specs.Batch.{BatchEnvelope, absent_targets, takes_number}
use Rattle.spec_explain.specs.ReadingRule.{Unread}
use Rattle.spec_explain.specs.Locate.{locate}
use Rattle.spec_explain.specs.FirstByte.{FirstByte}
use Rattle.spec_explain.specs.Placed.{PlacedAt}
use Rattle.spec_explain.specs.OperationRule.{OperationRule, operation_fault, Breaks}
use Rattle.spec_explain.specs.Walk.{At, patch_id, steps_before, FirstLacking}
use Rattle.spec_explain.specs.Reason.{patch_limit, byte_limit, both_limits, Reason, foreign_session, session_closed, declared_limits, unreadable, has_findings, counts_differ, references_over, unknown_target, cursor_mismatch, operation_fails}
use Rattle.spec_explain.specs.Explain.{target_known, next_number}

-- the first operation that fails: those before it apply, and it does not, by this rule
pub record FirstFailing (p : Projection) (ps : List Patch) (i j : ℕ) (rule : OperationRule) : Type 0 where
  pub operation : Operation
  pub there : At ps i j operation
  pub reached : Projection
  pub applied : apply_steps p (steps_before there) ≡ done reached
  pub fails : apply_operation reached (patch_id there) operation ≡ stopped (operation_fault rule)
  pub breaks : Breaks reached operation rule

module _ (ed : Edition) (s : Session) (e : BatchEnvelope) (references : ℕ) (set : List ℕ) where
  pub data Says : Reason → Type 0 where
    -- step 1: the ids differ
    foreign : (e.session ≡ s.id → ⊥) → Says (foreign_session e.session s.id)
    -- step 2
    is_closed : s.lifecycle ≡ closed → Says session_closed
    -- step 3: the limit that is told is passed, and another that is not told is not
    many_patches : s.limits.patches < e.patches → e.stimulus_bytes ≤ s.limits.stimulus_bytes
        → Says (declared_limits patch_limit e.patches s.limits.patches e.stimulus_bytes s.limits.stimulus_bytes)
    many_bytes : e.patches ≤ s.limits.patches → s.limits.stimulus_bytes < e.stimulus_bytes
        → Says (declared_limits byte_limit e.patches s.limits.patches e.stimulus_bytes s.limits.stimulus_bytes)
    many_of_both : s.limits.patches < e.patches → s.limits.stimulus_bytes < e.stimulus_bytes
        → Says (declared_limits both_limits e.patches s.limits.patches e.stimulus_bytes s.limits.stimulus_bytes)
    -- step 4: the set is not read, the byte is the first, and so are patch and operation; or the checks found these
    not_read : (u : Unread) → locate ed set ≡ some u → FirstByte ed set u → PlacedAt ed set u.inside → Says (unreadable u)
    found : (ps : List Patch) → read_set ed set ≡ patches ps → (f : Finding) (fs : List Finding) → (findings ps).found ≡ f ∷ fs → Says (has_findings (findings ps).place (length (f ∷ fs)) f)
    -- step 5: not both counts are the actual ones
    differ : (ps : List Patch) → read_set ed set ≡ patches ps → (e.patches ≡ length ps → references ≡ length (operations_of ps) → ⊥)
        → Says (counts_differ e.patches (length ps) references (length (operations_of ps)))
    -- step 6
    many_references : (ps : List Patch) → read_set ed set ≡ patches ps → s.limits.references < length (operations_of ps) → Says (references_over (length (operations_of ps)) s.limits.references)
    -- step 7: so many, and the first of them
    unknown : (ps : List Patch) → read_set ed set ≡ patches ps → (i j : ℕ) → FirstLacking (target_known s.catalogue) ps i j → Says (unknown_target (absent_targets s.catalogue (operations_of ps)) i j)
    -- step 8: there are patches, the cursor does not take the number, and what it takes is just the number told
    not_taken : (e.patches ≡ 0 → ⊥) → takes_number s.cursor e.sequence ≡ false → ((n : ℕ) → (takes_number s.cursor n ≡ true) ↔ (next_number s.cursor ≡ some n))
        → Says (cursor_mismatch (next_number s.cursor))
    -- step 9
    fails : (ps : List Patch) → read_set ed set ≡ patches ps → (i j : ℕ) (rule : OperationRule) → FirstFailing s.projection ps i j rule → Says (operation_fails i j rule)

-- the session under another cap of diagnostics
unfoldable pub with_cap : ℕ → Session → Session
with_cap cap s = record {
  id = s.id;
  limits = record { stimulus_bytes = s.limits.stimulus_bytes; diagnostics = cap; patches = s.limits.patches; references = s.limits.references };
  catalogue = s.catalogue;
  lifecycle = s.lifecycle;
  cursor = s.cursor;
  projection = s.projection;
}
