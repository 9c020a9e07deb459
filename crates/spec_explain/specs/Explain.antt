-- The rule behind a batch's refusal: 01's steps 1 to 9, each with its reason in place of its number. The session is not changed.
use Rattle.std.specs.Prelude.{ℕ, ◌+◌, Bool, true, false, not, ◌&&◌, ◌||◌, List, [], ◌∷◌, leb, ltb, eqb, length, if◌then◌else◌}
use Rattle.std.proofs.Math.Option.{Option, none, some}
use Rattle.spec_patch.specs.Sizes.{largest_u64}
use Rattle.spec_patch.specs.Patch.{Operation, Patch}
use Rattle.spec_patch.specs.Edition.{Edition}
use Rattle.spec_patch.specs.Read.{SetReading, patches, fault, read_set}
use Rattle.spec_checks.specs.Finding.{Finding}
use Rattle.spec_checks.specs.Findings.{Place, findings}
use Rattle.spec_projection.specs.Projection.{Projection}
use Rattle.spec_projection.specs.Effects.{target_of}
use Rattle.spec_projection.specs.Apply.{Outcome, done, stopped, apply_operation, operations_of}
use Rattle.spec_session.specs.Session.{Cursor, uninitialized, at, Catalogue, Session}
use Rattle.spec_session.specs.Lifecycle.{is_closed}
use Rattle.spec_session.specs.Batch.{BatchEnvelope, in_catalogue, absent_targets, takes_number}
use Rattle.spec_explain.specs.ReadingRule.{Unread}
use Rattle.spec_explain.specs.Locate.{locate}
use Rattle.spec_explain.specs.OperationRule.{rule_of}
use Rattle.spec_explain.specs.Walk.{Walk, through, halted, walk_patches, tested}
use Rattle.spec_explain.specs.Reason.{Limit, patch_limit, byte_limit, both_limits, Reason, foreign_session, session_closed, declared_limits, unreadable, has_findings, counts_differ, references_over, unknown_target, cursor_mismatch, operation_fails, reason_number}

-- ---- steps, of which the first that is refused gives the reason

pub data Explained (A : Type 0) : Type 0 where
  fine : A → Explained A
  because : Reason → Explained A

infixl 10 ◌>>=◌
infixl 10 ◌>>◌
abbrev pub ◌>>=◌ : {A B : Type 0} → Explained A → (A → Explained B) → Explained B
fine a >>= f = f a
because r >>= f = because r

abbrev pub ◌>>◌ : {B : Type 0} → Explained (Unit {0}) → Explained B → Explained B
fine u >> c = c
because r >> c = because r

unfoldable pub require_or : Bool → Reason → Explained (Unit {0})
require_or true r = fine tt
require_or false r = because r

-- ---- the reasons with figures of their own

-- step 3: one of the two limits is passed, or both
unfoldable pub which_limit : (patchesFit bytesFit : Bool) → Limit
which_limit true bytesFit = byte_limit
which_limit false true = patch_limit
which_limit false false = both_limits

unfoldable pub over_declared : Session → BatchEnvelope → Reason
over_declared s e =
    declared_limits (which_limit (leb e.patches s.limits.patches) (leb e.stimulus_bytes s.limits.stimulus_bytes))
    e.patches s.limits.patches e.stimulus_bytes s.limits.stimulus_bytes

-- step 4: the patches that were read; there are none where reading stopped
unfoldable pub patches_read : SetReading → List Patch
patches_read (patches ps) = ps
patches_read (fault f) = []

unfoldable pub patches_readable : Option Unread → List Patch → Explained (List Patch)
patches_readable none ps = fine ps
patches_readable (some u) ps = because (unreadable u)

-- the first of the findings, which are sorted
unfoldable pub no_findings : Place → List Finding → Explained (Unit {0})
no_findings place [] = fine tt
no_findings place (f ∷ fs) = because (has_findings place (length (f ∷ fs)) f)

-- step 7: the operation's target is in the catalogue
unfoldable pub target_known : Catalogue → Operation → Bool
target_known c o = in_catalogue c (target_of o)

unfoldable pub targets_known : ℕ → Walk (Unit {0}) → Explained (Unit {0})
targets_known absent (through u) = fine tt
targets_known absent (halted h) = because (unknown_target absent h.patch h.operation)

-- step 8: the one number that the cursor takes; Uninitialized asks for none, and after 2^64−1 there is none
unfoldable pub next_number : Cursor → Option ℕ
next_number uninitialized = none
next_number (at n) = if ltb n largest_u64 then some (n + 1) else none

-- step 9: an operation that applies lets the walk go on
unfoldable pub kept_projection : Outcome → Option Projection
kept_projection (done p) = some p
kept_projection (stopped f) = none

unfoldable pub step_kept : Projection → ℕ → Operation → Option Projection
step_kept p id o = kept_projection (apply_operation p id o)

unfoldable pub applies : Walk Projection → Explained (Unit {0})
applies (through p) = fine tt
applies (halted h) = because (operation_fails h.patch h.operation (rule_of h.left h.refused))

-- ---- steps 1 to 9

unfoldable pub explain_steps : Edition → Session → BatchEnvelope → ℕ → List ℕ → Explained (Unit {0})
explain_steps ed s e references set = do
  require_or (eqb e.session s.id) (foreign_session e.session s.id)
  require_or (not (is_closed s.lifecycle)) session_closed
  require_or (leb e.patches s.limits.patches && leb e.stimulus_bytes s.limits.stimulus_bytes) (over_declared s e)
  ps ← patches_readable (locate ed set) (patches_read (read_set ed set))
  no_findings (findings ps).place (findings ps).found
  require_or (eqb e.patches (length ps) && eqb references (length (operations_of ps))) (counts_differ e.patches (length ps) references (length (operations_of ps)))
  require_or (leb (length (operations_of ps)) s.limits.references) (references_over (length (operations_of ps)) s.limits.references)
  targets_known (absent_targets s.catalogue (operations_of ps)) (walk_patches (tested (target_known s.catalogue)) 0 tt ps)
  require_or (eqb e.patches 0 || takes_number s.cursor e.sequence) (cursor_mismatch (next_number s.cursor))
  applies (walk_patches step_kept 0 s.projection ps)

unfoldable pub reason_of : Explained (Unit {0}) → Option Reason
reason_of (fine u) = none
reason_of (because r) = some r

-- why a batch is refused, or none: the set's edition, the envelope, the declared count of target references, the bytes of the set
unfoldable pub explain_batch : Edition → Session → BatchEnvelope → ℕ → List ℕ → Option Reason
explain_batch ed s e references set = reason_of (explain_steps ed s e references set)

-- ---- the call

-- under a cap of 0 the reason is withheld, as the number is in the session's answers, and only that there is one is told
pub data Explanation : Type 0 where
  no_reason : Explanation
  withheld : Explanation
  given : Reason → Explanation

unfoldable pub under_cap : ℕ → Option Reason → Explanation
under_cap cap none = no_reason
under_cap cap (some r) = if eqb cap 0 then withheld else given r

-- the number that the call tells; 0 for none
unfoldable pub explanation_number : Explanation → ℕ
explanation_number no_reason = 0
explanation_number withheld = 0
explanation_number (given r) = reason_number r

unfoldable pub explain : Edition → Session → BatchEnvelope → ℕ → List ℕ → Explanation
explain ed s e references set = under_cap s.limits.diagnostics (explain_batch ed s e references set)
