-- The steps of a batch with their reasons, by what each of them looks at: 01, 'One batch, from entry to leaf'. `StepsLaws.antt` proves that in their
-- order they are `explain_steps`.
use Rattle.std.specs.Prelude.{ℕ, not, ◌&&◌, ◌||◌, List, leb, eqb, length}
use Rattle.spec_patch.specs.Edition.{Edition}
use Rattle.spec_patch.specs.Patch.{Patch}
use Rattle.spec_patch.specs.Read.{read_set}
use Rattle.spec_checks.specs.Findings.{findings}
use Rattle.spec_projection.specs.Apply.{operations_of}
use Rattle.spec_session.specs.Session.{Lifecycle, Cursor, Limits, Catalogue}
use Rattle.spec_session.specs.Lifecycle.{is_closed}
use Rattle.spec_session.specs.Batch.{BatchEnvelope, absent_targets, takes_number}
use Rattle.spec_explain.specs.Locate.{locate}
use Rattle.spec_explain.specs.Walk.{walk_patches, tested}
use Rattle.spec_explain.specs.Reason.{foreign_session, session_closed, declared_limits, counts_differ, references_over, cursor_mismatch}
use Rattle.spec_explain.specs.Explain.{Explained, ◌>>=◌, ◌>>◌, require_or, which_limit, patches_read, patches_readable, no_findings, target_known, targets_known, next_number}

-- step 3
unfoldable pub declared_by : Limits → BatchEnvelope → Explained (Unit {0})
declared_by l e =
    require_or (leb e.patches l.patches && leb e.stimulus_bytes l.stimulus_bytes)
    (declared_limits (which_limit (leb e.patches l.patches) (leb e.stimulus_bytes l.stimulus_bytes)) e.patches l.patches e.stimulus_bytes l.stimulus_bytes)

-- steps 1 to 3
unfoldable pub explain_preflight_by : ℕ → Limits → Lifecycle → BatchEnvelope → Explained (Unit {0})
explain_preflight_by id l life e = require_or (eqb e.session id) (foreign_session e.session id) >> (require_or (not (is_closed life)) session_closed >> declared_by l e)

-- step 6, with the actual count
unfoldable pub references_by : Limits → ℕ → Explained (Unit {0})
references_by l k = require_or (leb k l.references) (references_over k l.references)

-- steps 5 and 6, with the actual counts
unfoldable pub explain_counts_by : Limits → BatchEnvelope → ℕ → ℕ → ℕ → Explained (Unit {0})
explain_counts_by l e declared n k = require_or (eqb e.patches n && eqb declared k) (counts_differ e.patches n declared k) >> references_by l k

-- step 8
unfoldable pub explain_replay_by : Cursor → BatchEnvelope → Explained (Unit {0})
explain_replay_by c e = require_or (eqb e.patches 0 || takes_number c e.sequence) (cursor_mismatch (next_number c))

-- steps 5 to 8, with the actual counts, and so many absent targets
unfoldable pub clean_by : Catalogue → Limits → Cursor → BatchEnvelope → ℕ → (patches references absent : ℕ) → List Patch → Explained (Unit {0})
clean_by c l cursor e declared n k absent ps = explain_counts_by l e declared n k >> (targets_known absent (walk_patches (tested (target_known c)) 0 tt ps) >> explain_replay_by cursor e)

-- steps 4 to 8
unfoldable pub set_by : Edition → Catalogue → Limits → Cursor → BatchEnvelope → ℕ → List ℕ → Explained (Unit {0})
set_by ed c l cursor e declared set =
    patches_readable (locate ed set) (patches_read (read_set ed set))
    >>= (λ ps. no_findings (findings ps).place (findings ps).found >> clean_by c l cursor e declared (length ps) (length (operations_of ps)) (absent_targets c (operations_of ps)) ps)

-- steps 1 to 8
unfoldable pub checks_by : Edition → ℕ → Limits → Lifecycle → Cursor → Catalogue → BatchEnvelope → ℕ → List ℕ → Explained (Unit {0})
checks_by ed id l life cursor c e declared set = explain_preflight_by id l life e >> set_by ed c l cursor e declared set
