-- `check_set::list_patch::list_patch` meets its contract: its head, then its operations.
use Prim.Native.Nat.{ℕ}
use mathlib.Core.Path.{◌≡◌, ap, ap₂, ◌∙◌}
use mathlib.Core.List.{List, [], ◌++◌}
use lib.ListN.{length}
use Rattle.spec_patch.specs.Patch.{Envelope, Patch}
use Rattle.spec_checks.specs.Finding.{Finding, check_each}
use Rattle.spec_checks.specs.PatchChecks.{operation_findings, raw_patch_findings}
use Rattle.projection_patch.specs.Meaning.{envelope_of}
use Rattle.projection_patch.specs.declared.patch.ProjectionPatch.{ProjectionPatch}
use Rattle.patch_sets.specs.Walk.{head_of}
use Rattle.patch_sets.specs.SetAnswers.{head_to}
use Rattle.check_targets.specs.ToldLaws.{envelope_back}
use Rattle.check_findings.specs.InsertFindings.{inserted_all}
use Rattle.check_findings.specs.InsertFindingsLaws.{Inserted, inserted_then}
use Rattle.check_set.specs.Listed.{head_findings}
use Rattle.check_set.specs.ListedLaws.{listed_patch}
use borrow.Author.Rules.{rules}
use Rattle.check_set.proofs.list_patch.list_patch.Goals as goal

-- both lists are the patch's
list_is : (p : Patch) (head : ProjectionPatch) (id : ℕ) → head ≡ head_to (head_of p) → id ≡ p.envelope.id
    → head_findings (envelope_of head.envelope) head.operation_count ++ check_each (operation_findings id) [] p.operations ≡ raw_patch_findings p
list_is p head id placed same =
    ap₂ (λ (h : ProjectionPatch) (n : ℕ). head_findings (envelope_of h.envelope) h.operation_count ++ check_each (operation_findings n) [] p.operations) placed same
    ∙ ap (λ (e : Envelope). head_findings e (length p.operations) ++ check_each (operation_findings p.envelope.id) [] p.operations) (envelope_back p.envelope)
    ∙ listed_patch p

-- the table with the findings of the head, then of the operations
findings_of : (p : Patch) (head : ProjectionPatch) (id : ℕ) → head ≡ head_to (head_of p) → id ≡ p.envelope.id → (before middle after : List ℕ) (first last : ℕ)
    → Inserted (head_findings (envelope_of head.envelope) head.operation_count) 0 before first middle
    → Inserted (check_each (operation_findings id) [] p.operations) first middle last after
    → Inserted (raw_patch_findings p) 0 before last after
findings_of p head id placed same before middle after first last heads operations =
    let both = inserted_then _ _ _ _ _ _ _ _ heads operations in
    let list = list_is p head id placed same in
    (both.0 ∙ ap (λ (l : List Finding). (inserted_all l 0 before).0) list, both.1 ∙ ap (λ (l : List Finding). (inserted_all l 0 before).1) list)

pub returns-then-start-le-FEW : goal.returns-then-start-le-FEW
returns-then-start-le-FEW c =
    record {
      listed = λ p ps placed same here.
          let told = c.list_operations.ensures.listed p.operations ps here in
          (findings_of p c.args.head c.args.start.patch_id placed same _ _ _ _ _ (c.list_head-first.ensures.counted, c.list_head-first.ensures.numbers) told.0, told.1);
      patches = c.list_operations.ensures.patches;
    }

pub returns : goal.returns
returns c =
    record {
      listed = λ p ps placed same here.
          let told = c.list_operations-2.ensures.listed p.operations ps here in
          (findings_of p c.args.head c.args.start.patch_id placed same _ _ _ _ _ (c.list_head-first.ensures.counted, c.list_head-first.ensures.numbers) told.0, told.1);
      patches = c.list_operations-2.ensures.patches;
    }
