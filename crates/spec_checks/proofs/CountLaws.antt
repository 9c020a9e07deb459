-- How many findings there can be at most: two for each operation and four for a patch, five for each patch of a set but the first.
use Rattle.std.specs.Prelude.{ℕ, suc, ◌+◌, ◌*◌, ◌-◌, ◌≤◌, max, Bool, true, false, List, [], ◌∷◌, ◌++◌, length}
use Rattle.std.proofs.Common.{subst, suc-mul, le_trans, arith, length-append}
use Rattle.spec_lists.specs.Lists.{All}
use Rattle.spec_lists.proofs.ListLaws.{if_cases, all_right, all_map}
use Rattle.spec_lists.proofs.OrderLaws.{sort_unique_length}
use Rattle.spec_patch.specs.Sizes.{set_patches, patch_operations}
use Rattle.spec_patch.specs.Patch.{Operation, Envelope, Patch}
use Rattle.spec_patch.specs.Edition.{Edition}
use Rattle.spec_patch.specs.Fits.{FitsPatch, Fits}
use Rattle.spec_checks.specs.Finding.{Finding, finding_key, report, check_each}
use Rattle.spec_checks.specs.PatchChecks.{operation_findings, envelope_findings, raw_patch_findings, patch_findings}
use Rattle.spec_checks.specs.SetChecks.{is_last_sequence, is_same_sequence, is_next_sequence, sequence_findings, pair_findings, duplicate_id_findings, previous_findings, after_findings, raw_set_findings, set_findings}
use Rattle.spec_checks.specs.Findings.{Findings, findings}
use Rattle.spec_checks.specs.Rules.{Ended, at_patch, at_set}
use Rattle.spec_checks.proofs.FindingsLaws.{findings_ended}

report_length : (t : Bool) (f : Finding) → length (report t f) ≤ 1
unfolding report
report_length true f = omega arith
report_length false f = omega arith

report_more : (t : Bool) (f : Finding) (others : List Finding) (n : ℕ) → length others ≤ n → length (report t f ++ others) ≤ suc n
report_more t f others n h = omega (arith, length-append (report t f) others, report_length t f)

check_each_length : {A : Type 0} (check : List A → A → List Finding) (n : ℕ) → ((earlier : List A) (x : A) → length (check earlier x) ≤ n)
    → (earlier xs : List A) → length (check_each check earlier xs) ≤ length xs * n
unfolding check_each
check_each_length check n h earlier [] = omega arith
check_each_length check n h earlier (x ∷ xs) =
    omega (arith, length-append (check earlier x) (check_each check (x ∷ earlier) xs), h earlier x, check_each_length check n h (x ∷ earlier) xs, suc-mul (length xs) n)

-- ---- one patch

operation_length : (id : ℕ) (earlier : List Operation) (o : Operation) → length (operation_findings id earlier o) ≤ 2
unfolding operation_findings
operation_length id earlier o = report_more _ _ _ 1 (report_length _ _)

envelope_length : (e : Envelope) → length (envelope_findings e) ≤ 3
unfolding envelope_findings
envelope_length e = report_more _ _ _ 2 (report_more _ _ _ 1 (report_length _ _))

pub raw_patch_length : (p : Patch) → length (raw_patch_findings p) ≤ 2 * length p.operations + 4
unfolding raw_patch_findings
raw_patch_length p =
    let each = check_each (operation_findings p.envelope.id) [] p.operations in
    let operations = check_each_length (operation_findings p.envelope.id) 2 (operation_length p.envelope.id) [] p.operations in
    let others : length (envelope_findings p.envelope ++ each) ≤ 2 * length p.operations + 3 = omega (arith, length-append (envelope_findings p.envelope) each, envelope_length p.envelope) in
    le_trans (report_more _ _ _ _ others) (omega arith)

pub patch_length : (p : Patch) → length (patch_findings p) ≤ 2 * length p.operations + 4
unfolding patch_findings
patch_length p = omega (arith, sort_unique_length finding_key (raw_patch_findings p), raw_patch_length p)

-- ---- a set

record AtMostOne (l : List Finding) : Type 0 where
  bound : length l ≤ 1

single : (f : Finding) → AtMostOne (f ∷ [])
single f = record { bound = omega arith }

one_sequence : (q e : Envelope) → AtMostOne (sequence_findings q e)
unfolding sequence_findings
one_sequence q e =
    if_cases AtMostOne (is_last_sequence q) _ _ (λ t. single _) λ n.
    if_cases AtMostOne (is_same_sequence q e) _ _ (λ t. single _) λ k.
    if_cases AtMostOne (is_next_sequence q e) _ _ (λ t. record { bound = report_length _ _ }) (λ l. single _)

-- at most one of the kinds 1, 5, 11 and 12
pub sequence_length : (q e : Envelope) → length (sequence_findings q e) ≤ 1
sequence_length q e = (one_sequence q e).bound

previous_length : (earlier : List Patch) (p : Patch) → length (previous_findings earlier p) ≤ 4
unfolding previous_findings pair_findings
previous_length [] p = omega arith
previous_length (q ∷ earlier) p = report_more _ _ _ 3 (report_more _ _ _ 2 (report_more _ _ _ 1 (sequence_length q.envelope p.envelope)))

after_length : (earlier : List Patch) (p : Patch) → length (after_findings earlier p) ≤ 5
unfolding after_findings duplicate_id_findings
after_length earlier p = report_more _ _ _ 4 (previous_length earlier p)

pub raw_set_length : (ps : List Patch) → length (raw_set_findings ps) ≤ 5 * (length ps - 1)
unfolding raw_set_findings check_each after_findings duplicate_id_findings previous_findings report
raw_set_length [] = omega arith
raw_set_length (p ∷ ps) = omega (arith, check_each_length after_findings 5 after_length (p ∷ []) ps)

pub set_length : (ps : List Patch) → length (set_findings ps) ≤ 5 * (length ps - 1)
unfolding set_findings
set_length ps = omega (arith, sort_unique_length finding_key (raw_set_findings ps), raw_set_length ps)

-- ---- the whole check

ended_length : (n : ℕ) (ps : List Patch) (r : Findings) → All (λ (p : Patch). length p.operations ≤ n) ps → Ended ps r → length r.found ≤ max (2 * n + 4) (5 * (length ps - 1))
ended_length n ps r few (at_patch a p b s h some e) =
    let here = (all_right (λ (p : Patch). length p.operations ≤ n) a (p ∷ b) (subst (All _) s few)).0 in
    rw e (omega (arith, patch_length p))
ended_length n ps r few (at_set h e) = rw e (omega (arith, set_length ps))

pub findings_length : (n : ℕ) (ps : List Patch) → All (λ (p : Patch). length p.operations ≤ n) ps → length (findings ps).found ≤ max (2 * n + 4) (5 * (length ps - 1))
findings_length n ps few = ended_length n ps (findings ps) few (findings_ended ps)

-- of a list that an edition can hold
pub findings_most : (ed : Edition) (ps : List Patch) → Fits ed ps → length (findings ps).found ≤ max (2 * patch_operations + 4) (5 * (set_patches - 1))
findings_most ed ps h = omega (arith, findings_length patch_operations ps (all_map (FitsPatch ed) _ (λ p k. k.few) ps h.patches))
