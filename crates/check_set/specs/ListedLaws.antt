-- What is listed is what spec_checks finds, at the place that it names, and the table has room for it.
use Rattle.std.specs.Prelude.{ℕ, ◌+◌, ◌*◌, ◌≤◌, ◌<◌, ◌≡◌, Bool, eqb, take}
use Rattle.std.proofs.Math.Path.{refl, sym, ap, subst}
use Rattle.std.proofs.Common.{ap₂, ◌∙◌, arith}
use mathlib.Core.List.Memᴰ
use mathlib.Core.List.{List, [], ◌∷◌, ◌++◌, append_assoc, flat_map, map, reverse, Memᴰ}
use Rattle.std.proofs.Math.ListN.{length}
use Rattle.std.proofs.lemmas.List.{length-reverse}
use Rattle.spec_lists.proofs.ListLaws.{any_reverse, empty_count}
use Rattle.spec_lists.specs.Order.{sort_unique}
use Rattle.spec_lists.proofs.OrderLaws.{upsert_new}
use Rattle.spec_lists.proofs.ListLaws.{any_map}
use Rattle.spec_patch.specs.Sizes.{patch_operations}
use Rattle.spec_patch.specs.Patch.{Operation, Patch}
use Rattle.spec_checks.specs.Finding.{Finding, finding, finding_key, kind_number, report, check_each, empty_operations, duplicate_patch_id}
use Rattle.spec_checks.specs.Target.{mutation_target}
use Rattle.spec_checks.specs.PatchChecks.{before_self_lem, operation_findings, envelope_findings, raw_patch_findings, patch_findings}
use Rattle.spec_checks.specs.SetChecks.{duplicate_id_findings, previous_findings, after_findings}
use Rattle.spec_checks.specs.Findings.{Place, in_patch, Findings, first_findings}
use Rattle.spec_checks.specs.Answer.{record_length}
use Rattle.spec_checks.proofs.CountLaws.{raw_patch_length}
use Rattle.check_targets.specs.Targets.{target_numbers, target_seen}
use Rattle.check_targets.specs.TargetsLaws.{seen_earlier}
use Rattle.check_table.specs.FindingTable.{KeptFindings}
use Rattle.check_table.specs.FindingTableLaws.{kept_none}
use Rattle.check_findings.specs.EnvelopeChecks.{envelope_row}
use Rattle.check_findings.specs.Ids.{id_seen}
use Rattle.check_findings.specs.InsertFindings.{inserted_all}
use Rattle.check_findings.specs.InsertFindingsLaws.{Inserted, kept_all}
use Rattle.check_quick.specs.QuickLaws.{id_of, last_envelope}
use Rattle.check_set.specs.Listed.{table_length, head_findings, previous_listed, after_listed, listed_to, FindingsListedAs}

-- ---- a patch

-- an operation after those that are done, by their targets and their number
pub listed_operation : (id : ℕ) (done : List Operation) (o : Operation)
    → report (before_self_lem o) (envelope_row 2 id (length done)) ++ report (target_seen (mutation_target o) (flat_map target_numbers done)) (envelope_row 3 id (length done)) ≡ operation_findings id (reverse done) o
unfolding operation_findings kind_number
listed_operation id done o =
    ap₂ (λ (t : Bool) (i : ℕ). report (before_self_lem o) (envelope_row 2 id i) ++ report t (envelope_row 3 id i)) (seen_earlier o done) (sym (length-reverse done))

-- its head, then its operations
pub listed_patch : (p : Patch) → head_findings p.envelope (length p.operations) ++ check_each (operation_findings p.envelope.id) [] p.operations ≡ raw_patch_findings p
unfolding head_findings raw_patch_findings
listed_patch p =
    let id = p.envelope.id in
    let own = check_each (operation_findings id) [] p.operations in
    append_assoc (report (eqb (length p.operations) 0) (finding empty_operations id 0)) (envelope_findings p.envelope) own
    ∙ ap (λ (t : Bool). report t (finding empty_operations id 0) ++ (envelope_findings p.envelope ++ own)) (empty_count p.operations)

-- ---- a patch after earlier ones

previous_listed_lem : (earlier : List Patch) (p : Patch) → previous_listed (last_envelope earlier) p.envelope ≡ previous_findings earlier p
unfolding previous_listed previous_findings
previous_listed_lem [] p = refl
previous_listed_lem (q ∷ earlier) p = refl

pub after_listed_lem : (done : List Patch) (p : Patch) → after_listed (map id_of done) (last_envelope (reverse done)) p.envelope ≡ after_findings (reverse done) p
unfolding after_listed after_findings duplicate_id_findings id_seen
after_listed_lem done p =
    let same : ℕ → Bool = λ n. eqb n p.envelope.id in
    ap₂ (λ (t : Bool) (l : List Finding). report t (finding duplicate_patch_id p.envelope.id p.envelope.sequence) ++ l)
    (any_map id_of same (λ (q : Patch). same (id_of q)) (λ q. refl) done ∙ sym (any_reverse (λ (q : Patch). eqb q.envelope.id p.envelope.id) done)) (previous_listed_lem (reverse done) p)

-- ---- tables

some_member : {x : Finding} (l : List Finding) → Memᴰ x l → 0 < length l
some_member [] m = absurd (Memᴰ.not-nil m)
some_member (y ∷ l) m = omega arith

sorted_some : (f : Finding) (l : List Finding) → 0 < length (sort_unique finding_key (f ∷ l))
unfolding sort_unique
sorted_some f l = some_member _ (upsert_new finding_key f (sort_unique finding_key l))

-- the answer that a table gives
pub table_is : (place : Place) (raw : List Finding) (kept : ℕ) (ns : List ℕ) → KeptFindings raw kept ns → FindingsListedAs (record { place = place; found = sort_unique finding_key raw }) (listed_to place kept) ns
table_is place raw kept ns k = (ap (listed_to place) k.counted, ap (λ (n : ℕ). take (record_length * n) ns) (sym k.counted) ∙ k.words)

module _ (p : Patch) (before : List ℕ) (few : length p.operations ≤ patch_operations) (room : table_length ≤ length before) (kept : ℕ) (ns : List ℕ) (now : Inserted (raw_patch_findings p) 0 before kept ns) where
  patch_kept : KeptFindings (raw_patch_findings p) kept ns
  patch_kept =
      subst (λ (l : List ℕ). KeptFindings (raw_patch_findings p) kept l) (sym now.1)
      (subst (λ (n : ℕ). KeptFindings (raw_patch_findings p) n (inserted_all (raw_patch_findings p) 0 before).1) (sym now.0)
      (kept_all (raw_patch_findings p) [] 0 before (kept_none before) (omega (arith, raw_patch_length p))))

  -- a table without records is that of a patch without findings, and as it was
  pub none_found : kept ≡ 0 → (patch_findings p ≡ []) × (ns ≡ before)
  unfolding patch_findings sort_unique inserted_all
  none_found h = go (raw_patch_findings p) refl
    where
      go : (l : List Finding) → raw_patch_findings p ≡ l → (sort_unique finding_key (raw_patch_findings p) ≡ []) × (ns ≡ before)
      go [] e = (ap (sort_unique finding_key) e, now.1 ∙ ap (λ m. (inserted_all m 0 before).1) e)
      go (f ∷ l) e =
          let long : length (sort_unique finding_key (f ∷ l)) ≡ 0 = sym (ap (λ m. length (sort_unique finding_key m)) e) ∙ sym patch_kept.counted ∙ h in
          absurd (omega (arith, sorted_some f l))

  -- otherwise its findings end the check
  pub patch_is : (i : ℕ) (ps : List Patch) (set : Findings) → 0 < kept → FindingsListedAs (first_findings i (p ∷ ps) set) (listed_to (in_patch i) kept) ns
  unfolding patch_findings first_findings
  patch_is i ps set more = go (patch_findings p) refl
    where
      go : (l : List Finding) → patch_findings p ≡ l → FindingsListedAs (first_findings i (p ∷ ps) set) (listed_to (in_patch i) kept) ns
      go [] e = absurd (omega (arith, patch_kept.counted, ap length e))
      go (f ∷ fs) e =
          let first : first_findings i (p ∷ ps) set ≡ record { place = in_patch i; found = patch_findings p } = rw (e, first_findings) in
          subst (λ x. FindingsListedAs x (listed_to (in_patch i) kept) ns) (sym first) (table_is (in_patch i) (raw_patch_findings p) kept ns patch_kept)

-- a patch without findings is passed over
pub first_next : (i : ℕ) (p : Patch) (ps : List Patch) (set : Findings) → patch_findings p ≡ [] → first_findings i (p ∷ ps) set ≡ first_findings (i + 1) ps set
unfolding first_findings
first_next i p ps set e = rw (e, first_findings)
