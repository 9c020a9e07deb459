-- What is told element by element is whether spec_checks finds anything.
use Rattle.std.specs.Prelude.{ℕ, ◌+◌, ◌≤◌, ◌<◌, ◌≡◌, refl, Bool, true, false, ◌||◌, eqb, length, if◌then◌else◌}
use Rattle.std.specs.Prelude as code
use Rattle.std.proofs.Common.{sym, ap, ap₂, ◌∙◌, arith, ne_eqb}
use mathlib.Core.List.{List, [], ◌∷◌, ◌++◌, map, flat_map, reverse, reverse-append}
use Rattle.std.proofs.Math.Option.{Option, none, some}
use Rattle.spec_lists.specs.Lists.{any, is_empty}
use Rattle.spec_lists.proofs.ListLaws.{any_reverse, empty_count}
use Rattle.spec_lists.specs.Order.{upsert, sort_unique}
use Rattle.spec_lists.proofs.OrderLaws.{upsert_cases}
use Rattle.spec_lists.proofs.ListLaws.{any_map}
use Rattle.spec_patch.specs.Patch.{Operation, Envelope, Patch}
use Rattle.spec_checks.specs.Finding.{Finding, finding_key, report, check_each}
use Rattle.spec_patch.specs.Read.{SetReading, patches, fault}
use Rattle.spec_checks.specs.Target.{MutationTarget, same_target}
use Rattle.spec_checks.specs.PatchChecks.{before_self_lem, operation_findings, envelope_findings, raw_patch_findings, patch_findings}
use Rattle.spec_checks.specs.SetChecks.{duplicate_id_findings, previous_findings, after_findings, raw_set_findings, set_findings}
use Rattle.spec_checks.specs.Findings.{in_set, Findings, first_findings, findings}
use Rattle.spec_projection.specs.Apply.{operations_of}
use Rattle.patch_sets.specs.SetAnswers.{operation_count_lem}
use Rattle.check_findings.specs.Ids.{id_seen}
use Rattle.check_targets.specs.Targets.{target_numbers}
use Rattle.check_targets.specs.TargetsLaws.{seen_earlier, targets_snoc}
use Rattle.check_findings.specs.Found.{is_found}
use Rattle.check_findings.specs.FoundLaws.{found_append, found_report}
use Rattle.check_quick.specs.Anchors.{absent_of}
use Rattle.check_quick.specs.QuickAnswers.{inspected_by, quick_answer}
use Rattle.projection_patch.specs.declared.read_values.ProjectionPatchReadFault.{ProjectionPatchReadFault}
use Rattle.check_quick.specs.declared.inspection.SetInspection.{SetInspection}
use Rattle.check_quick.specs.declared.inspection.SetInspection.TheVariants as inspection
use Rattle.check_quick.specs.declared.quick_set.QuickCheck.{QuickCheck}
use Rattle.check_quick.specs.declared.quick_set.QuickCheck.TheVariants as quick
use Rattle.check_quick.specs.Quick.{operation_found, found_from, head_found, patch_found, previous_found, after_found, patches_found, AtMost}

-- ---- tests

pub or_assoc : (a b c : Bool) → ((a || b) || c) ≡ (a || (b || c))
or_assoc true b c = refl
or_assoc false b c = refl

pub or_false : (a : Bool) → (a || false) ≡ a
or_false true = refl
or_false false = refl

or_comm : (a b : Bool) → (a || b) ≡ (b || a)
or_comm true b = sym (or_true b)
  where
    or_true : (b : Bool) → (b || true) ≡ true
    or_true true = refl
    or_true false = refl
or_comm false b = sym (or_false b)

-- ---- sorted findings

upsert_found : (f : Finding) (l : List Finding) → is_found (upsert finding_key f l) ≡ true
unfolding is_found upsert
upsert_found f [] = refl
upsert_found f (x ∷ l) = upsert_cases finding_key (λ m. is_found m ≡ true) f x l (λ h. refl) (λ h. refl) (λ h. refl)

sorted_found : (l : List Finding) → is_found (sort_unique finding_key l) ≡ is_found l
unfolding sort_unique is_found
sorted_found [] = refl
sorted_found (f ∷ l) = upsert_found f (sort_unique finding_key l)

-- ---- one patch

operation_found_lem : (id : ℕ) (done : List Operation) (o : Operation) → operation_found (flat_map target_numbers done) o ≡ is_found (operation_findings id (reverse done) o)
unfolding operation_found operation_findings
operation_found_lem id done o =
    ap (λ t. t || before_self_lem o) (seen_earlier o done) ∙ or_comm (any (same_target o) (reverse done)) (before_self_lem o)
    ∙ sym (found_append (report (before_self_lem o) _) (report (any (same_target o) (reverse done)) _) ∙ ap₂ ◌||◌ (found_report (before_self_lem o) _) (found_report (any (same_target o) (reverse done)) _))

operations_found : (id : ℕ) (done os : List Operation) → found_from (flat_map target_numbers done) os ≡ is_found (check_each (operation_findings id) (reverse done) os)
unfolding found_from check_each is_found
operations_found id done [] = refl
operations_found id done (o ∷ os) =
    ap₂ ◌||◌ (operation_found_lem id done o) (ap (λ ts. found_from ts os) (sym (targets_snoc done o)) ∙ operations_found id (done ++ (o ∷ [])) os ∙ ap (λ e. is_found (check_each (operation_findings id) e os)) (reverse-append done (o ∷ [])))
    ∙ sym (found_append (operation_findings id (reverse done) o) (check_each (operation_findings id) (o ∷ reverse done) os))

raw_found : (p : Patch) → patch_found p ≡ is_found (raw_patch_findings p)
unfolding patch_found head_found raw_patch_findings flat_map
raw_found p =
    let id = p.envelope.id in
    let os = p.operations in
    let each = check_each (operation_findings id) [] os in
    or_assoc (eqb (length os) 0) (is_found (envelope_findings p.envelope)) (found_from [] os)
    ∙ ap₂ (λ s t. s || (is_found (envelope_findings p.envelope) || t)) (empty_count os) (operations_found id [] os)
    ∙ sym (found_append (report (is_empty os) _) (envelope_findings p.envelope ++ each) ∙ ap₂ ◌||◌ (found_report (is_empty os) _) (found_append (envelope_findings p.envelope) each))

patch_found_lem : (p : Patch) → patch_found p ≡ is_found (patch_findings p)
unfolding patch_findings
patch_found_lem p = raw_found p ∙ sym (sorted_found (raw_patch_findings p))

-- ---- the set

abbrev pub id_of : Patch → ℕ
id_of p = p.envelope.id

abbrev pub last_envelope : List Patch → Option Envelope
last_envelope [] = none
last_envelope (q ∷ earlier) = some q.envelope

-- kind 4 and the neighbours' kinds alone
abbrev after_each : List ℕ → Option Envelope → List Patch → Bool
after_each ids previous [] = false
after_each ids previous (p ∷ ps) = after_found ids previous p.envelope || after_each (ids ++ (p.envelope.id ∷ [])) (some p.envelope) ps

pub map_snoc : (l : List Patch) (p : Patch) → map id_of (l ++ (p ∷ [])) ≡ map id_of l ++ (id_of p ∷ [])
map_snoc [] p = refl
map_snoc (q ∷ l) p = ap (λ m. id_of q ∷ m) (map_snoc l p)

previous_found_lem : (earlier : List Patch) (p : Patch) → previous_found (last_envelope earlier) p.envelope ≡ is_found (previous_findings earlier p)
unfolding previous_found previous_findings is_found
previous_found_lem [] p = refl
previous_found_lem (q ∷ earlier) p = refl

after_found_lem : (done : List Patch) (p : Patch) → after_found (map id_of done) (last_envelope (reverse done)) p.envelope ≡ is_found (after_findings (reverse done) p)
unfolding after_found after_findings duplicate_id_findings id_seen
after_found_lem done p =
    let same : ℕ → Bool = λ n. eqb n p.envelope.id in
    let there = any (λ (q : Patch). eqb q.envelope.id p.envelope.id) (reverse done) in
    ap₂ ◌||◌ (any_map id_of same (λ (q : Patch). same (id_of q)) (λ q. refl) done ∙ sym (any_reverse (λ (q : Patch). eqb q.envelope.id p.envelope.id) done)) (previous_found_lem (reverse done) p)
    ∙ sym (found_append (report there _) (previous_findings (reverse done) p) ∙ ap (λ t. t || is_found (previous_findings (reverse done) p)) (found_report there _))

each_found : (done ps : List Patch) → after_each (map id_of done) (last_envelope (reverse done)) ps ≡ is_found (check_each after_findings (reverse done) ps)
unfolding check_each is_found
each_found done [] = refl
each_found done (p ∷ ps) =
    let turned : reverse (done ++ (p ∷ [])) ≡ p ∷ reverse done = reverse-append done (p ∷ []) in
    ap₂ ◌||◌ (after_found_lem done p)
    (ap₂ (λ ids l. after_each ids l ps) (sym (map_snoc done p)) (ap last_envelope (sym turned)) ∙ each_found (done ++ (p ∷ [])) ps ∙ ap (λ e. is_found (check_each after_findings e ps)) turned)
    ∙ sym (found_append (after_findings (reverse done) p) (check_each after_findings (p ∷ reverse done) ps))

set_found : (ps : List Patch) → after_each [] none ps ≡ is_found (set_findings ps)
unfolding set_findings raw_set_findings
set_found ps = each_found [] ps ∙ sym (sorted_found (check_each after_findings [] ps))

-- ---- both

apart : (ids : List ℕ) (previous : Option Envelope) (ps : List Patch) → patches_found ids previous ps ≡ (any patch_found ps || after_each ids previous ps)
unfolding patches_found
apart ids previous [] = refl
apart ids previous (p ∷ ps) =
    ap (λ t. patch_found p || (after_found ids previous p.envelope || t)) (apart (ids ++ (p.envelope.id ∷ [])) (some p.envelope) ps)
    ∙ mixed (patch_found p) (after_found ids previous p.envelope) (any patch_found ps) _
  where
    mixed : (a b x y : Bool) → (a || (b || (x || y))) ≡ ((a || x) || (b || y))
    mixed true b x y = refl
    mixed false true true y = refl
    mixed false true false y = refl
    mixed false false x y = refl

first_found : (i : ℕ) (ps : List Patch) (set : Findings) → (any patch_found ps || is_found set.found) ≡ is_found (first_findings i ps set).found
unfolding first_findings is_found
first_found i [] set = refl
first_found i (p ∷ ps) set = go (patch_findings p) refl (first_found (i + 1) ps set)
  where
    go : (l : List Finding) → patch_findings p ≡ l → (any patch_found ps || is_found set.found) ≡ is_found (first_findings (i + 1) ps set).found → ((patch_found p || any patch_found ps) || is_found set.found) ≡ is_found (first_findings i (p ∷ ps) set).found
    go [] e rest = rw (patch_found_lem p, e, first_findings) rest
    go (f ∷ fs) e rest = rw (patch_found_lem p, e, first_findings)

-- a finding is told exactly if there is one
pub quick_found : (ps : List Patch) → patches_found [] none ps ≡ is_found (findings ps).found
unfolding findings
quick_found ps = apart [] none ps ∙ ap (λ t. any patch_found ps || t) (set_found ps) ∙ first_found 0 ps (record { place = in_set; found = set_findings ps })

-- ---- ids that ascend

-- an id above the highest was not seen
pub above_unseen : (highest id : ℕ) (ids : List ℕ) → AtMost highest ids → highest < id → id_seen id ids ≡ false
unfolding id_seen
above_unseen highest id [] h above = refl
above_unseen highest id (n ∷ ids) h above = rw (ne_eqb n id (λ e. omega (arith, h.0, e))) (above_unseen highest id ids h.1 above)

pub at_most_more : (highest higher id : ℕ) (ids : List ℕ) → AtMost highest ids → highest ≤ higher → id ≤ higher → AtMost higher (ids ++ (id ∷ []))
at_most_more highest higher id [] h up below = (below, tt)
at_most_more highest higher id (n ∷ ids) h up below = (omega (arith, h.0), at_most_more highest higher id ids h.1 up below)

-- ---- without the absent targets

abbrev pub quick_case : SetInspection → QuickCheck
quick_case (inspection.Clean n m k) = quick.Clean n m
quick_case inspection.Found = quick.Found

abbrev pub quick_of : code.Result SetInspection ProjectionPatchReadFault → code.Result QuickCheck ProjectionPatchReadFault
quick_of (code.Ok i) = code.Ok (quick_case i)
quick_of (code.Err f) = code.Err f

pub quick_is : (known : MutationTarget → Bool) (x : SetReading) → quick_of (inspected_by known x) ≡ quick_answer x
unfolding inspected_by
quick_is known (patches ps) = go (is_found (findings ps).found)
  where
    go : (t : Bool) → quick_of (code.Ok (if t then inspection.Found else inspection.Clean (length ps) (operation_count_lem ps) (absent_of known (operations_of ps)))) ≡ code.Ok (if t then quick.Found else quick.Clean (length ps) (operation_count_lem ps))
    go true = refl
    go false = refl
quick_is known (fault f) = refl
