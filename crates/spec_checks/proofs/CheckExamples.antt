-- Examples of 01's rules for the patch checks, computed.
use Rattle.std.specs.Prelude.{ℕ, ◌+◌, ◌≡◌, refl}
use mathlib.Core.List.{List, [], ◌∷◌, ◌++◌, map, flat_map}
use Rattle.std.proofs.Math.Option.{Option, none, some}
use Rattle.spec_lists.specs.Order.{lex_less, upsert, sort_unique}
use Rattle.spec_patch.specs.Sizes.{largest_u64}
use Rattle.spec_patch.specs.Patch.{Operation, set_binding, set_availability, insert, update, remove, move, pending, stale, unsigned, Envelope, Patch}
use Rattle.spec_checks.specs.Finding.{Finding, kind_number, finding_key, report, check_each}
use Rattle.spec_checks.specs.Target.{mutation_target, same_target}
use Rattle.spec_checks.specs.PatchChecks.{is_self, before_self_lem, operation_findings, envelope_findings, raw_patch_findings, patch_findings}
use Rattle.spec_checks.specs.SetChecks.{is_last_sequence, is_same_sequence, is_next_sequence, sequence_findings, pair_findings, duplicate_id_findings, previous_findings, after_findings, raw_set_findings, set_findings}
use Rattle.spec_checks.specs.Findings.{in_patch, in_set, Findings, first_findings, findings}
use Rattle.spec_checks.specs.Answer.{finding_words, fitting, write_findings, checked_list}

-- ---- patches, and rows of an answer

-- stream, document and epoch 1; the revisions follow the sequence
abbrev pub example_envelope : ℕ → ℕ → Envelope
example_envelope i n = record { id = i; stream = 1; document = 1; surface = none; previous = n; revision = n + 1; epoch = 1; sequence = n }

abbrev pub with : ℕ → ℕ → List Operation → Patch
with i n os = record { envelope = example_envelope i n; operations = os }

-- one operation
abbrev pub plain : ℕ → ℕ → Patch
plain i n = with i n (set_availability 5 pending ∷ [])

-- every kind of operation on a key
abbrev pub each : ℕ → ℕ → Option ℕ → List Operation
each c k before = insert c k before (unsigned 1) ∷ update c k (unsigned 1) ∷ remove c k ∷ move c k before ∷ []

-- a binding and the availability of its node
abbrev pub example_panel : ℕ → ℕ → List Operation
example_panel node slot = set_binding node slot (unsigned 1) ∷ set_availability node stale ∷ []

abbrev pub example_row : ℕ → ℕ → ℕ → Finding
example_row k d s = record { kind = k; domain = d; secondary = s }

abbrev pub of_set : List Finding → Findings
of_set fs = record { place = in_set; found = fs }

abbrev pub of_patch : ℕ → List Finding → Findings
of_patch i fs = record { place = in_patch i; found = fs }

-- another stream, document and epoch, and revisions that do not follow
abbrev pub differing : ℕ → ℕ → Patch
differing i n = record {
  envelope = record { id = i; stream = 2; document = 2; surface = none; previous = 7; revision = 8; epoch = 2; sequence = n };
  operations = set_availability 5 pending ∷ [];
}

-- previous revision, revision and sequence, each as given
abbrev pub revised : ℕ → ℕ → ℕ → ℕ → Patch
revised i p r n = record {
  envelope = record { id = i; stream = 1; document = 1; surface = none; previous = p; revision = r; epoch = 1; sequence = n };
  operations = set_availability 5 pending ∷ [];
}

-- ids of 0, no operations, and a revision that is not above the previous one
abbrev pub empty_patch : Patch
empty_patch = record { envelope = record { id = 0; stream = 0; document = 1; surface = none; previous = 3; revision = 3; epoch = 1; sequence = 3 }; operations = [] }

-- ---- a patch list, and what is found

pub record CheckExample : Type 0 where
  pub patches : List Patch
  pub answer : Findings

infix 3 ◌⇒◌
abbrev pub ◌⇒◌ : List Patch → Findings → CheckExample
ps ⇒ r = record { patches = ps; answer = r }

-- one patch
abbrev pub patch_examples : List CheckExample
patch_examples =
    -- every kind of operation on one key; other keys, collections, nodes and slots
    (with 1 1 (each 9 2 none ++ (each 9 3 none ++ (each 8 2 none ++ (example_panel 9 0 ++ example_panel 8 1)))) ∷ [] ⇒ of_set [])
    ∷ (with 1 1 (set_binding 9 0 (unsigned 1) ∷ set_binding 9 1 (unsigned 1) ∷ []) ∷ [] ⇒ of_set [])
    -- targets that repeat, with another neighbour
    ∷ (plain 1 1 ∷ with 2 2 (each 9 2 none ++ each 9 2 (some 3)) ∷ [] ⇒ of_patch 1 (example_row 3 2 4 ∷ example_row 3 2 5 ∷ example_row 3 2 6 ∷ example_row 3 2 7 ∷ []))
    ∷ (with 2 2 (example_panel 5 0 ++ (example_panel 5 0 ++ example_panel 5 0)) ∷ [] ⇒ of_patch 0 (example_row 3 2 2 ∷ example_row 3 2 3 ∷ example_row 3 2 4 ∷ example_row 3 2 5 ∷ []))
    -- before self
    ∷ (with 6 1 (insert 9 4 (some 4) (unsigned 1) ∷ move 9 3 (some 4) ∷ move 9 4 (some 4) ∷ []) ∷ [] ⇒ of_patch 0 (example_row 2 6 0 ∷ example_row 2 6 2 ∷ []))
    -- a revision that is not above the previous one
    ∷ (revised 4 3 4 1 ∷ revised 5 4 4 2 ∷ [] ⇒ of_patch 1 (example_row 10 5 0 ∷ []))
    ∷ (revised 4 3 2 1 ∷ [] ⇒ of_patch 0 (example_row 10 4 0 ∷ []))
    -- the first patch with findings ends the check
    ∷ (plain 0 1 ∷ empty_patch ∷ [] ⇒ of_patch 0 (example_row 13 0 0 ∷ []))
    ∷ (plain 7 3 ∷ plain 7 3 ∷ empty_patch ∷ [] ⇒ of_patch 2 (example_row 6 0 0 ∷ example_row 10 0 0 ∷ example_row 13 0 0 ∷ example_row 14 0 0 ∷ []))
    ∷ []

-- a set
abbrev pub set_examples : List CheckExample
set_examples =
    ([] ⇒ of_set [])
    -- three patches alike, id 7 and sequence 3
    ∷ (plain 7 3 ∷ plain 7 3 ∷ plain 7 3 ∷ [] ⇒ of_set (example_row 4 7 3 ∷ example_row 5 7 3 ∷ []))
    -- neighbours that differ in everything; a broken chain is told only where the sequence is the next
    ∷ (plain 1 1 ∷ differing 2 2 ∷ [] ⇒ of_set (example_row 1 2 1 ∷ example_row 7 2 1 ∷ example_row 8 2 1 ∷ example_row 9 2 1 ∷ []))
    ∷ (plain 1 1 ∷ differing 2 1 ∷ [] ⇒ of_set (example_row 5 2 1 ∷ example_row 7 2 1 ∷ example_row 8 2 1 ∷ example_row 9 2 1 ∷ []))
    ∷ (plain 1 1 ∷ plain 2 3 ∷ plain 3 2 ∷ [] ⇒ of_set (example_row 11 2 3 ∷ example_row 11 3 2 ∷ []))
    -- an id that returns later
    ∷ (plain 1 1 ∷ plain 2 2 ∷ plain 1 3 ∷ [] ⇒ of_set (example_row 4 1 3 ∷ []))
    -- the largest sequence: the earlier patch's id, and neither 5, 11 nor 1
    ∷ (revised 5 1 2 largest_u64 ∷ revised 6 1 2 largest_u64 ∷ [] ⇒ of_set (example_row 12 5 largest_u64 ∷ []))
    ∷ (revised 5 1 2 largest_u64 ∷ revised 6 1 2 0 ∷ [] ⇒ of_set (example_row 12 5 largest_u64 ∷ []))
    ∷ []

abbrev pub check_examples : List CheckExample
check_examples = patch_examples ++ set_examples

pub examples_found : map (λ (e : CheckExample). findings e.patches) check_examples ≡ map (λ (e : CheckExample). e.answer) check_examples
unfolding lex_less upsert sort_unique kind_number finding_key report check_each mutation_target same_target is_self before_self_lem operation_findings envelope_findings raw_patch_findings patch_findings is_last_sequence is_same_sequence is_next_sequence sequence_findings pair_findings duplicate_id_findings previous_findings after_findings raw_set_findings set_findings first_findings findings
examples_found = refl

-- ---- what is written

-- of two records one fits five places, and both fit seven; the rest stays
pub examples_written :
    (write_findings (example_row 4 7 3 ∷ example_row 5 7 3 ∷ []) (10 ∷ 20 ∷ 30 ∷ 40 ∷ 50 ∷ []) ≡ 4 ∷ 7 ∷ 3 ∷ 40 ∷ 50 ∷ [])
    × (write_findings (example_row 4 7 3 ∷ example_row 5 7 3 ∷ []) (10 ∷ 20 ∷ 30 ∷ 40 ∷ 50 ∷ 60 ∷ 70 ∷ []) ≡ 4 ∷ 7 ∷ 3 ∷ 5 ∷ 7 ∷ 3 ∷ 70 ∷ [])
    × (checked_list (plain 7 3 ∷ plain 7 3 ∷ []) 5 ≡ record { place = in_set; logical = 2; written = 1 })
    × (checked_list (plain 7 3 ∷ plain 7 3 ∷ []) 7 ≡ record { place = in_set; logical = 2; written = 2 })
unfolding lex_less upsert sort_unique kind_number finding_key report check_each mutation_target same_target is_self before_self_lem operation_findings envelope_findings raw_patch_findings patch_findings is_last_sequence is_same_sequence is_next_sequence sequence_findings pair_findings duplicate_id_findings previous_findings after_findings raw_set_findings set_findings first_findings findings flat_map finding_words fitting write_findings checked_list
examples_written = (refl, refl, refl, refl)
