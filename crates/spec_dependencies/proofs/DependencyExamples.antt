-- Examples of 02's Job 8, computed: what sets depend on, and what the call answers and writes.
use Rattle.std.specs.Prelude.{ℕ, ◌≡◌, refl}
use mathlib.Core.List.{List, [], ◌∷◌, ◌++◌, map, flat_map}
use Rattle.std.proofs.Math.Option.{Option, none, some}
use Rattle.spec_lists.specs.Order.{lex_less, upsert, sort_unique, lookup}
use Rattle.spec_patch.specs.Patch.{Operation, set_binding, set_availability, insert, update, remove, move, pending, unsigned, Patch}
use Rattle.spec_patch.specs.Reader.{over_capacity, malformed, fault_number}
use Rattle.spec_patch.specs.Read.{patches, fault}
use Rattle.spec_checks.specs.Finding.{kind_number, finding_key, report, check_each}
use Rattle.spec_checks.specs.Target.{mutation_target, same_target}
use Rattle.spec_checks.specs.PatchChecks.{is_self, before_self_lem, operation_findings, envelope_findings, raw_patch_findings, patch_findings}
use Rattle.spec_checks.specs.SetChecks.{is_last_sequence, is_same_sequence, is_next_sequence, sequence_findings, pair_findings, duplicate_id_findings, previous_findings, after_findings, raw_set_findings, set_findings}
use Rattle.spec_checks.specs.Findings.{first_findings, findings}
use Rattle.spec_checks.proofs.CheckExamples.{with}
use Rattle.spec_dependencies.specs.Expectations.{neighbour, expectations}
use Rattle.spec_dependencies.specs.Settled.{settled_key, settled_by, judge_by, judge, judge_all}
use Rattle.spec_dependencies.specs.Dependencies.{settle_operations, settle_patches, CollectionKey, key_words, keys_at_start, Dependencies, never_applicable, needs, dependencies_by, dependencies}
use Rattle.spec_dependencies.specs.Answer.{all_words, unreadable, has_findings, output_too_short, refusal_number, refused, answer_never, answer_needs, answered, words_written, answer_by, answer_reading}

abbrev pub key_at : ℕ → ℕ → CollectionKey
key_at c k = record { collection = c; key = k }

abbrev pub insert_key : ℕ → ℕ → Option ℕ → Operation
insert_key c k before = insert c k before (unsigned 1)

abbrev pub update_key : ℕ → ℕ → Operation
update_key c k = update c k (unsigned 2)

pub record DependencyExample : Type 0 where
  pub set : List Patch
  pub answer : Dependencies

infix 3 ◌⊳◌
abbrev pub ◌⊳◌ : List Patch → Dependencies → DependencyExample
ps ⊳ d = record { set = ps; answer = d }

-- one patch of these operations
abbrev pub one_patch : List Operation → List Patch
one_patch os = with 1 1 os ∷ []

-- two patches
abbrev pub two_patches : List Operation → List Operation → List Patch
two_patches a b = with 1 1 a ∷ with 2 2 b ∷ []

-- each operation alone
abbrev pub single : List DependencyExample
single =
    (one_patch (insert_key 9 1 none ∷ []) ⊳ needs [] (key_at 9 1 ∷ []))
    ∷ (one_patch (insert_key 9 1 (some 2) ∷ []) ⊳ needs (key_at 9 2 ∷ []) (key_at 9 1 ∷ []))
    ∷ (one_patch (update_key 9 1 ∷ []) ⊳ needs (key_at 9 1 ∷ []) [])
    ∷ (one_patch (remove 9 1 ∷ []) ⊳ needs (key_at 9 1 ∷ []) [])
    ∷ (one_patch (move 9 1 none ∷ []) ⊳ needs (key_at 9 1 ∷ []) [])
    ∷ (one_patch (move 9 3 (some 1) ∷ []) ⊳ needs (key_at 9 1 ∷ key_at 9 3 ∷ []) [])
    -- bindings and availabilities expect nothing, and neither does an empty set
    ∷ (one_patch (set_binding 5 0 (unsigned 1) ∷ set_availability 5 pending ∷ []) ⊳ needs [] [])
    ∷ ([] ⊳ needs [] [])
    ∷ []

-- operations on one key, in one patch and in two
abbrev pub same_key : List DependencyExample
same_key =
    -- judged by what an earlier operation has done
    (one_patch (insert_key 9 1 none ∷ update_key 9 1 ∷ remove 9 1 ∷ []) ⊳ needs [] (key_at 9 1 ∷ []))
    ∷ (two_patches (remove 9 1 ∷ []) (insert_key 9 1 none ∷ []) ⊳ needs (key_at 9 1 ∷ []) [])
    ∷ (one_patch (update_key 9 1 ∷ move 9 1 none ∷ remove 9 1 ∷ insert_key 9 1 none ∷ []) ⊳ needs (key_at 9 1 ∷ []) [])
    -- removed, then updated; updated, then inserted; inserted twice; removed twice
    ∷ (one_patch (remove 9 1 ∷ update_key 9 1 ∷ []) ⊳ never_applicable 0 1)
    ∷ (one_patch (update_key 9 1 ∷ insert_key 9 1 none ∷ []) ⊳ never_applicable 0 1)
    ∷ (two_patches (insert_key 9 1 none ∷ []) (insert_key 9 1 none ∷ []) ⊳ never_applicable 1 0)
    ∷ (two_patches (remove 9 1 ∷ []) (insert_key 9 2 none ∷ insert_key 9 3 none ∷ remove 9 1 ∷ update_key 9 1 ∷ []) ⊳ never_applicable 1 2)
    ∷ []

-- neighbours
abbrev pub neighbours : List DependencyExample
neighbours =
    -- inserted before, moved before, removed before
    (one_patch (insert_key 9 1 none ∷ insert_key 9 2 (some 1) ∷ []) ⊳ needs [] (key_at 9 1 ∷ key_at 9 2 ∷ []))
    ∷ (one_patch (move 9 1 none ∷ insert_key 9 2 (some 1) ∷ []) ⊳ needs (key_at 9 1 ∷ []) (key_at 9 2 ∷ []))
    ∷ (one_patch (remove 9 1 ∷ insert_key 9 2 (some 1) ∷ []) ⊳ never_applicable 0 1)
    -- what was looked for as a neighbour is known from then on
    ∷ (one_patch (move 9 3 (some 1) ∷ insert_key 9 1 none ∷ []) ⊳ never_applicable 0 1)
    ∷ (one_patch (insert_key 9 2 (some 1) ∷ remove 9 1 ∷ []) ⊳ needs (key_at 9 1 ∷ []) (key_at 9 2 ∷ []))
    ∷ []

-- order is collection, then key, whatever the order of the operations; a key of another collection is another key
abbrev pub collections : List DependencyExample
collections =
    (one_patch (update_key 9 1 ∷ insert_key 8 1 none ∷ update_key 8 5 ∷ insert_key 9 7 (some 3) ∷ remove 8 2 ∷ []) ⊳ needs (key_at 8 2 ∷ key_at 8 5 ∷ key_at 9 1 ∷ key_at 9 3 ∷ []) (key_at 8 1 ∷ key_at 9 7 ∷ []))
    ∷ (one_patch (remove 9 1 ∷ update_key 8 1 ∷ insert_key 7 1 none ∷ []) ⊳ needs (key_at 8 1 ∷ key_at 9 1 ∷ []) (key_at 7 1 ∷ []))
    ∷ []

abbrev pub dependency_examples : List DependencyExample
dependency_examples = single ++ (same_key ++ (neighbours ++ collections))

pub examples_depend : map (λ (e : DependencyExample). dependencies e.set) dependency_examples ≡ map (λ (e : DependencyExample). e.answer) dependency_examples
unfolding lex_less upsert lookup neighbour expectations settled_key settled_by judge_by judge judge_all settle_operations settle_patches keys_at_start dependencies_by dependencies
examples_depend = refl

-- none of these sets has findings
pub examples_clean : map (λ (e : DependencyExample). (findings e.set).found) dependency_examples ≡ map (λ (e : DependencyExample). []) dependency_examples
unfolding lex_less upsert sort_unique kind_number finding_key report check_each mutation_target same_target is_self before_self_lem operation_findings envelope_findings raw_patch_findings patch_findings is_last_sequence is_same_sequence is_next_sequence sequence_findings pair_findings duplicate_id_findings previous_findings after_findings raw_set_findings set_findings first_findings findings
examples_clean = refl

-- ---- the call

-- two records, the rest as it was; exact room; one place too few; never, and no records, without room; findings; a set that is not read
pub examples_answered :
    (answer_reading (patches (one_patch (insert_key 9 1 (some 2) ∷ []))) (10 ∷ 20 ∷ 30 ∷ 40 ∷ 50 ∷ []) ≡ answered (answer_needs 1 1) (9 ∷ 2 ∷ 9 ∷ 1 ∷ 50 ∷ []))
    × (answer_reading (patches (one_patch (insert_key 9 1 (some 2) ∷ []))) (10 ∷ 20 ∷ 30 ∷ 40 ∷ []) ≡ answered (answer_needs 1 1) (9 ∷ 2 ∷ 9 ∷ 1 ∷ []))
    × (answer_reading (patches (one_patch (insert_key 9 1 (some 2) ∷ []))) (10 ∷ 20 ∷ 30 ∷ []) ≡ answered (refused output_too_short) (10 ∷ 20 ∷ 30 ∷ []))
    × (answer_reading (patches (one_patch (remove 9 1 ∷ update_key 9 1 ∷ []))) (10 ∷ 20 ∷ []) ≡ answered (answer_never 0 1) (10 ∷ 20 ∷ []))
    × (answer_reading (patches (one_patch (remove 9 1 ∷ update_key 9 1 ∷ []))) [] ≡ answered (answer_never 0 1) [])
    × (answer_reading (patches []) [] ≡ answered (answer_needs 0 0) [])
    × (answer_reading (patches (one_patch (insert_key 9 1 (some 1) ∷ []))) (10 ∷ 20 ∷ []) ≡ answered (refused has_findings) (10 ∷ 20 ∷ []))
    × (answer_reading (fault over_capacity) (10 ∷ 20 ∷ []) ≡ answered (refused (unreadable over_capacity)) (10 ∷ 20 ∷ []))
unfolding lex_less upsert lookup neighbour expectations settled_key settled_by judge_by judge judge_all settle_operations settle_patches keys_at_start dependencies_by dependencies
    flat_map key_words all_words words_written answer_by answer_reading
    sort_unique kind_number finding_key report check_each mutation_target same_target is_self before_self_lem operation_findings envelope_findings raw_patch_findings patch_findings is_last_sequence is_same_sequence is_next_sequence sequence_findings pair_findings duplicate_id_findings previous_findings after_findings raw_set_findings set_findings first_findings findings
examples_answered = (refl, refl, refl, refl, refl, refl, refl, refl)

-- the numbers of the refusals
pub examples_numbered : map refusal_number (unreadable over_capacity ∷ unreadable malformed ∷ has_findings ∷ output_too_short ∷ []) ≡ 12 ∷ 10 ∷ 11 ∷ 14 ∷ []
unfolding fault_number refusal_number
examples_numbered = refl
