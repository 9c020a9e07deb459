-- The theorem speaks of something: a set that applies to one projection and not to another, and why 9 is left out of it.
use Rattle.std.specs.Prelude.{ℕ, zero, suc, ◌≡◌, refl}
use Rattle.std.proofs.Common.{sym, arith}
use Rattle.std.proofs.lemmas.Bool.{false≢true}
use mathlib.Core.List.{List, [], ◌∷◌, flat_map}
use Rattle.std.proofs.Math.Option.{none, some}
use Rattle.spec_lists.specs.Order.{lex_less, upsert, sort_unique, lookup}
use Rattle.spec_patch.specs.Patch.{Patch, unsigned}
use Rattle.spec_patch.specs.Fits.{StorableBy}
use Rattle.spec_checks.specs.Finding.{kind_number, finding_key, report, check_each}
use Rattle.spec_checks.specs.Target.{mutation_target, same_target}
use Rattle.spec_checks.specs.PatchChecks.{is_self, before_self_lem, operation_findings, envelope_findings, raw_patch_findings, patch_findings}
use Rattle.spec_checks.specs.SetChecks.{is_last_sequence, is_same_sequence, is_next_sequence, sequence_findings, pair_findings, duplicate_id_findings, previous_findings, after_findings, raw_set_findings, set_findings}
use Rattle.spec_checks.specs.Findings.{first_findings, findings}
use Rattle.spec_projection.specs.Projection.{Entry, Projection, empty}
use Rattle.spec_projection.specs.FirstMatch.{insert_before_first}
use Rattle.spec_projection.specs.Entries.{is_entry, is_later, contains, contains_neighbour, insert_last, insert_before, insert_entry}
use Rattle.spec_projection.specs.Apply.{key_rule, projection_full, stopped, with_entries, apply_insert, apply_operation, patch_steps, replay_steps, apply_step, apply_steps}
use Rattle.spec_projection.proofs.ApplyLaws.{stopped_not_done}
use Rattle.spec_projection.specs.Valid.{Valid}
use Rattle.spec_projection.proofs.ValidLaws.{empty_valid}
use Rattle.spec_dependencies.specs.Expectations.{neighbour, expectations}
use Rattle.spec_dependencies.specs.Settled.{settled_key, settled_by, judge_by, judge, judge_all}
use Rattle.spec_dependencies.specs.Dependencies.{settle_operations, settle_patches, keys_at_start, dependencies_by, dependencies}
use Rattle.spec_dependencies.specs.Presence.{presence}
use Rattle.spec_dependencies.specs.Claim.{AppliesTo, Meets}
use Rattle.spec_dependencies.proofs.Theorem.{depends_exactly}
use Rattle.spec_dependencies.proofs.DependencyExamples.{insert_key, one_patch}

-- key 1 before key 2, in collection 9
abbrev pub one_before_two : List Patch
one_before_two = one_patch (insert_key 9 1 (some 2) ∷ [])

-- collection 9 with the key 2
unfoldable pub holding_two : Projection
holding_two = record { bindings = []; availabilities = []; entries = record { collection = 9; key = 2; mark = 1; value = unsigned 0 } ∷ [] }

holding_valid : Valid holding_two
unfolding holding_two StorableBy
holding_valid = record {
  bindings = tt;
  availabilities = tt;
  entries = (tt, tt);
  few_bindings = omega arith;
  few_availabilities = omega arith;
  few_entries = omega arith;
  fit_bindings = tt;
  fit_availabilities = tt;
  fit_entries = (record { collection = omega arith; key = omega arith; mark = omega arith; value = omega arith }, tt);
}

clean : (findings one_before_two).found ≡ []
unfolding lex_less upsert sort_unique kind_number finding_key report check_each mutation_target same_target is_self before_self_lem operation_findings envelope_findings raw_patch_findings patch_findings is_last_sequence is_same_sequence is_next_sequence sequence_findings pair_findings duplicate_id_findings previous_findings after_findings raw_set_findings set_findings first_findings findings
clean = refl

-- it does not stop with 9
holding_room : ¬ (apply_steps holding_two (replay_steps one_before_two) ≡ stopped projection_full)
unfolding holding_two insert_before_first is_entry contains contains_neighbour insert_before insert_entry with_entries apply_insert apply_operation flat_map patch_steps replay_steps apply_step apply_steps
holding_room e = stopped_not_done (sym e)

-- what the set depends on is there
holding_meets : Meets holding_two (dependencies one_before_two)
unfolding holding_two presence contains is_entry lex_less upsert lookup neighbour expectations settled_key settled_by judge_by judge judge_all settle_operations settle_patches keys_at_start dependencies_by dependencies
holding_meets = ((refl, tt), (refl, tt))

-- so it applies
pub applies_there : AppliesTo holding_two one_before_two
applies_there = (depends_exactly holding_two one_before_two holding_valid clean holding_room).1 holding_meets

key_rule_not_full : stopped key_rule ≡ stopped projection_full → ⊥
key_rule_not_full e = let z : ◌≡◌ {A = ℕ} 0 1 = cc in omega arith

empty_room : ¬ (apply_steps empty (replay_steps one_before_two) ≡ stopped projection_full)
unfolding empty insert_before_first is_entry contains contains_neighbour insert_before insert_entry with_entries apply_insert apply_operation flat_map patch_steps replay_steps apply_step apply_steps
empty_room e = key_rule_not_full e

empty_lacks : Meets empty (dependencies one_before_two) → ⊥
unfolding empty presence contains is_entry lex_less upsert lookup neighbour expectations settled_key settled_by judge_by judge judge_all settle_operations settle_patches keys_at_start dependencies_by dependencies
empty_lacks m = false≢true m.0.0

-- to an empty projection it does not apply: the neighbour is not there
pub applies_not_empty : ¬ AppliesTo empty one_before_two
applies_not_empty a = empty_lacks ((depends_exactly empty one_before_two empty_valid clean empty_room).0 a)

-- ---- why 9 is left out

-- the entries of collection 8 with the keys 1 to n
unfoldable pub entries_to : ℕ → List Entry
entries_to zero = []
entries_to (suc n) = record { collection = 8; key = suc n; mark = 1; value = unsigned 0 } ∷ entries_to n

unfoldable pub full_panel : Projection
full_panel = record { bindings = []; availabilities = []; entries = entries_to 128 }

-- a full projection lacks the key and still does not take it
pub full_meets : Meets full_panel (dependencies (one_patch (insert_key 9 1 none ∷ []))) × (apply_steps full_panel (replay_steps (one_patch (insert_key 9 1 none ∷ []))) ≡ stopped projection_full)
unfolding full_panel entries_to presence contains is_entry lex_less upsert lookup neighbour expectations settled_key settled_by judge_by judge judge_all settle_operations settle_patches keys_at_start dependencies_by dependencies
    insert_before_first is_later contains_neighbour insert_last insert_entry with_entries apply_insert apply_operation flat_map patch_steps replay_steps apply_step apply_steps
full_meets = ((tt, (refl, tt)), refl)
