-- 02, Job 8, over the definitions: what a set depends on is exactly what it needs to apply.
use Rattle.std.specs.Prelude.{ℕ, ◌+◌, ◌*◌, ◌≤◌, ◌≡◌, ◌↔◌, length}
use Rattle.std.proofs.Math.Path.{refl, subst}
use Rattle.std.proofs.Common.{sym, arith}
use Rattle.std.proofs.Math.Bool.{true, false}
use mathlib.Core.List.{List, []}
use Rattle.std.proofs.Math.Option.{Option, none, some}
use Rattle.spec_lists.specs.Order.{Ascending}
use Rattle.spec_patch.specs.Edition.{Edition}
use Rattle.spec_patch.specs.Encode.{encode}
use Rattle.spec_patch.specs.Patch.{Patch}
use Rattle.spec_checks.specs.Findings.{findings}
use Rattle.spec_projection.specs.Projection.{Projection}
use Rattle.spec_projection.specs.Apply.{key_rule, projection_full, Outcome, done, stopped, replay_steps, operations_of, apply_steps}
use Rattle.spec_projection.specs.Valid.{Valid}
use Rattle.spec_dependencies.specs.Settled.{Settled, settled_key, judge_all}
use Rattle.spec_dependencies.specs.Dependencies.{SettlingWalk, settles, contradicts, settle_patches, CollectionKey, keys_at_start, Dependencies, never_applicable, needs, dependencies_by, dependencies}
use Rattle.spec_dependencies.specs.Presence.{presence, Accepts}
use Rattle.spec_dependencies.specs.Claim.{AppliesTo, Each, Meets, ListsInOrder}
use Rattle.spec_dependencies.proofs.SettledLaws.{current_none, starts_none, accepted, accepting, judge_all_ascending}
use Rattle.spec_dependencies.proofs.TableLaws.{keys_ascending, starts_keys, keys_starts, keys_apart}
use Rattle.spec_dependencies.proofs.CountLaws.{judge_all_length, all_expectations_length, keys_length}
use Rattle.spec_dependencies.proofs.ExpectedBytesLaws.{expected_bytes}
use Rattle.spec_dependencies.proofs.RunLaws.{expectations_of, applies_accepts, accepts_not_key}
use Rattle.spec_dependencies.proofs.WalkLaws.{table_of, walk_table}

-- ---- expectations that are met, and the answer

-- the answer of a table
tabled : Option (List Settled) → Dependencies → Type 0
tabled none (never_applicable i j) = Unit {0}
tabled none (needs held lacked) = ⊥
tabled (some t) (never_applicable i j) = ⊥
tabled (some t) (needs held lacked) = (held ≡ keys_at_start true t) × (lacked ≡ keys_at_start false t)

by_table : (w : SettlingWalk) → tabled (table_of w) (dependencies_by w)
unfolding tabled dependencies_by
by_table (settles t) = (refl, refl)
by_table (contradicts i j) = tt

answer_tabled : (ps : List Patch) → tabled (judge_all (expectations_of ps) []) (dependencies ps)
unfolding dependencies
answer_tabled ps = subst (λ x. tabled x (dependencies_by (settle_patches 0 ps []))) (walk_table 0 ps []) (by_table (settle_patches 0 ps []))

module _ (p : Projection) (ps : List Patch) where
  -- expectations that are met from the start on are judged
  accepts_meets : Accepts (expectations_of ps) (presence p) → Meets p (dependencies ps)
  unfolding tabled
  accepts_meets a =
      let (t, judges, starts) = accepted (presence p) (expectations_of ps) [] (starts_none (presence p)) (subst (Accepts (expectations_of ps)) (sym (current_none (presence p))) a) in
      go (dependencies ps) t (subst (λ x. tabled x (dependencies ps)) judges (answer_tabled ps))
      (starts_keys (presence p) t (judge_all_ascending (expectations_of ps) [] t tt judges) starts)
    where
      go : (d : Dependencies) (t : List Settled) → tabled (some t) d → Each true p (keys_at_start true t) × Each false p (keys_at_start false t) → Meets p d
      go (never_applicable i j) t x keys = x
      go (needs held lacked) t x keys = (rw x.0 keys.0, rw x.1 keys.1)

  meets_accepts : Meets p (dependencies ps) → Accepts (expectations_of ps) (presence p)
  unfolding tabled
  meets_accepts m = go (judge_all (expectations_of ps) []) refl (dependencies ps) (answer_tabled ps) m
    where
      go : (x : Option (List Settled)) → judge_all (expectations_of ps) [] ≡ x → (d : Dependencies) → tabled x d → Meets p d → Accepts (expectations_of ps) (presence p)
      go none e (never_applicable i j) x m = absurd m
      go none e (needs held lacked) x m = absurd x
      go (some t) e (never_applicable i j) x m = absurd m
      go (some t) e (needs held lacked) x m =
          subst (Accepts (expectations_of ps)) (current_none (presence p))
          (accepting (presence p) (expectations_of ps) [] t e (keys_starts (presence p) t (rw x.0 at m.0) (rw x.1 at m.1))).1

-- ---- the theorem

-- where applying does not stop with 9, a set applies exactly if it is not reported as never applicable and the projection holds all of the first keys and none of the second
pub depends_exactly : (p : Projection) (ps : List Patch) → Valid p → (findings ps).found ≡ [] → ¬ (apply_steps p (replay_steps ps) ≡ stopped projection_full)
    → AppliesTo p ps ↔ Meets p (dependencies ps)
depends_exactly p ps valid clean notFull =
    (λ a. accepts_meets p ps (applies_accepts p ps valid.entries clean a.0 a.1), λ m. go (apply_steps p (replay_steps ps)) refl (meets_accepts p ps m))
  where
    go : (x : Outcome) → apply_steps p (replay_steps ps) ≡ x → Accepts (expectations_of ps) (presence p) → AppliesTo p ps
    go (done q) e a = (q, e)
    go (stopped key_rule) e a = absurd (accepts_not_key p ps valid.entries clean a e)
    go (stopped projection_full) e a = absurd (notFull e)

-- a set that is reported as never applicable applies to no valid projection
pub never_applies : (ps : List Patch) (i j : ℕ) → (findings ps).found ≡ [] → dependencies ps ≡ never_applicable i j → (p : Projection) → Valid p → ¬ AppliesTo p ps
never_applies ps i j clean e p valid a = subst (Meets p) e (accepts_meets p ps (applies_accepts p ps valid.entries clean a.0 a.1))

-- ---- the lists

-- each is strictly ascending by collection and key, and they share no pair
pub lists_ascend : (ps : List Patch) (held lacked : List CollectionKey) → dependencies ps ≡ needs held lacked → ListsInOrder held lacked
unfolding tabled
lists_ascend ps held lacked e = go (judge_all (expectations_of ps) []) refl (subst (tabled (judge_all (expectations_of ps) [])) e (answer_tabled ps))
  where
    go : (x : Option (List Settled)) → judge_all (expectations_of ps) [] ≡ x → tabled x (needs held lacked) → ListsInOrder held lacked
    go none f x = absurd x
    go (some t) f x =
        let a : Ascending settled_key t = judge_all_ascending (expectations_of ps) [] t tt f in
        rw (x.0, x.1) (record { held_ascending = keys_ascending true t a; lacked_ascending = keys_ascending false t a; apart = keys_apart t a })

-- they have at most one key for each expectation
lists_count : (ps : List Patch) (held lacked : List CollectionKey) → dependencies ps ≡ needs held lacked → length held + length lacked ≤ length (expectations_of ps)
unfolding tabled
lists_count ps held lacked e = go (judge_all (expectations_of ps) []) refl (subst (tabled (judge_all (expectations_of ps) [])) e (answer_tabled ps))
  where
    go : (x : Option (List Settled)) → judge_all (expectations_of ps) [] ≡ x → tabled x (needs held lacked) → length held + length lacked ≤ length (expectations_of ps)
    go none f x = absurd x
    go (some t) f x = rw (x.0, x.1) (omega (arith, keys_length t, judge_all_length (expectations_of ps) [] t f))

-- at most two for each operation
pub lists_few : (ps : List Patch) (held lacked : List CollectionKey) → dependencies ps ≡ needs held lacked → length held + length lacked ≤ 2 * length (operations_of ps)
lists_few ps held lacked e = omega (arith, lists_count ps held lacked e, all_expectations_length (operations_of ps))

-- and 13 bytes of the set for each: a set of at most 32,768 bytes has at most 2,520
pub lists_short : (ed : Edition) (ps : List Patch) (held lacked : List CollectionKey) → dependencies ps ≡ needs held lacked → 13 * (length held + length lacked) ≤ length (encode ed ps)
lists_short ed ps held lacked e = omega (arith, lists_count ps held lacked e, expected_bytes ed ps)
