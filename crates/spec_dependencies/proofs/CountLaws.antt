-- How many keys there can be: the table has at most one row for each expectation, and an operation has at most two.
use Rattle.std.specs.Prelude.{ℕ, suc, ◌+◌, ◌*◌, ◌≤◌, ◌≡◌, refl, true, false, length}
use Rattle.std.proofs.Common.{ap, subst, arith, length-append}
use Rattle.std.specs.Bool.{beq}
use mathlib.Core.List.{List, [], ◌∷◌, flat_map}
use Rattle.std.proofs.Math.Option.{Option, none, some, none-ne-some, some-injective}
use Rattle.spec_lists.proofs.ListLaws.{test_cases}
use Rattle.spec_lists.proofs.BytesLaws.{length_little_endian}
use Rattle.spec_lists.specs.Order.{upsert}
use Rattle.spec_lists.proofs.OrderLaws.{upsert_cases}
use Rattle.spec_patch.specs.Encode.{encode_optional, encode_value, encode_operation}
use Rattle.spec_patch.specs.Patch.{Operation, set_binding, set_availability, insert, update, remove, move}
use Rattle.spec_dependencies.specs.Expectations.{Expectation, neighbour, expectations}
use Rattle.spec_dependencies.specs.Settled.{Settled, settled_key, judge_by, judge, judge_all}
use Rattle.spec_dependencies.specs.Dependencies.{keys_at_start}
use Rattle.spec_dependencies.proofs.SettledLaws.{further_some}

-- ---- the table

row_added : (a : Settled) (t : List Settled) → length (upsert settled_key a t) ≤ suc (length t)
unfolding upsert
row_added a [] = omega arith
row_added a (x ∷ t) = upsert_cases settled_key (λ r. length r ≤ suc (suc (length t))) a x t (λ e. omega arith) (λ e. omega (arith, row_added a t)) (λ e. omega arith)

judge_by_length : (e : Expectation) (t u : List Settled) (o : Option Settled) → judge_by e t o ≡ some u → length u ≤ suc (length t)
unfolding judge_by
judge_by_length e t u none j = subst (λ r. length r ≤ suc (length t)) (some-injective _ u j) (row_added _ t)
judge_by_length e t u (some s) j = test_cases (beq s.now e.expected)
    (λ a. subst (λ r. length r ≤ suc (length t)) (some-injective _ u (rw a at j)) (row_added _ t))
    (λ a. absurd (none-ne-some u (rw a at j)))

-- at most one row for each expectation
pub judge_all_length : (es : List Expectation) (t u : List Settled) → judge_all es t ≡ some u → length u ≤ length t + length es
unfolding judge_all judge
judge_all_length [] t u j = omega (arith, ap length (some-injective t u j))
judge_all_length (e ∷ es) t u j =
    let (r, first, others) = further_some (judge e t) (λ r. judge_all es r) u j in
    omega (arith, judge_by_length e t r _ first, judge_all_length es r u others)

-- ---- the expectations

neighbour_length : (c : ℕ) (before : Option ℕ) → length (neighbour c before) ≤ 1
unfolding neighbour
neighbour_length c none = omega arith
neighbour_length c (some k) = omega arith

-- the key, and a neighbour
pub expectations_length : (o : Operation) → length (expectations o) ≤ 2
unfolding expectations
expectations_length (set_binding n s v) = omega arith
expectations_length (set_availability n a) = omega arith
expectations_length (insert c k before v) = omega (arith, neighbour_length c before)
expectations_length (update c k v) = omega arith
expectations_length (remove c k) = omega arith
expectations_length (move c k before) = omega (arith, neighbour_length c before)

pub all_expectations_length : (os : List Operation) → length (flat_map expectations os) ≤ 2 * length os
unfolding flat_map
all_expectations_length [] = omega arith
all_expectations_length (o ∷ os) = simp length-append (omega (arith, expectations_length o, all_expectations_length os))

-- ---- the two lists

-- each row is in one of them
pub keys_length : (t : List Settled) → length (keys_at_start true t) + length (keys_at_start false t) ≡ length t
unfolding keys_at_start
keys_length [] = refl
keys_length (s ∷ t) = test_cases s.at_start (λ e. rw e (omega (arith, keys_length t))) (λ e. rw e (omega (arith, keys_length t)))

-- ---- by the bytes of a set

-- a key that is expected takes 13 bytes at least: a move before a neighbour expects two, in 26
pub expectations_bytes : (o : Operation) → 13 * length (expectations o) ≤ length (encode_operation o)
unfolding expectations neighbour encode_operation encode_optional encode_value
expectations_bytes (set_binding n s v) = omega arith
expectations_bytes (set_availability n a) = omega arith
expectations_bytes (insert c k none v) = simp (length-append, length_little_endian) (omega arith)
expectations_bytes (insert c k (some n) v) = simp (length-append, length_little_endian) (omega arith)
expectations_bytes (update c k v) = simp (length-append, length_little_endian) (omega arith)
expectations_bytes (remove c k) = simp (length-append, length_little_endian) (omega arith)
expectations_bytes (move c k none) = simp (length-append, length_little_endian) (omega arith)
expectations_bytes (move c k (some n)) = simp (length-append, length_little_endian) (omega arith)
