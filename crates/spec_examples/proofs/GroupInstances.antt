-- Several batches, or none: 02, 'Job 12'. One table of computed tests, and the claim on pieces met by a list that applies and one that fails.
use Rattle.std.specs.Prelude.{ℕ, Bool, T, eqb, replicate}
use mathlib.Core.List.{List, [], ◌∷◌, ◌++◌, map, flat_map}
use Rattle.std.proofs.Common.{arith}
use Rattle.spec_lists.specs.Lists.{all, equal_lists}
use Rattle.spec_patch.specs.Edition.{Edition, v1, v2}
use Rattle.spec_patch.specs.Encode.{encode}
use Rattle.spec_patch.specs.Patch.{Patch}
use Rattle.spec_session.specs.Session.{Cursor, uninitialized, at}
use Rattle.spec_projection.specs.Lookups.{KeyedValue, entries_of}
use Rattle.spec_splitting.specs.Splitting.{piece_envelope, references, is_rejected}
use Rattle.spec_group.specs.Group.{GroupBatch, total_bytes, is_group, send_first, run_group, GroupAnswer, not_a_group, taken, refused_at, group_number, with_cursor, conclude_group, GroupStep, group}
use Rattle.spec_group.specs.Singly.{piece_batch, TakenAsWhole, RefusedAsWhole}
use Rattle.spec_group.proofs.PiecesLaws.{group_as_whole}
use Rattle.spec_examples.specs.Opened.{opened_all}
use Rattle.spec_examples.proofs.SplitInstances.{patch_numbered, start_session, piece, first, scored, second, failing_patch, pieces, failing_pieces, given_pieces, given_failing, premise_applies, premise_fails}

-- ---- what the instances are made of

-- a batch of these patches for the session at its start, with true counts, a number and an edition
start_batch : Edition → ℕ → List Patch → GroupBatch
start_batch ed n ps = piece_batch ed start_session n (piece ps)

-- the answer of a group, as numbers: how many were taken; or 0, the place and the number of the refusal; or the number of what is no group
numbers : GroupAnswer → List ℕ
numbers not_a_group = group_number ∷ []
numbers (taken n c) = n ∷ []
numbers (refused_at i a) = 0 ∷ i ∷ a.diagnostics.code ∷ []

cursor_number : Cursor → ℕ
cursor_number uninitialized = 0
cursor_number (at n) = n

-- what a group on the starting session answers, where its cursor stands afterwards, and the keys of collection 9
group_ends : List GroupBatch → List ℕ → List (List ℕ)
group_ends bs sets = numbers step.answer ∷ (cursor_number step.next.cursor ∷ []) ∷ map (λ (e : KeyedValue). e.key) (entries_of step.next.projection 9) ∷ []
  where
    step : GroupStep
    step = group start_session bs sets

same : List (List ℕ) → List (List ℕ) → Bool
same = equal_lists (equal_lists eqb)

-- their sets: the first in the second edition, one that fails, and one without patches
one : List ℕ
one = encode v2 (scored ∷ [])

two : List ℕ
two = encode v1 (second ∷ [])

bad : List ℕ
bad = encode v1 (failing_patch ∷ [])

none : List ℕ
none = encode v1 []

-- ---- the instances

-- a batch of each edition, and one without patches between them: all three are taken
pub three_taken : Bool
three_taken = same (group_ends (start_batch v2 40 (scored ∷ []) ∷ start_batch v1 77 [] ∷ start_batch v1 41 (second ∷ []) ∷ []) (one ++ (none ++ two))) ((3 ∷ []) ∷ (41 ∷ []) ∷ (1 ∷ []) ∷ [])

-- the second fails at its operation: nothing is taken, its place is 1, and the first is taken back
pub second_refused : Bool
second_refused = same (group_ends (start_batch v2 40 (scored ∷ []) ∷ start_batch v1 41 (failing_patch ∷ []) ∷ start_batch v1 42 (second ∷ []) ∷ []) (one ++ (bad ++ two))) ((0 ∷ 1 ∷ 8 ∷ []) ∷ (0 ∷ []) ∷ [] ∷ [])

-- a wrong number is refused as it would be singly, after the first
pub number_skipped : Bool
number_skipped = same (group_ends (start_batch v2 40 (scored ∷ []) ∷ start_batch v1 42 (second ∷ []) ∷ []) (one ++ two)) ((0 ∷ 1 ∷ 7 ∷ []) ∷ (0 ∷ []) ∷ [] ∷ [])

-- no batch, nine batches, a byte too many, a byte too few: 17
pub no_groups : Bool
no_groups =
    all (λ (l : List (List ℕ)). same l ((17 ∷ []) ∷ (0 ∷ []) ∷ [] ∷ []))
    (group_ends [] []
    ∷ group_ends (replicate 9 (start_batch v1 40 [])) (flat_map (λ (k : ℕ). none) (replicate 9 0))
    ∷ group_ends (start_batch v2 40 (scored ∷ []) ∷ []) (one ++ (0 ∷ []))
    ∷ group_ends (start_batch v2 40 (scored ∷ []) ∷ start_batch v1 41 (second ∷ []) ∷ []) one ∷ [])

pub groups_hold : T (all (λ (b : Bool). b) (three_taken ∷ second_refused ∷ number_skipped ∷ no_groups ∷ []))
unfolding three_taken second_refused number_skipped no_groups start_batch numbers cursor_number group_ends same one two bad none entries_of
    total_bytes is_group send_first run_group with_cursor conclude_group group piece_batch piece_envelope references is_rejected
    patch_numbered start_session piece first scored second failing_patch flat_map opened_all
groups_hold = tt

-- the claim on pieces, met by a list that applies and by one that fails
pub taken_together : TakenAsWhole v2 start_session 40 (piece (scored ∷ second ∷ [])) pieces
taken_together = (group_as_whole v2 start_session 40 _ pieces given_pieces (omega arith)).applies premise_applies

pub refused_together : RefusedAsWhole v1 start_session 40 (piece (first ∷ failing_patch ∷ [])) failing_pieces
refused_together = (group_as_whole v1 start_session 40 _ failing_pieces given_failing (omega arith)).fails premise_fails
