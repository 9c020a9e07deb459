-- The rules of 01, 'Patch checks', as statements: what makes a record of three numbers a finding, in what order findings are given, and
-- where the check ends. RulesLaws and FindingsLaws prove that the checks do this.
use Rattle.std.specs.Prelude.{ℕ, ◌+◌, ◌≤◌, ◌<◌, ◌≡◌, ◌≢◌, length}
use mathlib.Core.List.{List, [], ◌∷◌, ◌++◌, Memᴰ, Nodup}
use Rattle.std.proofs.Math.Option.{some}
use Rattle.spec_lists.specs.Lists.{All}
use Rattle.spec_patch.specs.Sizes.{largest_u64}
use Rattle.spec_patch.specs.Patch.{Value, Operation, insert, move, Envelope, Patch}
use Rattle.spec_checks.specs.Finding.{Finding, finding, broken_revision_chain, collection_before_self, duplicate_mutation_target, duplicate_patch_id, duplicate_sequence, empty_operations, mixed_document, mixed_epoch, mixed_stream, non_increasing_revision, out_of_order_sequence, sequence_overflow, zero_patch_id, zero_stream_id}
use Rattle.spec_checks.specs.Target.{mutation_target}
use Rattle.spec_checks.specs.PatchChecks.{patch_findings}
use Rattle.spec_checks.specs.SetChecks.{set_findings}
use Rattle.spec_checks.specs.Findings.{in_patch, in_set, Findings, CleanPatch}

-- an operation that is to stand before its own key
pub data BeforeSelf (o : Operation) : Type 0 where
  inserted : (collection key : ℕ) (v : Value) → o ≡ insert collection key (some key) v → BeforeSelf o
  moved : (collection key : ℕ) → o ≡ move collection key (some key) → BeforeSelf o

-- kinds 2, 3, 6, 10, 13 and 14, of one patch: an operation's index is the number of operations before it
pub data PatchFinding (p : Patch) (f : Finding) : Type 0 where
  before_self_at : (a : List Operation) (o : Operation) (b : List Operation) → p.operations ≡ a ++ (o ∷ b) → BeforeSelf o
      → f ≡ finding collection_before_self p.envelope.id (length a) → PatchFinding p f
  repeated_at : (a : List Operation) (o : Operation) (b : List Operation) → p.operations ≡ a ++ (o ∷ b) → (u : Operation) → Memᴰ u a → mutation_target u ≡ mutation_target o
      → f ≡ finding duplicate_mutation_target p.envelope.id (length a) → PatchFinding p f
  no_operations : p.operations ≡ [] → f ≡ finding empty_operations p.envelope.id 0 → PatchFinding p f
  not_above : p.envelope.revision ≤ p.envelope.previous → f ≡ finding non_increasing_revision p.envelope.id 0 → PatchFinding p f
  no_id : p.envelope.id ≡ 0 → f ≡ finding zero_patch_id p.envelope.id 0 → PatchFinding p f
  no_stream : p.envelope.stream ≡ 0 → f ≡ finding zero_stream_id p.envelope.id 0 → PatchFinding p f

-- kinds 1, 5, 7, 8, 9, 11 and 12, of the patch of envelope e just after that of q
pub data PairFinding (q e : Envelope) (f : Finding) : Type 0 where
  other_document : e.document ≢ q.document → f ≡ finding mixed_document e.id q.id → PairFinding q e f
  other_epoch : e.epoch ≢ q.epoch → f ≡ finding mixed_epoch e.id q.id → PairFinding q e f
  other_stream : e.stream ≢ q.stream → f ≡ finding mixed_stream e.id q.id → PairFinding q e f
  overflow : q.sequence ≡ largest_u64 → f ≡ finding sequence_overflow q.id q.sequence → PairFinding q e f
  same_sequence : q.sequence ≢ largest_u64 → e.sequence ≡ q.sequence → f ≡ finding duplicate_sequence e.id e.sequence → PairFinding q e f
  out_of_order : q.sequence ≢ largest_u64 → e.sequence ≢ q.sequence → e.sequence ≢ q.sequence + 1 → f ≡ finding out_of_order_sequence e.id e.sequence → PairFinding q e f
  broken_chain : q.sequence ≢ largest_u64 → e.sequence ≡ q.sequence + 1 → e.previous ≢ q.revision → f ≡ finding broken_revision_chain e.id q.id → PairFinding q e f

-- of a set: kind 4, with any earlier patch, and those of two neighbours
pub data SetFinding (ps : List Patch) (f : Finding) : Type 0 where
  same_id : (a : List Patch) (p : Patch) (b : List Patch) → ps ≡ a ++ (p ∷ b) → (q : Patch) → Memᴰ q a → q.envelope.id ≡ p.envelope.id
      → f ≡ finding duplicate_patch_id p.envelope.id p.envelope.sequence → SetFinding ps f
  neighbours : (a : List Patch) (q p : Patch) (b : List Patch) → ps ≡ a ++ (q ∷ p ∷ b) → PairFinding q.envelope p.envelope f → SetFinding ps f

-- ---- order

-- by kind, then domain, then secondary
pub data Precedes (f g : Finding) : Type 0 where
  by_kind : f.kind < g.kind → Precedes f g
  by_domain : f.kind ≡ g.kind → f.domain < g.domain → Precedes f g
  by_secondary : f.kind ≡ g.kind → f.domain ≡ g.domain → f.secondary < g.secondary → Precedes f g

abbrev pub Sorted : List Finding → Type 0
Sorted [] = Unit {0}
Sorted (f ∷ fs) = All (Precedes f) fs × Sorted fs

-- what is given is what was found, sorted and without repeats
pub record Reported (raw found : List Finding) : Type 0 where
  pub sorted : Sorted found
  pub nodup : Nodup found
  pub only : (f : Finding) → Memᴰ f found → Memᴰ f raw
  pub every : (f : Finding) → Memᴰ f raw → Memᴰ f found

-- ---- the end of the check

-- at the first patch with findings, or else at the set
pub data Ended (ps : List Patch) (r : Findings) : Type 0 where
  at_patch : (a : List Patch) (p : Patch) (b : List Patch) → ps ≡ a ++ (p ∷ b) → All CleanPatch a → patch_findings p ≢ []
      → r ≡ record { place = in_patch (length a); found = patch_findings p } → Ended ps r
  at_set : All CleanPatch ps → r ≡ record { place = in_set; found = set_findings ps } → Ended ps r
