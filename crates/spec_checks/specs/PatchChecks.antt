-- The findings of one patch, kinds 2, 3, 6, 10, 13 and 14: 01, 'Patch checks'; `validate_patch` of the Rust. Domain is the patch id.
use Rattle.std.specs.Prelude.{ℕ, Bool, false, List, [], ◌++◌, leb, eqb, length}
use Rattle.std.proofs.Math.Option.{Option, none, some}
use Rattle.spec_lists.specs.Lists.{any, is_empty}
use Rattle.spec_lists.specs.Order.{sort_unique}
use Rattle.spec_patch.specs.Patch.{Operation, set_binding, set_availability, insert, update, remove, move, Envelope, Patch}
use Rattle.spec_checks.specs.Finding.{Finding, finding, finding_key, report, check_each, collection_before_self, duplicate_mutation_target, empty_operations, non_increasing_revision, zero_patch_id, zero_stream_id}
use Rattle.spec_checks.specs.Target.{same_target}

-- the named neighbour is the key itself
unfoldable pub is_self : ℕ → Option ℕ → Bool
is_self key none = false
is_self key (some before) = eqb key before

-- an insert or a move that names its own key as neighbour
unfoldable pub before_self_lem : Operation → Bool
before_self_lem (set_binding node slot v) = false
before_self_lem (set_availability node a) = false
before_self_lem (insert collection key before v) = is_self key before
before_self_lem (update collection key v) = false
before_self_lem (remove collection key) = false
before_self_lem (move collection key before) = is_self key before

-- kinds 2 and 3 of an operation after the earlier ones; secondary is its index from 0
unfoldable pub operation_findings : ℕ → List Operation → Operation → List Finding
operation_findings id earlier o =
    report (before_self_lem o) (finding collection_before_self id (length earlier))
    ++ report (any (same_target o) earlier) (finding duplicate_mutation_target id (length earlier))

-- kinds 10, 13 and 14; secondary is 0
unfoldable pub envelope_findings : Envelope → List Finding
envelope_findings e =
    report (leb e.revision e.previous) (finding non_increasing_revision e.id 0)
    ++ (report (eqb e.id 0) (finding zero_patch_id e.id 0)
    ++ report (eqb e.stream 0) (finding zero_stream_id e.id 0))

-- one patch; kind 6 has secondary 0
unfoldable pub raw_patch_findings : Patch → List Finding
raw_patch_findings p =
    let id = p.envelope.id in
    report (is_empty p.operations) (finding empty_operations id 0)
    ++ (envelope_findings p.envelope
    ++ check_each (operation_findings id) [] p.operations)

-- sorted without repeats
unfoldable pub patch_findings : Patch → List Finding
patch_findings p = sort_unique finding_key (raw_patch_findings p)
