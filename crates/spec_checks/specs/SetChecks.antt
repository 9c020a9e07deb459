-- The findings of a set, kinds 1, 4, 5, 7, 8, 9, 11 and 12: 01, 'Patch checks'; `validate_patch_set` of the Rust.
use Rattle.std.specs.Prelude.{◌+◌, Bool, not, List, [], ◌∷◌, ◌++◌, eqb, if◌then◌else◌}
use Rattle.spec_lists.specs.Lists.{any}
use Rattle.spec_lists.specs.Order.{sort_unique}
use Rattle.spec_patch.specs.Sizes.{largest_u64}
use Rattle.spec_patch.specs.Patch.{Envelope, Patch}
use Rattle.spec_checks.specs.Finding.{Finding, finding, finding_key, report, check_each, broken_revision_chain, duplicate_patch_id, duplicate_sequence, mixed_document, mixed_epoch, mixed_stream, out_of_order_sequence, sequence_overflow}

-- the sequence of q has no next one
unfoldable pub is_last_sequence : Envelope → Bool
is_last_sequence q = eqb q.sequence largest_u64

unfoldable pub is_same_sequence : Envelope → Envelope → Bool
is_same_sequence q e = eqb e.sequence q.sequence

unfoldable pub is_next_sequence : Envelope → Envelope → Bool
is_next_sequence q e = eqb e.sequence (q.sequence + 1)

-- patch e after patch q: kind 12, which carries q's id and sequence, or else 5 or 11; and 1 where none of these is found
unfoldable pub sequence_findings : Envelope → Envelope → List Finding
sequence_findings q e =
    if is_last_sequence q then finding sequence_overflow q.id q.sequence ∷ [] else
    if is_same_sequence q e then finding duplicate_sequence e.id e.sequence ∷ [] else
    if is_next_sequence q e then report (not (eqb e.previous q.revision)) (finding broken_revision_chain e.id q.id) else
    finding out_of_order_sequence e.id e.sequence ∷ []

-- patch e after patch q: kinds 7, 8 and 9, with q's id as secondary, and those of the sequence
unfoldable pub pair_findings : Envelope → Envelope → List Finding
pair_findings q e =
    report (not (eqb e.document q.document)) (finding mixed_document e.id q.id)
    ++ (report (not (eqb e.epoch q.epoch)) (finding mixed_epoch e.id q.id)
    ++ (report (not (eqb e.stream q.stream)) (finding mixed_stream e.id q.id)
    ++ sequence_findings q e))

-- kind 4: an earlier patch, whichever, has the id; secondary is the sequence
unfoldable pub duplicate_id_findings : List Patch → Patch → List Finding
duplicate_id_findings earlier p =
    let e = p.envelope in
    report (any (λ (q : Patch). eqb q.envelope.id e.id) earlier) (finding duplicate_patch_id e.id e.sequence)

-- against the patch just before, the nearest of the earlier ones; the first patch has none
unfoldable pub previous_findings : List Patch → Patch → List Finding
previous_findings [] p = []
previous_findings (q ∷ earlier) p = pair_findings q.envelope p.envelope

-- a patch after the earlier ones
unfoldable pub after_findings : List Patch → Patch → List Finding
after_findings earlier p = duplicate_id_findings earlier p ++ previous_findings earlier p

-- the set, patch by patch
unfoldable pub raw_set_findings : List Patch → List Finding
raw_set_findings ps = check_each after_findings [] ps

-- sorted without repeats
unfoldable pub set_findings : List Patch → List Finding
set_findings ps = sort_unique finding_key (raw_set_findings ps)
