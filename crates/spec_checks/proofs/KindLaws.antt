-- The numbers of the kinds order as the Rust's code texts do, so that ordering by number is `DiagnosticCoordinate`'s order.
use Prim.Native.Nat as Nat
use Prim.Native.Nat.{ℕ, Ordering}
use Prim.Native.String as String
use Rattle.std.specs.Prelude.{◌≡◌, refl, T, ltb, length, get_or}
use mathlib.Core.List.{List, [], ◌∷◌, map, Memᴰ}
use Rattle.std.proofs.Common.{lit<}
use Rattle.spec_lists.proofs.ListLaws.{get_or_member, map_member}
use Rattle.spec_checks.specs.Finding.{Kind, kind_number, code_text, broken_revision_chain, collection_before_self, duplicate_mutation_target, duplicate_patch_id, duplicate_sequence, empty_operations, mixed_document, mixed_epoch, mixed_stream, non_increasing_revision, out_of_order_sequence, sequence_overflow, zero_patch_id, zero_stream_id}

-- every kind, in the order of its number
abbrev pub finding_kinds : List Kind
finding_kinds =
    broken_revision_chain ∷ collection_before_self ∷ duplicate_mutation_target ∷ duplicate_patch_id ∷ duplicate_sequence ∷ empty_operations ∷ mixed_document
    ∷ mixed_epoch ∷ mixed_stream ∷ non_increasing_revision ∷ out_of_order_sequence ∷ sequence_overflow ∷ zero_patch_id ∷ zero_stream_id ∷ []

pub kinds_numbered : map kind_number finding_kinds ≡ 1 ∷ 2 ∷ 3 ∷ 4 ∷ 5 ∷ 6 ∷ 7 ∷ 8 ∷ 9 ∷ 10 ∷ 11 ∷ 12 ∷ 13 ∷ 14 ∷ []
unfolding kind_number
kinds_numbered = refl

nth : (i : ℕ) → T (ltb i (length finding_kinds)) → Memᴰ (get_or finding_kinds i broken_revision_chain) finding_kinds
nth i h = get_or_member finding_kinds i broken_revision_chain (lit< h)

every_kind : (k : Kind) → Memᴰ k finding_kinds
every_kind broken_revision_chain = nth 0 tt
every_kind collection_before_self = nth 1 tt
every_kind duplicate_mutation_target = nth 2 tt
every_kind duplicate_patch_id = nth 3 tt
every_kind duplicate_sequence = nth 4 tt
every_kind empty_operations = nth 5 tt
every_kind mixed_document = nth 6 tt
every_kind mixed_epoch = nth 7 tt
every_kind mixed_stream = nth 8 tt
every_kind non_increasing_revision = nth 9 tt
every_kind out_of_order_sequence = nth 10 tt
every_kind sequence_overflow = nth 11 tt
every_kind zero_patch_id = nth 12 tt
every_kind zero_stream_id = nth 13 tt

by_text : Kind → Kind → Ordering
by_text a b = String.compare (code_text a) (code_text b)

by_number : Kind → Kind → Ordering
by_number a b = Nat.compare (kind_number a) (kind_number b)

-- every pair, computed
table : map (λ a. map (by_text a) finding_kinds) finding_kinds ≡ map (λ a. map (by_number a) finding_kinds) finding_kinds
unfolding by_text by_number kind_number code_text
table = refl

pub kind_order : (a b : Kind) → String.compare (code_text a) (code_text b) ≡ Nat.compare (kind_number a) (kind_number b)
unfolding by_text by_number
kind_order a b = map_member (by_text a) (by_number a) finding_kinds (map_member (λ k. map (by_text k) finding_kinds) (λ k. map (by_number k) finding_kinds) finding_kinds table (every_kind a)) (every_kind b)
