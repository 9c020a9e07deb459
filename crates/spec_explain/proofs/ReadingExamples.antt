-- Where reading stops, an example for each rule at the least, as one table that the checker computes. The positions are counted by 01, 'Canonical bytes':
-- the heading to 30, the patch count from 31, of the first patch the id from 35, the surface from 59, the operation count from 92, its first operation from 96.
use Rattle.std.specs.Prelude.{ℕ, ◌≡◌, refl, List, [], ◌∷◌, ◌++◌, map, take, replicate}
use Rattle.std.proofs.Math.Option.{Option, none, some}
use Rattle.spec_patch.specs.Patch.{Operation, set_availability, pending, Envelope, Patch}
use Rattle.spec_patch.specs.Edition.{Edition, v1, v2}
use Rattle.spec_patch.specs.Encode.{u32, u64, encode_envelope, heading, encode}
use Rattle.spec_patch.specs.Reader.{fault_number}
use Rattle.spec_listing.specs.Ascii.{ascii}
use Rattle.spec_explain.specs.ReadingRule.{ReadingRule, set_too_long, wrong_heading, too_few_bytes, operation_tag, value_kind, optional_tag, availability_tag, quad_tag, score_range, not_utf8, patch_count, operation_count_lem, text_length, character_count, bytes_left, rule_fault, reading_word, Inside, outside, in_patch, in_operation, Unread}
use Rattle.spec_explain.specs.Locate.{locate}
use Rattle.spec_explain.specs.Opened.{opened_reasons}

-- a set in an edition, and where its reading stops
pub record ReadingExample : Type 0 where
  pub edition : Edition
  pub set : List ℕ
  pub stops : Option Unread

abbrev stops : Edition → List ℕ → ReadingRule → Inside → ℕ → ReadingExample
stops ed set rule inside position = record { edition = ed; set = set; stops = some (record { rule = rule; inside = inside; position = position }) }

-- ---- what the sets are made of

abbrev env : Envelope
env = record { id = 1; stream = 1; document = 1; surface = none; previous = 1; revision = 2; epoch = 1; sequence = 1 }

-- one patch whose one operation is spelled by these bytes, or begins with them
abbrev spelling : Edition → List ℕ → List ℕ
spelling ed bs = heading ed ++ (u32 1 ++ (encode_envelope env ++ (u32 1 ++ bs)))

-- a binding whose value is spelled so: the node from 97, the slot from 105, the kind at 109
abbrev valued : Edition → List ℕ → List ℕ
valued ed bs = spelling ed (1 ∷ u64 5 ++ (u32 0 ++ bs))

-- a text of n letters
abbrev letters : ℕ → List ℕ
letters n = 3 ∷ u32 n ++ replicate n 97

abbrev patch_with : List Operation → Patch
patch_with os = record { envelope = env; operations = os }

-- ---- the table

abbrev outside_patches : List ReadingExample
outside_patches =
    -- before any reading, with a right heading or a wrong one
    stops v1 (replicate 32769 0) set_too_long outside 0
    -- the letter that differs; the digit of the other edition; the length of the heading
    ∷ stops v1 (u32 27 ++ (85 ∷ 73 ∷ 94 ∷ [])) wrong_heading outside 6
    ∷ stops v2 (encode v1 []) wrong_heading outside 30
    ∷ stops v1 (26 ∷ []) wrong_heading outside 0
    -- nothing; a heading cut off; a count cut off
    ∷ stops v1 [] too_few_bytes outside 0
    ∷ stops v1 (take 12 (heading v1)) too_few_bytes outside 12
    ∷ stops v1 (heading v1 ++ (1 ∷ 0 ∷ [])) too_few_bytes outside 31
    -- at its field, whatever follows
    ∷ stops v1 (heading v1 ++ u32 65) patch_count outside 31
    ∷ stops v1 (encode v1 [] ++ (7 ∷ [])) bytes_left outside 35
    ∷ stops v1 (encode v1 (patch_with (set_availability 5 pending ∷ []) ∷ []) ++ (7 ∷ 7 ∷ [])) bytes_left outside 106
    ∷ []

abbrev inside_patches : List ReadingExample
inside_patches =
    -- a patch that is announced and lacks; its second field; its surface
    stops v1 (heading v1 ++ u32 1) too_few_bytes (in_patch 0) 35
    ∷ stops v1 (heading v1 ++ (u32 1 ++ (u64 1 ++ (1 ∷ 0 ∷ [])))) too_few_bytes (in_patch 0) 43
    ∷ stops v1 (heading v1 ++ (u32 1 ++ (u64 1 ++ (u64 1 ++ (u64 1 ++ (2 ∷ [])))))) optional_tag (in_patch 0) 59
    ∷ stops v1 (heading v1 ++ (u32 1 ++ (encode_envelope env ++ u32 129))) operation_count_lem (in_patch 0) 92
    -- the second patch
    ∷ stops v1 (heading v1 ++ (u32 2 ++ (encode_envelope env ++ (u32 0 ++ (encode_envelope env ++ u32 129))))) operation_count_lem (in_patch 1) 153
    ∷ []

abbrev inside_operations : List ReadingExample
inside_operations =
    stops v1 (spelling v1 []) too_few_bytes (in_operation 0 0) 96
    ∷ stops v1 (spelling v1 (7 ∷ [])) operation_tag (in_operation 0 0) 96
    ∷ stops v1 (spelling v1 (2 ∷ 5 ∷ 0 ∷ 0 ∷ [])) too_few_bytes (in_operation 0 0) 97
    ∷ stops v1 (spelling v1 (2 ∷ u64 5 ++ (5 ∷ []))) availability_tag (in_operation 0 0) 105
    ∷ stops v1 (spelling v1 (6 ∷ u64 9 ++ (u64 1 ++ (2 ∷ [])))) optional_tag (in_operation 0 0) 113
    ∷ stops v1 (spelling v1 (6 ∷ u64 9 ++ (u64 1 ++ (1 ∷ 3 ∷ [])))) too_few_bytes (in_operation 0 0) 114
    -- the kind of a score is one of the second edition alone
    ∷ stops v1 (valued v1 (5 ∷ 1 ∷ [])) value_kind (in_operation 0 0) 109
    ∷ stops v2 (valued v2 (6 ∷ [])) value_kind (in_operation 0 0) 109
    ∷ stops v1 (valued v1 (1 ∷ 4 ∷ [])) quad_tag (in_operation 0 0) 110
    ∷ stops v2 (valued v2 (5 ∷ 101 ∷ [])) score_range (in_operation 0 0) 110
    -- a text: its length cut off, its bytes cut off, whatever their number; too many bytes; not UTF-8; too many characters
    ∷ stops v1 (valued v1 (3 ∷ 1 ∷ [])) too_few_bytes (in_operation 0 0) 110
    ∷ stops v1 (valued v1 (3 ∷ u32 241 ++ (97 ∷ []))) too_few_bytes (in_operation 0 0) 114
    ∷ stops v1 (valued v1 (letters 241)) text_length (in_operation 0 0) 110
    ∷ stops v1 (valued v1 (3 ∷ u32 1 ++ (0xff ∷ []))) not_utf8 (in_operation 0 0) 114
    ∷ stops v1 (valued v1 (letters 161)) character_count (in_operation 0 0) 114
    -- the second operation of the first patch, the first and the second of the second
    ∷ stops v1 (heading v1 ++ (u32 1 ++ (encode_envelope env ++ (u32 2 ++ (5 ∷ u64 9 ++ (u64 1 ++ (7 ∷ []))))))) operation_tag (in_operation 0 1) 113
    ∷ stops v1 (heading v1 ++ (u32 2 ++ (encode_envelope env ++ (u32 0 ++ (encode_envelope env ++ (u32 1 ++ (7 ∷ []))))))) operation_tag (in_operation 1 0) 157
    ∷ stops v1 (heading v1 ++ (u32 2 ++ (encode_envelope env ++ (u32 0 ++ (encode_envelope env ++ (u32 2 ++ (5 ∷ u64 9 ++ (u64 1 ++ (7 ∷ []))))))))) operation_tag (in_operation 1 1) 174
    ∷ []

abbrev pub reading_examples : List ReadingExample
reading_examples = outside_patches ++ (inside_patches ++ inside_operations)

-- reading stops there
pub examples_stop : map (λ (x : ReadingExample). locate x.edition x.set) reading_examples ≡ map (λ (x : ReadingExample). x.stops) reading_examples
unfolding opened_reasons
examples_stop = refl

-- ---- the numbers and words

abbrev pub named_reading : Option Unread → ℕ × List ℕ
named_reading none = (0, [])
named_reading (some u) = (fault_number (rule_fault u.rule), reading_word u.rule)

-- of the examples above, in their order
pub readings_named : map (λ (x : ReadingExample). named_reading x.stops) reading_examples ≡
    (12, ascii "set-too-long") ∷ (10, ascii "heading") ∷ (10, ascii "heading") ∷ (10, ascii "heading")
    ∷ (10, ascii "too-few-bytes") ∷ (10, ascii "too-few-bytes") ∷ (10, ascii "too-few-bytes") ∷ (12, ascii "patch-count") ∷ (10, ascii "bytes-left") ∷ (10, ascii "bytes-left")
    ∷ (10, ascii "too-few-bytes") ∷ (10, ascii "too-few-bytes") ∷ (10, ascii "optional") ∷ (12, ascii "operation-count") ∷ (12, ascii "operation-count")
    ∷ (10, ascii "too-few-bytes") ∷ (10, ascii "operation-tag") ∷ (10, ascii "too-few-bytes") ∷ (10, ascii "availability") ∷ (10, ascii "optional") ∷ (10, ascii "too-few-bytes")
    ∷ (10, ascii "value-kind") ∷ (10, ascii "value-kind") ∷ (10, ascii "quad") ∷ (10, ascii "score")
    ∷ (10, ascii "too-few-bytes") ∷ (10, ascii "too-few-bytes") ∷ (12, ascii "text-length") ∷ (10, ascii "text-not-utf8") ∷ (12, ascii "text-characters")
    ∷ (10, ascii "operation-tag") ∷ (10, ascii "operation-tag") ∷ (10, ascii "operation-tag") ∷ []
unfolding fault_number
readings_named = refl
