-- The reason behind a refusal, an example for each rule that is not one of reading, as tables that the checker computes.
use Rattle.std.specs.Prelude.{ℕ, zero, suc, ◌≡◌, refl, Bool, true, not, ◌&&◌, List, [], ◌∷◌, ◌++◌, map, eqb}
use Rattle.std.proofs.Math.Option.{Option, none, some}
use Rattle.spec_lists.specs.Lists.{any, equal_lists}
use Rattle.spec_patch.specs.Patch.{unsigned, Operation, set_binding, set_availability, insert, update, remove, move, pending, Patch}
use Rattle.spec_patch.specs.Edition.{v1}
use Rattle.spec_patch.specs.Encode.{encode}
use Rattle.spec_checks.specs.Findings as places
use Rattle.spec_projection.specs.Projection.{Entry, Projection, empty}
use Rattle.spec_session.specs.Session.{Lifecycle, created, closed, Cursor, uninitialized, at, Session}
use Rattle.spec_session.specs.Batch.{BatchEnvelope}
use Rattle.spec_listing.specs.Ascii.{ascii}
use Rattle.spec_explain.specs.ReadingRule.{ReadingRule, set_too_long, wrong_heading, too_few_bytes, operation_tag, value_kind, optional_tag, availability_tag, quad_tag, score_range, not_utf8, patch_count, operation_count_lem, text_length, character_count, bytes_left, reading_word, outside}
use Rattle.spec_explain.specs.OperationRule.{OperationRule, key_present, key_absent, neighbour_absent, bindings_full, availabilities_full, entries_full, operation_word}
use Rattle.spec_explain.specs.Reason.{patch_limit, byte_limit, both_limits, Reason, foreign_session, session_closed, declared_limits, unreadable, has_findings, counts_differ, references_over, unknown_target, cursor_mismatch, operation_fails, reason_number, limit_word, reason_word}
use Rattle.spec_explain.specs.Explain.{explain_batch, withheld, given, under_cap}
use Rattle.spec_explain.specs.Opened.{opened_reasons}

-- ---- what the examples are made of

-- limits of 1000 bytes, 2 patches and 3 references; anchors of node 5, binding (5, 0) and collection 9
abbrev session : Lifecycle → Cursor → Projection → Session
session l c p = record {
  id = 5;
  limits = record { stimulus_bytes = 1000; diagnostics = 8; patches = 2; references = 3 };
  catalogue = record { nodes = 5 ∷ []; bindings = record { node = 5; slot = 0 } ∷ []; collections = 9 ∷ [] };
  lifecycle = l;
  cursor = c;
  projection = p;
}

abbrev fresh : Session
fresh = session created uninitialized empty

-- a batch of so many patches and bytes, for session 5, with number 3
abbrev declaring : ℕ → ℕ → BatchEnvelope
declaring patches bytes = record { session = 5; sequence = 3; patches = patches; stimulus_bytes = bytes }

-- a patch of an id and a sequence, which continues the one before it
abbrev pub numbered_patch : ℕ → List Operation → Patch
numbered_patch n os = record { envelope = record { id = n; stream = 1; document = 1; surface = none; previous = n; revision = suc n; epoch = 1; sequence = n }; operations = os }

abbrev one : List Operation → List Patch
one os = numbered_patch 1 os ∷ []

-- collection 9 with these keys
abbrev keyed : List ℕ → List Entry
keyed ks = map (λ (k : ℕ). record { collection = 9; key = k; mark = 0; value = unsigned k }) ks

abbrev holding : List ℕ → Projection
holding ks = record { bindings = []; availabilities = []; entries = keyed ks }

-- n numbers from i on
unfoldable pub reason_numbers : ℕ → ℕ → List ℕ
reason_numbers i zero = []
reason_numbers i (suc n) = i ∷ reason_numbers (suc i) n

-- 64 bindings, 64 availabilities and 128 entries, none of an anchor
abbrev full : Projection
full = record {
  bindings = map (λ (i : ℕ). record { node = i; slot = 1; mark = 0; value = unsigned 0 }) (reason_numbers 100 64);
  availabilities = map (λ (i : ℕ). record { node = i; mark = 0; availability = pending }) (reason_numbers 100 64);
  entries = keyed (reason_numbers 100 128);
}

-- a batch, and why it is refused
pub record ReasonExample : Type 0 where
  pub session : Session
  pub envelope : BatchEnvelope
  pub references : ℕ
  pub set : List ℕ
  pub reason : Option Reason

abbrev example : Session → BatchEnvelope → ℕ → List Patch → Option Reason → ReasonExample
example s e references ps r = record { session = s; envelope = e; references = references; set = encode v1 ps; reason = r }

-- a batch of one patch with true counts
abbrev sent : Session → List Operation → ℕ → Option Reason → ReasonExample
sent s os n r = example s (declaring 1 10) n (one os) r

-- number and word of a reason
abbrev pub named : Option Reason → ℕ × List ℕ
named none = (0, [])
named (some r) = (reason_number r, reason_word r)

-- ---- the table

abbrev declared : List ReasonExample
declared =
    example fresh (record { session = 6; sequence = 3; patches = 9; stimulus_bytes = 10 }) 0 [] (some (foreign_session 6 5))
    ∷ example (session closed uninitialized empty) (declaring 9 10) 0 [] (some session_closed)
    ∷ example fresh (declaring 3 1000) 0 [] (some (declared_limits patch_limit 3 2 1000 1000))
    ∷ example fresh (declaring 2 1001) 0 [] (some (declared_limits byte_limit 2 2 1001 1000))
    ∷ example fresh (declaring 3 1001) 0 [] (some (declared_limits both_limits 3 2 1001 1000))
    ∷ []

abbrev of_the_set : List ReasonExample
of_the_set =
    record { session = fresh; envelope = declaring 2 10; references = 0; set = encode v1 [] ++ (7 ∷ []); reason = some (unreadable (record { rule = bytes_left; inside = outside; position = 35 })) }
    -- a patch without operations, and a move before itself: the first record and how many there are
    ∷ example fresh (declaring 1 10) 0 (one []) (some (has_findings (places.in_patch 0) 1 (record { kind = 6; domain = 1; secondary = 0 })))
    ∷ example fresh (declaring 2 10) 0 (numbered_patch 1 (remove 9 1 ∷ []) ∷ numbered_patch 1 (remove 9 1 ∷ []) ∷ []) (some (has_findings places.in_set 2 (record { kind = 4; domain = 1; secondary = 1 })))
    ∷ example fresh (declaring 2 10) 1 (one (remove 9 1 ∷ [])) (some (counts_differ 2 1 1 1))
    ∷ example fresh (declaring 1 10) 2 (one (remove 9 1 ∷ [])) (some (counts_differ 1 1 2 1))
    ∷ sent fresh (remove 9 1 ∷ remove 9 2 ∷ remove 9 3 ∷ remove 9 4 ∷ []) 4 (some (references_over 4 3))
    -- two are unknown, and the first is the second operation
    ∷ sent fresh (set_availability 5 pending ∷ set_availability 6 pending ∷ remove 8 1 ∷ []) 3 (some (unknown_target 2 0 1))
    ∷ sent fresh (set_binding 5 1 (unsigned 0) ∷ []) 1 (some (unknown_target 1 0 0))
    -- the number that the cursor would take; none after the last
    ∷ sent (session created (at 3) empty) (remove 9 1 ∷ []) 1 (some (cursor_mismatch (some 4)))
    ∷ sent (session created (at 18446744073709551615) empty) (remove 9 1 ∷ []) 1 (some (cursor_mismatch none))
    ∷ []

abbrev of_operations : List ReasonExample
of_operations =
    sent (session created (at 2) (holding (1 ∷ 2 ∷ []))) (insert 9 2 none (unsigned 0) ∷ []) 1 (some (operation_fails 0 0 key_present))
    ∷ sent (session created (at 2) (holding (1 ∷ 2 ∷ []))) (update 9 1 (unsigned 0) ∷ remove 9 3 ∷ update 9 4 (unsigned 0) ∷ []) 3 (some (operation_fails 0 1 key_absent))
    ∷ sent fresh (insert 9 1 (some 2) (unsigned 0) ∷ []) 1 (some (operation_fails 0 0 neighbour_absent))
    -- the key is not there, and then the neighbour
    ∷ sent fresh (move 9 1 (some 2) ∷ []) 1 (some (operation_fails 0 0 key_absent))
    ∷ sent (session created (at 2) (holding (1 ∷ []))) (move 9 1 (some 2) ∷ []) 1 (some (operation_fails 0 0 neighbour_absent))
    ∷ sent (session created (at 2) full) (set_binding 5 0 (unsigned 0) ∷ []) 1 (some (operation_fails 0 0 bindings_full))
    ∷ sent (session created (at 2) full) (set_availability 5 pending ∷ []) 1 (some (operation_fails 0 0 availabilities_full))
    ∷ sent (session created (at 2) full) (insert 9 1 none (unsigned 0) ∷ []) 1 (some (operation_fails 0 0 entries_full))
    -- a full panel is told after keys and neighbours
    ∷ sent (session created (at 2) full) (insert 9 1 (some 2) (unsigned 0) ∷ []) 1 (some (operation_fails 0 0 neighbour_absent))
    -- the second operation of the second patch, which the first patch made fail
    ∷ example fresh (declaring 2 10) 3 (numbered_patch 1 (insert 9 1 none (unsigned 0) ∷ []) ∷ numbered_patch 2 (set_availability 5 pending ∷ insert 9 1 none (unsigned 0) ∷ []) ∷ []) (some (operation_fails 1 1 key_present))
    ∷ []

-- one that applies, and one that changes nothing whatever its number
abbrev not_refused : List ReasonExample
not_refused =
    sent fresh (insert 9 1 none (unsigned 0) ∷ set_availability 5 pending ∷ []) 2 none
    ∷ example (session created (at 18446744073709551615) empty) (declaring 0 10) 0 [] none
    ∷ []

abbrev pub reason_examples : List ReasonExample
reason_examples = declared ++ (of_the_set ++ (of_operations ++ not_refused))

pub examples_explained : map (λ (x : ReasonExample). explain_batch v1 x.session x.envelope x.references x.set) reason_examples ≡ map (λ (x : ReasonExample). x.reason) reason_examples
unfolding opened_reasons reason_numbers
examples_explained = refl

-- ---- the numbers and words

-- the reasons above, by number and word, in their order
pub reasons_named : map (λ (x : ReasonExample). named x.reason) reason_examples ≡
    (1, ascii "foreign-session") ∷ (2, ascii "closed") ∷ (4, ascii "declared-patches") ∷ (4, ascii "declared-bytes") ∷ (4, ascii "declared-patches-and-bytes")
    ∷ (10, ascii "bytes-left") ∷ (11, ascii "findings") ∷ (11, ascii "findings") ∷ (5, ascii "counts-differ") ∷ (5, ascii "counts-differ") ∷ (4, ascii "references")
    ∷ (6, ascii "unknown-target") ∷ (6, ascii "unknown-target") ∷ (7, ascii "cursor") ∷ (7, ascii "cursor")
    ∷ (8, ascii "key-present") ∷ (8, ascii "key-absent") ∷ (8, ascii "neighbour-absent") ∷ (8, ascii "key-absent") ∷ (8, ascii "neighbour-absent")
    ∷ (9, ascii "bindings-full") ∷ (9, ascii "availabilities-full") ∷ (9, ascii "entries-full") ∷ (8, ascii "neighbour-absent") ∷ (8, ascii "key-present")
    ∷ (0, []) ∷ (0, []) ∷ []
reasons_named = refl

-- ---- the cap

-- withheld under a cap of 0, told under 1
pub cap_decides : (under_cap 0 (some (foreign_session 6 5)) ≡ withheld) × (under_cap 1 (some (foreign_session 6 5)) ≡ given (foreign_session 6 5))
unfolding under_cap
cap_decides = (refl, refl)

-- ---- no two rules of a batch share a word

abbrev rules_of_reading : List ReadingRule
rules_of_reading =
    set_too_long ∷ wrong_heading ∷ too_few_bytes ∷ operation_tag ∷ value_kind ∷ optional_tag ∷ availability_tag ∷ quad_tag ∷ score_range ∷ not_utf8 ∷ patch_count ∷ operation_count_lem ∷ text_length ∷ character_count
    ∷ bytes_left ∷ []

abbrev rules_of_operations : List OperationRule
rules_of_operations = key_present ∷ key_absent ∷ neighbour_absent ∷ bindings_full ∷ availabilities_full ∷ entries_full ∷ []

-- the words of all reasons
abbrev pub words : List (List ℕ)
words =
    map reading_word rules_of_reading
    ++ (map operation_word rules_of_operations
    ++ (map limit_word (patch_limit ∷ byte_limit ∷ both_limits ∷ [])
    ++ map reason_word (foreign_session 0 0 ∷ session_closed ∷ has_findings places.in_set 0 (record { kind = 0; domain = 0; secondary = 0 }) ∷ counts_differ 0 0 0 0 ∷ references_over 0 0 ∷ unknown_target 0 0 0 ∷ cursor_mismatch none ∷ [])))

abbrev pub distinct_reasons : List (List ℕ) → Bool
distinct_reasons [] = true
distinct_reasons (w ∷ ws) = not (any (equal_lists eqb w) ws) && distinct_reasons ws

pub words_distinct : distinct_reasons words ≡ true
words_distinct = refl
