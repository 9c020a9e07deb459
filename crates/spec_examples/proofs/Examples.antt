-- The twelve starred examples of 01, 'Settled examples', as one table of computed tests.
use Rattle.std.specs.Prelude.{ℕ, zero, suc, ◌+◌, ◌^◌, ◌-◌, Bool, true, false, ◌&&◌, List, [], ◌∷◌, map, T, eqb, negsuc, length, replicate}
use Rattle.std.proofs.Math.Option.{none, some}
use Rattle.spec_lists.specs.Lists.{all, equal_lists, is_empty}
use Rattle.spec_patch.specs.Patch as patch
use Rattle.spec_patch.specs.Patch.{Operation, Patch, quad, signed, text, unsigned, set_binding, set_availability, insert, update, move, pending}
use Rattle.spec_patch.specs.Edition.{v1}
use Rattle.spec_patch.specs.Encode.{encode_value, encode}
use Rattle.spec_patch.specs.Reader.{fault_number}
use Rattle.spec_patch.specs.Read.{SetReading, patches, fault, read_set}
use Rattle.spec_checks.specs.Finding.{finding_key}
use Rattle.spec_checks.specs.Findings.{findings}
use Rattle.spec_projection.specs.Projection.{Entry, empty}
use Rattle.spec_projection.specs.Apply.{Outcome, done, stopped, operation_fault_number, apply_steps, operations_of}
use Rattle.spec_session.specs.Session.{Cursor, uninitialized, at, Session, active}
use Rattle.spec_session.specs.Lifecycle.{Disposition, applied, no_change, rejected}
use Rattle.spec_session.specs.Batch.{BatchAnswer, batch}
use Rattle.spec_listing.specs.Listing.{listing}
use Rattle.spec_examples.specs.Opened.{opened_all}

-- ---- what the examples are made of

-- a patch of an id and a sequence, with no surface
plain_patch : ℕ → ℕ → List Operation → Patch
plain_patch i n os = record {
  envelope = record { id = i; stream = 1; document = 1; surface = none; previous = n; revision = n + 1; epoch = 1; sequence = n };
  operations = os;
}

-- one availability, for node 5
availability : List Operation
availability = set_availability 5 pending ∷ []

-- n inserts of different keys into collection 9, each placed last
inserts : ℕ → List Operation
inserts zero = []
inserts (suc n) = insert 9 n none (unsigned 1) ∷ inserts n

-- operations applied to an empty projection
apply_to_empty : List Operation → Outcome
apply_to_empty os = apply_steps empty (map (λ (o : Operation). record { patch = 1; operation = o }) os)

keys_after : Outcome → List ℕ
keys_after (done p) = map (λ (e : Entry). e.key) p.entries
keys_after (stopped f) = []

-- 0, or the number of the refusal
outcome_number : Outcome → ℕ
outcome_number (done p) = 0
outcome_number (stopped f) = operation_fault_number f

reading_number : SetReading → ℕ
reading_number (patches ps) = 0
reading_number (fault f) = fault_number f

-- session 7, Active, with node 5 and collection 9, of a diagnostic cap, a patch limit and a cursor
session : ℕ → ℕ → Cursor → Session
session cap most c = record {
  id = 7;
  limits = record { stimulus_bytes = 100; diagnostics = cap; patches = most; references = 100 };
  catalogue = record { nodes = 5 ∷ []; bindings = []; collections = 9 ∷ [] };
  lifecycle = active;
  cursor = c;
  projection = empty;
}

-- the answer to a batch with true counts, for a session id and a sequence number
sent : Session → ℕ → ℕ → List Patch → BatchAnswer
sent s i n ps = (batch v1 s (record { session = i; sequence = n; patches = length ps; stimulus_bytes = 3 }) (length (operations_of ps)) (encode v1 ps)).answer

is_no_change : Disposition → Bool
is_no_change applied = false
is_no_change no_change = true
is_no_change rejected = false

was_applied : Disposition → Bool
was_applied applied = true
was_applied no_change = false
was_applied rejected = false

same_numbers : List ℕ → List ℕ → Bool
same_numbers = equal_lists eqb

-- a set of one patch whose one value is this text
text_set : List ℕ → List ℕ
text_set t = encode v1 (plain_patch 1 1 (set_binding 5 0 (text t) ∷ []) ∷ [])

-- Pending for node 5; in collection 9 insert key 2 as −4, then key 1 before 2 as text Ok; binding 5, 0 as T
listing_set : List ℕ
listing_set = encode v1 (plain_patch 1 1 (set_availability 5 pending ∷ insert 9 2 none (signed (negsuc 3)) ∷ insert 9 1 (some 2) (text (79 ∷ 107 ∷ [])) ∷ set_binding 5 0 (quad patch.T) ∷ []) ∷ [])

-- the five lines of 01's listing
listing_lines : List ℕ
listing_lines =
    80 ∷ 9 ∷ 52 ∷ 10 ∷
    66 ∷ 9 ∷ 53 ∷ 9 ∷ 48 ∷ 9 ∷ 81 ∷ 9 ∷ 50 ∷ 10 ∷
    65 ∷ 9 ∷ 53 ∷ 9 ∷ 51 ∷ 10 ∷
    67 ∷ 9 ∷ 57 ∷ 9 ∷ 49 ∷ 9 ∷ 84 ∷ 9 ∷ 79 ∷ 107 ∷ 10 ∷
    67 ∷ 9 ∷ 57 ∷ 9 ∷ 50 ∷ 9 ∷ 83 ∷ 9 ∷ 45 ∷ 52 ∷ 10 ∷ []

-- ---- the examples, in 01's order

-- the empty set has 35 bytes; with true counts and a wrong sequence number it answers NoChange
pub empty_set : Bool
empty_set = eqb (length (encode v1 [])) 35 && is_no_change (sent (session 9 9 (at 4)) 7 77 []).disposition

-- one patch, no surface, one availability: 106 bytes
pub one_availability : Bool
one_availability = eqb (length (encode v1 (plain_patch 1 1 availability ∷ []))) 106

-- unsigned 1: 04, 01, seven zero bytes
pub unsigned_one : Bool
unsigned_one = same_numbers (encode_value (unsigned 1)) (4 ∷ 1 ∷ replicate 7 0)

-- At(2^64−1) and one valid patch: 7
pub last_number : Bool
last_number = eqb (sent (session 9 9 (at (2 ^ 64 - 1))) 7 0 (plain_patch 1 1 availability ∷ [])).diagnostics.code 7

-- a patch limit of 1: count 1 passes, 2 gives 4
pub patch_limit : Bool
patch_limit =
    was_applied (sent (session 9 1 uninitialized) 7 1 (plain_patch 1 1 availability ∷ [])).disposition
    && eqb (sent (session 9 1 uninitialized) 7 1 (plain_patch 1 1 availability ∷ plain_patch 2 2 availability ∷ [])).diagnostics.code 4

-- a cap of 0 and a foreign session: logical 1, emitted 0
pub cap_zero : Bool
cap_zero =
    let g = (sent (session 0 9 uninitialized) 8 1 (plain_patch 1 1 availability ∷ [])).diagnostics in
    eqb g.logical 1 && (eqb g.emitted 0 && (eqb g.code 0 && eqb g.stage 0))

-- three patches alike, id 7 and sequence 3: kinds 4 and 5, each (7, 3), once
pub three_alike : Bool
three_alike = equal_lists same_numbers (map finding_key (findings (replicate 3 (plain_patch 7 3 availability))).found) ((4 ∷ 7 ∷ 3 ∷ []) ∷ (5 ∷ 7 ∷ 3 ∷ []) ∷ [])

-- [1,2,3], move 1 before 3: [2,1,3]
pub move_before : Bool
move_before =
    same_numbers (keys_after (apply_to_empty (insert 9 1 none (unsigned 0) ∷ insert 9 2 none (unsigned 0) ∷ insert 9 3 none (unsigned 0) ∷ move 9 1 (some 3) ∷ [])))
    (2 ∷ 1 ∷ 3 ∷ [])

-- entry 128 fits; 129 gives 9
pub entries_fit : Bool
entries_fit = eqb (outcome_number (apply_to_empty (inserts 128))) 0 && eqb (outcome_number (apply_to_empty (inserts 129))) 9

-- ED A0 80 gives 10; F4 8F BF BF passes
pub texts : Bool
texts =
    eqb (reading_number (read_set v1 (text_set (0xED ∷ 0xA0 ∷ 0x80 ∷ [])))) 10
    && eqb (reading_number (read_set v1 (text_set (0xF4 ∷ 0x8F ∷ 0xBF ∷ 0xBF ∷ [])))) 0

-- insert and update of one key in a patch: no finding
pub insert_and_update : Bool
insert_and_update = is_empty (findings (plain_patch 1 1 (insert 9 1 none (unsigned 1) ∷ update 9 1 (unsigned 2) ∷ []) ∷ [])).found

-- the listing of 181 bytes
pub the_listing : Bool
the_listing = eqb (length listing_set) 181 && same_numbers (listing v1 listing_set) listing_lines

abbrev pub examples : List Bool
examples =
    empty_set ∷ one_availability ∷ unsigned_one ∷ last_number ∷ patch_limit ∷ cap_zero
    ∷ three_alike ∷ move_before ∷ entries_fit ∷ texts ∷ insert_and_update ∷ the_listing ∷ []

-- all twelve hold
pub examples_hold : T (all (λ (b : Bool). b) examples)
unfolding empty_set one_availability unsigned_one last_number patch_limit cap_zero three_alike move_before entries_fit texts insert_and_update the_listing
    plain_patch availability inserts apply_to_empty keys_after outcome_number reading_number session sent is_no_change was_applied same_numbers text_set listing_set listing_lines opened_all
examples_hold = tt
