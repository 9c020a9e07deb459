-- Every listing is within its size.
use Rattle.std.specs.Prelude.{ℕ, suc, ◌+◌, ◌*◌, ◌^◌, ◌≤◌, ◌<◌, ◌≡◌, refl, Bool, true, false, length, if◌then◌else◌}
use Rattle.std.proofs.Common.{ap, zero-mul, suc-mul, arith, length-append}
use mathlib.Core.List.{List, [], ◌∷◌, ◌++◌, flat_map}
use Rattle.spec_lists.specs.Lists.{All, is_empty}
use Rattle.spec_lists.specs.Bytes.{Bytes}
use Rattle.spec_patch.specs.Patch.{Patch, Availability, available, unavailable, hidden, pending, stale, Value, quad, signed, text, unsigned, score}
use Rattle.spec_patch.specs.Edition.{Edition}
use Rattle.spec_patch.specs.Encode.{quad_byte, availability_byte}
use Rattle.spec_patch.specs.Fits.{Storable, StorableBy}
use Rattle.spec_patch.specs.Reader.{fault_number}
use Rattle.spec_patch.specs.Read.{SetReading, patches, fault, read_set}
use Rattle.spec_patch.proofs.SetLaws.{was_encoded}
use Rattle.spec_checks.specs.Findings.{findings}
use Rattle.spec_projection.specs.Projection.{Binding, NodeAvailability, Entry, Projection, empty}
use Rattle.spec_projection.specs.Apply.{Outcome, done, stopped, operation_fault_number, apply_steps, replay_steps}
use Rattle.spec_projection.specs.Valid.{FitsBinding, FitsNodeAvailability, FitsEntry, Valid}
use Rattle.spec_projection.proofs.ValidLaws.{empty_valid, apply_steps_valid, replay_steps_fit}
use Rattle.spec_decimal.specs.Decimal.{digits, decimal, signed_decimal}
use Rattle.spec_decimal.proofs.DecimalLaws.{length_digits, digits_same}
use Rattle.spec_decimal.proofs.ReadLaws.{length_decimal}
use Rattle.spec_decimal.proofs.SignedLaws.{length_signed_decimal}
use Rattle.spec_listing.specs.Escapes.{escaped}
use Rattle.spec_listing.proofs.EscapesLaws.{escaped_length}
use Rattle.spec_listing.specs.Listing.{fields, value_fields, binding_line, availability_line, entry_line, record_count, projection_lines, refusal_line, outcome_lines, reading_lines, listing}
use Rattle.listing_lines.specs.ListingBytes.{refusal_line_bytes, value_field_bytes, binding_line_bytes, availability_line_bytes, entry_line_bytes, listing_bytes}

-- ---- numbers

length_short : (k n : ℕ) → n < 10 ^ 20 → n < 10 ^ suc k → length (decimal n) ≤ suc k
unfolding decimal
length_short k n h g = omega (arith, length_digits (suc k) n, ap length (digits_same 19 k n h g))

length_slot : (n : ℕ) → n < 2 ^ 32 → length (decimal n) ≤ 10
length_slot n h = length_short 9 n (omega arith) (omega arith)

length_count : (n : ℕ) → n < 1000 → length (decimal n) ≤ 3
length_count n h = length_short 2 n (omega arith) (omega arith)

length_availability : (a : Availability) → length (decimal (availability_byte a)) ≤ 1
unfolding decimal digits availability_byte
length_availability available = omega arith
length_availability unavailable = omega arith
length_availability hidden = omega arith
length_availability pending = omega arith
length_availability stale = omega arith

-- ---- lines

length_two : (a b : List ℕ) → length (fields (a ∷ b ∷ [])) ≡ length a + (length b + 3)
unfolding fields
length_two a b = simp length-append (omega arith)

value_short : (v : Value) → Storable v → length (fields (value_fields v)) ≤ value_field_bytes
unfolding value_fields StorableBy
value_short (quad q) h = omega (arith, length_two (81 ∷ []) (decimal (quad_byte q)), (length_decimal (quad_byte q)).1)
value_short (signed z) h = omega (arith, length_two (83 ∷ []) (signed_decimal z), (length_signed_decimal z h).1)
value_short (text t) h = omega (arith, length_two (84 ∷ []) (escaped t), (escaped_length t).1, h.short)
value_short (unsigned x) h = omega (arith, length_two (85 ∷ []) (decimal x), (length_decimal x).1)
value_short (score n) h = omega (arith, length_two (77 ∷ []) (decimal n), (length_decimal n).1)

length_record : (a b : ℕ) (rest : List (List ℕ)) → length (fields (decimal a ∷ decimal b ∷ rest)) ≡ length (decimal a) + (length (decimal b) + (length (fields rest) + 2))
unfolding fields
length_record a b rest = simp length-append (omega arith)

binding_short : (b : Binding) → FitsBinding b → length (binding_line b) ≤ binding_line_bytes
unfolding binding_line
binding_short b h = omega (arith, length_record b.node b.slot (value_fields b.value), (length_decimal b.node).1, length_slot b.slot h.slot, value_short b.value h.value)

availability_short : (a : NodeAvailability) → FitsNodeAvailability a → length (availability_line a) ≤ availability_line_bytes
unfolding availability_line
availability_short a h =
    omega (arith, length_two (decimal a.node) (decimal (availability_byte a.availability)), (length_decimal a.node).1, length_availability a.availability)

entry_short : (e : Entry) → FitsEntry e → length (entry_line e) ≤ entry_line_bytes
unfolding entry_line
entry_short e h = omega (arith, length_record e.collection e.key (value_fields e.value), (length_decimal e.collection).1, (length_decimal e.key).1, value_short e.value h.value)

length_one : (letter : ℕ) (a : List ℕ) → length (letter ∷ fields (a ∷ [])) ≡ length a + 3
unfolding fields
length_one letter a = simp length-append (omega arith)

pub refusal_short : (n : ℕ) → length (refusal_line n) ≤ refusal_line_bytes
unfolding refusal_line
refusal_short n = omega (arith, length_one 69 (decimal n), (length_decimal n).1)

-- ---- listings

lines_short : {A : Type 0} (line : A → List ℕ) (Fits : A → Type 0) (k : ℕ) → ((a : A) → Fits a → length (line a) ≤ k) → (l : List A) → All Fits l → length (flat_map line l) ≤ length l * k
unfolding flat_map
lines_short line Fits k short [] fit = omega (arith, zero-mul k)
lines_short line Fits k short (x ∷ l) fit =
    omega (arith, length-append (line x) (flat_map line l), short x fit.0, lines_short line Fits k short l fit.1, suc-mul (length l) k)

-- a projection's lines are within the size
pub projection_fits : (p : Projection) → Valid p → length (projection_lines p) ≤ listing_bytes
unfolding projection_lines record_count
projection_fits p v =
    let b = lines_short binding_line FitsBinding binding_line_bytes binding_short p.bindings v.fit_bindings in
    let a = lines_short availability_line FitsNodeAvailability availability_line_bytes availability_short p.availabilities v.fit_availabilities in
    let e = lines_short entry_line FitsEntry entry_line_bytes entry_short p.entries v.fit_entries in
    let count = length p.bindings + (length p.availabilities + length p.entries) in
    let few = v.few_bindings in
    let fewer = v.few_availabilities in
    let fewest = v.few_entries in
    let small : count < 1000 = omega arith in
    let tail = flat_map availability_line p.availabilities ++ flat_map entry_line p.entries in
    omega (
      arith,
      length_one 80 (decimal count),
      length_count count small,
      length-append (80 ∷ fields (decimal count ∷ [])) (flat_map binding_line p.bindings ++ tail),
      length-append (flat_map binding_line p.bindings) tail,
      length-append (flat_map availability_line p.availabilities) (flat_map entry_line p.entries),
    )

refusal_fits : (n : ℕ) → length (refusal_line n) ≤ listing_bytes
refusal_fits n = omega (arith, refusal_short n)

-- what the program prints of any bytes is within the size
pub listing_fits : (ed : Edition) (set : List ℕ) → Bytes set → length (listing ed set) ≤ listing_bytes
unfolding listing reading_lines outcome_lines
listing_fits ed set all = by_reading (read_set ed set) refl
  where
    by_outcome : (ps : List Patch) → read_set ed set ≡ patches ps → (x : Outcome) → apply_steps empty (replay_steps ps) ≡ x → length (outcome_lines x) ≤ listing_bytes
    by_outcome ps reads (done p) e = projection_fits p (apply_steps_valid ed empty (replay_steps ps) p (replay_steps_fit ed ps (was_encoded ed set ps all reads).1.patches) empty_valid e)
    by_outcome ps reads (stopped f) e = refusal_fits (operation_fault_number f)

    by_findings : (ps : List Patch) → read_set ed set ≡ patches ps → (t : Bool) → length (if t then outcome_lines (apply_steps empty (replay_steps ps)) else refusal_line 11) ≤ listing_bytes
    by_findings ps reads true = by_outcome ps reads (apply_steps empty (replay_steps ps)) refl
    by_findings ps reads false = refusal_fits 11

    by_reading : (r : SetReading) → read_set ed set ≡ r → length (reading_lines r) ≤ listing_bytes
    by_reading (fault f) e = refusal_fits (fault_number f)
    by_reading (patches ps) e = by_findings ps e (is_empty (findings ps).found)
