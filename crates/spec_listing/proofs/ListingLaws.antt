-- A valid projection is read back from its listing without its marks, so two that differ otherwise never print alike.
use Rattle.std.specs.Prelude.{ℕ, ◌≡◌, refl, true, length}
use Rattle.std.proofs.Common.{sym, ap, ap₂, ◌∙◌, arith, length-append}
use mathlib.Core.List.{List, [], ◌∷◌, ◌++◌, append_assoc, head-eq_of_cons-eq, map, map-append, flat_map}
use Rattle.std.proofs.Math.Option.{Option, some, bind, some-injective}
use Rattle.std.proofs.lemmas.List.{length-map}
use Rattle.spec_lists.specs.Lists.{All}
use Rattle.spec_lists.proofs.ListLaws.{flat_map_append, all_append, equal_lists_refl}
use Rattle.spec_projection.specs.Projection.{Binding, NodeAvailability, Entry, Projection, empty}
use Rattle.spec_projection.specs.RowMap.{map_rows}
use Rattle.spec_projection.specs.Marks.{unmarked, without_marks}
use Rattle.spec_projection.specs.Valid.{FitsBinding, FitsNodeAvailability, FitsEntry, Valid}
use Rattle.spec_decimal.specs.Decimal.{decimal}
use Rattle.spec_listing.specs.Escapes.{tab, newline}
use Rattle.spec_listing.specs.Split.{split, lacks}
use Rattle.spec_listing.proofs.SplitLaws.{split_part}
use Rattle.spec_listing.specs.Listing.{fields, binding_line, availability_line, entry_line, record_count, projection_lines, refusal_line}
use Rattle.spec_listing.specs.ReadListing.{Record, binding_record, availability_record, entry_record, record_line, unmarked_record, FitsRecord, records, read_records, with_record, projection_of, count_line, under_count, read_listing_lines, read_listing}
use Rattle.spec_listing.proofs.RecordLaws.{decimal_plain, records_back}

-- ---- a projection

fits_map : {A : Type 0} (make : A → Record) (P : A → Type 0) → ((a : A) → P a → FitsRecord (make a)) → (l : List A) → All P l → All FitsRecord (map make l)
fits_map make P f [] h = tt
fits_map make P f (x ∷ l) h = (f x h.0, fits_map make P f l h.1)

records_fit : (p : Projection) → All FitsBinding p.bindings → All FitsNodeAvailability p.availabilities → All FitsEntry p.entries → All FitsRecord (records p)
unfolding records FitsRecord
records_fit p b a e =
    all_append FitsRecord (map binding_record p.bindings) (map availability_record p.availabilities ++ map entry_record p.entries) (fits_map binding_record FitsBinding (λ x h. h) p.bindings b)
    (all_append FitsRecord (map availability_record p.availabilities) (map entry_record p.entries) (fits_map availability_record FitsNodeAvailability (λ x h. h) p.availabilities a) (fits_map entry_record FitsEntry (λ x h. h) p.entries e))

flat_map_map : {A : Type 0} (make : A → Record) (line : A → List ℕ) → ((a : A) → record_line (make a) ≡ line a) → (l : List A) → flat_map record_line (map make l) ≡ flat_map line l
unfolding flat_map
flat_map_map make line f [] = refl
flat_map_map make line f (x ∷ l) = rw (f x, flat_map_map make line f l)

-- the lines behind the first are those of the records
lines_of_records : (p : Projection) → flat_map record_line (records p) ≡ flat_map binding_line p.bindings ++ (flat_map availability_line p.availabilities ++ flat_map entry_line p.entries)
unfolding records record_line
lines_of_records p =
    flat_map_append record_line (map binding_record p.bindings) (map availability_record p.availabilities ++ map entry_record p.entries)
    ∙ rw (flat_map_append record_line (map availability_record p.availabilities) (map entry_record p.entries), flat_map_map binding_record binding_line (λ x. refl) p.bindings, flat_map_map availability_record availability_line (λ x. refl) p.availabilities, flat_map_map entry_record entry_line (λ x. refl) p.entries)

records_length : (p : Projection) → length (records p) ≡ record_count p
unfolding records record_count
records_length p = simp (length-append, length-map)

projection_of_entries : (es : List Entry) → projection_of (map entry_record es) ≡ record { bindings = []; availabilities = []; entries = es }
unfolding projection_of with_record empty
projection_of_entries [] = refl
projection_of_entries (e ∷ es) = ap (with_record (entry_record e)) (projection_of_entries es)

projection_of_availabilities : (ns : List NodeAvailability) (es : List Entry) → projection_of (map availability_record ns ++ map entry_record es) ≡ record { bindings = []; availabilities = ns; entries = es }
unfolding projection_of with_record
projection_of_availabilities [] es = projection_of_entries es
projection_of_availabilities (n ∷ ns) es = ap (with_record (availability_record n)) (projection_of_availabilities ns es)

projection_of_bindings : (bs : List Binding) (ns : List NodeAvailability) (es : List Entry) → projection_of (map binding_record bs ++ (map availability_record ns ++ map entry_record es)) ≡ record { bindings = bs; availabilities = ns; entries = es }
unfolding projection_of with_record
projection_of_bindings [] ns es = projection_of_availabilities ns es
projection_of_bindings (b ∷ bs) ns es = ap (with_record (binding_record b)) (projection_of_bindings bs ns es)

projection_of_records : (p : Projection) → projection_of (records p) ≡ p
unfolding records
projection_of_records p = projection_of_bindings p.bindings p.availabilities p.entries

-- without their marks the records are those of the projection without them
records_unmarked : (p : Projection) → map unmarked_record (records p) ≡ records (without_marks p)
unfolding records unmarked_record without_marks map_rows
records_unmarked p =
    map-append unmarked_record (map binding_record p.bindings) (map availability_record p.availabilities ++ map entry_record p.entries)
    ∙ rw (map-append unmarked_record (map availability_record p.availabilities) (map entry_record p.entries), made binding_record unmarked.binding (λ x. refl) p.bindings, made availability_record unmarked.availability (λ x. refl) p.availabilities, made entry_record unmarked.entry (λ x. refl) p.entries)
  where
    made : {A : Type 0} (make : A → Record) (f : A → A) → ((a : A) → unmarked_record (make a) ≡ make (f a)) → (l : List A) → map unmarked_record (map make l) ≡ map make (map f l)
    made make f is [] = refl
    made make f is (x ∷ l) = ap₂ ◌∷◌ (is x) (made make f is l)

-- ---- the listing

count_line_no_newline : (n : ℕ) → lacks newline (count_line n) ≡ true
unfolding count_line
count_line_no_newline n = (decimal_plain n).no_newline

projection_lines_split : (p : Projection) → split newline (projection_lines p) ≡ count_line (record_count p) ∷ split newline (flat_map record_line (records p))
unfolding projection_lines fields count_line
projection_lines_split p =
    ap (λ (l : List ℕ). split newline (80 ∷ tab ∷ l)) (append_assoc (decimal (record_count p)) (newline ∷ []) _ ∙ ap (λ (l : List ℕ). decimal (record_count p) ++ (newline ∷ l)) (sym (lines_of_records p)))
    ∙ split_part newline (count_line (record_count p)) (flat_map record_line (records p)) (count_line_no_newline (record_count p))

under_count_records : (p : Projection) → under_count (count_line (record_count p)) (map unmarked_record (records p)) ≡ some (without_marks p)
unfolding under_count
under_count_records p = rw (length-map (records p) unmarked_record, records_length p, equal_lists_refl (count_line (record_count p)), records_unmarked p, projection_of_records (without_marks p))

-- A projection whose records fit is recovered from its listing, whatever their order, but for the marks, which no line shows.
pub projection_back : (p : Projection) → All FitsBinding p.bindings → All FitsNodeAvailability p.availabilities → All FitsEntry p.entries
    → read_listing (projection_lines p) ≡ some (without_marks p)
unfolding read_listing read_listing_lines read_records bind
projection_back p b a e =
    ap read_listing_lines (projection_lines_split p)
    ∙ ap (λ (o : Option (List Record)). bind o (under_count (count_line (record_count p)))) (records_back (records p) (records_fit p b a e))
    ∙ under_count_records p

pub listing_back : (p : Projection) → Valid p → read_listing (projection_lines p) ≡ some (without_marks p)
listing_back p v = projection_back p v.fit_bindings v.fit_availabilities v.fit_entries

-- Two projections that differ in more than marks never print alike.
pub listing_injective : (p q : Projection) → Valid p → Valid q → projection_lines p ≡ projection_lines q → without_marks p ≡ without_marks q
listing_injective p q v w e = some-injective (without_marks p) (without_marks q) (sym (listing_back p v) ∙ ap read_listing e ∙ listing_back q w)

-- a refusal is never printed as a projection is
pub refusal_differs : (p : Projection) (n : ℕ) → projection_lines p ≡ refusal_line n → ⊥
unfolding projection_lines refusal_line
refusal_differs p n e = let letters = head-eq_of_cons-eq e in omega arith
