-- A record that fits is read back from its line, without its mark.
use Rattle.std.specs.Prelude.{ℕ, suc, ◌<◌, ◌≡◌, refl, true, ℤ, pos, negsuc}
use Rattle.std.proofs.Common.{sym, ap, ◌∙◌, arith, ne_eqb}
use mathlib.Core.List.{List, [], ◌∷◌, ◌++◌, append_assoc, append-nil, map, flat_map}
use Rattle.std.proofs.Math.Option.{Option, some, bind, some-injective}
use Rattle.spec_lists.specs.Lists.{All, all}
use Rattle.spec_lists.proofs.ListLaws.{and_left, and_right}
use Rattle.spec_patch.specs.Patch.{Quad, N, F, T, S, Availability, available, unavailable, hidden, pending, stale, Value, quad, signed, text, unsigned, score}
use Rattle.spec_patch.specs.Encode.{quad_byte, availability_byte}
use Rattle.spec_patch.specs.Fits.{U64, U32, Storable, StorableBy}
use Rattle.spec_patch.specs.Read.{quad_after, availability_after}
use Rattle.spec_projection.specs.Marks.{unmarked}
use Rattle.spec_decimal.specs.Decimal.{decimal, signed_decimal, digits, is_digit, read_decimal}
use Rattle.spec_decimal.proofs.DecimalLaws.{all_digits}
use Rattle.spec_decimal.proofs.DigitLaws.{is_digit_range}
use Rattle.spec_decimal.proofs.ReadLaws.{read_decimal_decimal}
use Rattle.spec_decimal.proofs.SignedLaws.{read_signed_decimal_signed_decimal}
use Rattle.spec_listing.specs.Escapes.{tab, newline, carriage_return, Plain}
use Rattle.spec_listing.proofs.EscapesLaws.{unescaped_escaped, plain_append, escaped_plain}
use Rattle.spec_listing.specs.Split.{split, lacks, cons}
use Rattle.spec_listing.proofs.SplitLaws.{lacks_append, split_whole, split_part}
use Rattle.spec_listing.specs.Listing.{fields, value_fields, binding_line, availability_line, entry_line}
use Rattle.spec_listing.specs.ReadListing.{Record, binding_record, availability_record, entry_record, record_line, unmarked_record, FitsRecord, FromFields, read_field, no_more, alone, was_read, read_byte_field, read_value_field, read_binding, read_node_availability, read_entry, read_behind, read_unended, read_lines, read_records, read_record}

-- ---- fields within a line

-- digits are none of the bytes below 48
pub digits_lack : (separator : ℕ) → separator < 48 → (l : List ℕ) → all is_digit l ≡ true → lacks separator l ≡ true
digits_lack separator h [] d = refl
digits_lack separator h (b ∷ l) d =
    let range = is_digit_range b (and_left (is_digit b) (all is_digit l) d) in
    let rest = digits_lack separator h l (and_right (is_digit b) (all is_digit l) d) in
    rw (ne_eqb b separator (λ e. omega arith), rest)

pub decimal_plain : (n : ℕ) → Plain (decimal n)
unfolding decimal
decimal_plain n =
    let lack : (separator : ℕ) → separator < 48 → lacks separator (digits 20 n) ≡ true = λ separator h. digits_lack separator h (digits 20 n) (all_digits 20 n) in
    record { no_tab = lack tab (omega arith); no_newline = lack newline (omega arith); no_return = lack carriage_return (omega arith) }

-- a byte above the three, alone
alone_plain : (b : ℕ) → 13 < b → Plain (b ∷ [])
alone_plain b h = record {
  no_tab = rw (ne_eqb b tab (λ e. omega arith));
  no_newline = rw (ne_eqb b newline (λ e. omega arith));
  no_return = rw (ne_eqb b carriage_return (λ e. omega arith));
}

signed_decimal_plain : (z : ℤ) → Plain (signed_decimal z)
unfolding signed_decimal
signed_decimal_plain (pos n) = decimal_plain n
signed_decimal_plain (negsuc n) = plain_append (45 ∷ []) (decimal (suc n)) (alone_plain 45 (omega arith)) (decimal_plain (suc n))

value_fields_plain : (v : Value) → All Plain (value_fields v)
unfolding value_fields
value_fields_plain (quad q) = (alone_plain 81 (omega arith), (decimal_plain (quad_byte q), tt))
value_fields_plain (signed z) = (alone_plain 83 (omega arith), (signed_decimal_plain z, tt))
value_fields_plain (text t) = (alone_plain 84 (omega arith), (escaped_plain t, tt))
value_fields_plain (unsigned x) = (alone_plain 85 (omega arith), (decimal_plain x, tt))
value_fields_plain (score n) = (alone_plain 77 (omega arith), (decimal_plain n, tt))

-- ---- a line and its fields

-- fields with a tab before each, without the newline
tabbed : List (List ℕ) → List ℕ
tabbed [] = []
tabbed (f ∷ fs) = tab ∷ f ++ tabbed fs

fields_tabbed : (fs : List (List ℕ)) (rest : List ℕ) → fields fs ++ rest ≡ tabbed fs ++ (newline ∷ rest)
unfolding fields tabbed
fields_tabbed [] rest = refl
fields_tabbed (f ∷ fs) rest =
    ap (λ (l : List ℕ). tab ∷ l) (append_assoc f (fields fs) rest ∙ ap (λ (l : List ℕ). f ++ l) (fields_tabbed fs rest) ∙ sym (append_assoc f (tabbed fs) (newline ∷ rest)))

tabbed_no_newline : (fs : List (List ℕ)) → All Plain fs → lacks newline (tabbed fs) ≡ true
unfolding tabbed
tabbed_no_newline [] h = refl
tabbed_no_newline (f ∷ fs) h = lacks_append newline f (tabbed fs) h.0.no_newline (tabbed_no_newline fs h.1)

split_tabbed : (f : List ℕ) (fs : List (List ℕ)) → lacks tab f ≡ true → All Plain fs → split tab (f ++ tabbed fs) ≡ f ∷ fs
unfolding tabbed
split_tabbed f [] h k = rw append-nil (split_whole tab f h)
split_tabbed f (g ∷ fs) h k = split_part tab f (g ++ tabbed fs) h ∙ ap (λ (l : List (List ℕ)). f ∷ l) (split_tabbed g fs k.0.no_tab k.1)

-- ---- a record

-- the letter of a line, and its fields
abbrev tag_of : Record → ℕ
tag_of (binding_record b) = 66
tag_of (availability_record a) = 65
tag_of (entry_record e) = 67

abbrev record_fields : Record → List (List ℕ)
record_fields (binding_record b) = decimal b.node ∷ decimal b.slot ∷ value_fields b.value
record_fields (availability_record a) = decimal a.node ∷ decimal (availability_byte a.availability) ∷ []
record_fields (entry_record e) = decimal e.collection ∷ decimal e.key ∷ value_fields e.value

-- a line without its newline
abbrev record_text : Record → List ℕ
record_text r = tag_of r ∷ tabbed (record_fields r)

fields_of_plain : (r : Record) → All Plain (record_fields r)
fields_of_plain (binding_record b) = (decimal_plain b.node, (decimal_plain b.slot, value_fields_plain b.value))
fields_of_plain (availability_record a) = (decimal_plain a.node, (decimal_plain (availability_byte a.availability), tt))
fields_of_plain (entry_record e) = (decimal_plain e.collection, (decimal_plain e.key, value_fields_plain e.value))

record_line_fields : (r : Record) → record_line r ≡ tag_of r ∷ fields (record_fields r)
unfolding record_line binding_line availability_line entry_line
record_line_fields (binding_record b) = refl
record_line_fields (availability_record a) = refl
record_line_fields (entry_record e) = refl

record_line_text : (r : Record) (rest : List ℕ) → record_line r ++ rest ≡ record_text r ++ (newline ∷ rest)
record_line_text r rest = ap (λ (l : List ℕ). l ++ rest) (record_line_fields r) ∙ ap (λ (l : List ℕ). tag_of r ∷ l) (fields_tabbed (record_fields r) rest)

tag_of_plain : (r : Record) → Plain (tag_of r ∷ [])
tag_of_plain (binding_record b) = alone_plain 66 (omega arith)
tag_of_plain (availability_record a) = alone_plain 65 (omega arith)
tag_of_plain (entry_record e) = alone_plain 67 (omega arith)

text_of_split : (r : Record) → split tab (record_text r) ≡ (tag_of r ∷ []) ∷ record_fields r
text_of_split r = split_tabbed (tag_of r ∷ []) (record_fields r) (tag_of_plain r).no_tab (fields_of_plain r)

text_of_no_newline : (r : Record) → lacks newline (record_text r) ≡ true
text_of_no_newline r = lacks_append newline (tag_of r ∷ []) (tabbed (record_fields r)) (tag_of_plain r).no_newline (tabbed_no_newline (record_fields r) (fields_of_plain r))

-- ---- a record read back

read_on : {A B : Type 0} (one : List ℕ → Option A) (next : A → FromFields B) (f : List ℕ) (fs : List (List ℕ)) (a : A) → one f ≡ some a → read_field one next (f ∷ fs) ≡ next a fs
unfolding read_field bind
read_on one next f fs a e = rw e

quad_field : (q : Quad) → read_byte_field quad_after (decimal (quad_byte q)) ≡ some q
unfolding read_byte_field bind was_read quad_after quad_byte
quad_field N = rw (read_decimal_decimal 0 (omega arith))
quad_field F = rw (read_decimal_decimal 1 (omega arith))
quad_field T = rw (read_decimal_decimal 2 (omega arith))
quad_field S = rw (read_decimal_decimal 3 (omega arith))

availability_field : (a : Availability) → read_byte_field availability_after (decimal (availability_byte a)) ≡ some a
unfolding read_byte_field bind was_read availability_after availability_byte
availability_field available = rw (read_decimal_decimal 0 (omega arith))
availability_field unavailable = rw (read_decimal_decimal 1 (omega arith))
availability_field hidden = rw (read_decimal_decimal 2 (omega arith))
availability_field pending = rw (read_decimal_decimal 3 (omega arith))
availability_field stale = rw (read_decimal_decimal 4 (omega arith))

-- the kind's letter and the value
value_fields_lem : {B : Type 0} (next : Value → FromFields B) (v : Value) → Storable v → read_field alone (λ kind. read_field (read_value_field kind) next) (value_fields v) ≡ next v []
unfolding read_field bind alone value_fields read_value_field StorableBy
value_fields_lem next (quad q) h = rw (quad_field q)
value_fields_lem next (signed z) h = rw (read_signed_decimal_signed_decimal z h)
value_fields_lem next (text t) h = rw (unescaped_escaped t)
value_fields_lem next (unsigned x) h = rw (read_decimal_decimal x h)
value_fields_lem next (score n) h = rw (read_decimal_decimal n (omega (arith, h)))

fields_back : (r : Record) → FitsRecord r → read_behind (tag_of r) (record_fields r) ≡ some (unmarked_record r)
unfolding read_behind read_binding read_node_availability read_entry no_more FitsRecord unmarked_record unmarked
fields_back (binding_record b) h =
    read_on read_decimal _ (decimal b.node) _ b.node (read_decimal_decimal b.node h.node)
    ∙ read_on read_decimal _ (decimal b.slot) _ b.slot (read_decimal_decimal b.slot (slot_u64 h.slot))
    ∙ value_fields_lem _ b.value h.value
  where
    slot_u64 : U32 b.slot → U64 b.slot
    slot_u64 k = omega arith
fields_back (availability_record a) h =
    read_on read_decimal _ (decimal a.node) _ a.node (read_decimal_decimal a.node h.node)
    ∙ read_on (read_byte_field availability_after) _ (decimal (availability_byte a.availability)) _ a.availability (availability_field a.availability)
fields_back (entry_record e) h =
    read_on read_decimal _ (decimal e.collection) _ e.collection (read_decimal_decimal e.collection h.collection)
    ∙ read_on read_decimal _ (decimal e.key) _ e.key (read_decimal_decimal e.key h.key)
    ∙ value_fields_lem _ e.value h.value

text_of_back : (r : Record) → FitsRecord r → read_unended (record_text r) ≡ some (unmarked_record r)
unfolding read_unended alone
text_of_back r h = ap (read_field alone read_behind) (text_of_split r) ∙ read_on alone read_behind (tag_of r ∷ []) (record_fields r) (tag_of r) refl ∙ fields_back r h

-- ---- lines

lines_text : (r : Record) → FitsRecord r → (lines : List (List ℕ)) → read_lines (record_text r ∷ lines) ≡ cons (some (unmarked_record r)) (read_lines lines)
unfolding read_lines
lines_text r h lines = ap (λ (o : Option Record). cons o (read_lines lines)) (text_of_back r h)

split_line : (r : Record) (rest : List ℕ) → split newline (record_line r ++ rest) ≡ record_text r ∷ split newline rest
split_line r rest = ap (split newline) (record_line_text r rest) ∙ split_part newline (record_text r) rest (text_of_no_newline r)

-- Records that fit are read back from their lines, one after the other, without their marks.
pub records_back : (rs : List Record) → All FitsRecord rs → read_records (flat_map record_line rs) ≡ some (map unmarked_record rs)
unfolding read_records read_lines split flat_map cons
records_back [] h = refl
records_back (r ∷ rs) h =
    ap read_lines (split_line r (flat_map record_line rs))
    ∙ lines_text r h.0 (split newline (flat_map record_line rs))
    ∙ ap (cons (some (unmarked_record r))) (records_back rs h.1)

-- A record that fits is read back from its line, without its mark.
pub record_back : (r : Record) → FitsRecord r → read_record (record_line r) ≡ some (unmarked_record r)
unfolding read_record bind alone flat_map
record_back r h =
    ap (λ (l : List ℕ). bind (read_records l) alone) (sym (append-nil (record_line r)))
    ∙ ap (λ (o : Option (List Record)). bind o alone) (records_back (r ∷ []) (h, tt))

-- two records that fit and have one line are equal without their marks
pub record_line_injective : (r s : Record) → FitsRecord r → FitsRecord s → record_line r ≡ record_line s → unmarked_record r ≡ unmarked_record s
record_line_injective r s h g e = some-injective (unmarked_record r) (unmarked_record s) (sym (record_back r h) ∙ ap read_record e ∙ record_back s g)
