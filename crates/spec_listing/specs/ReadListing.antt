-- A listing read back: 02, Job 2. Its lines stand between the newlines, and the fields of a line between the tabs. No line shows a mark, so
-- a record is read without it: 02, Job 11.
use Rattle.std.specs.Prelude.{ℕ, List, [], ◌∷◌, ◌++◌, map, eqb, length, if◌then◌else◌}
use Rattle.std.proofs.Math.Option
use Rattle.std.proofs.Math.Option.{Option, none, some, bind}
use Rattle.spec_lists.specs.Lists.{is_empty, equal_lists}
use Rattle.spec_patch.specs.Patch.{Value, quad, signed, text, unsigned, score}
use Rattle.spec_patch.specs.Reader.{Reader, Result, read, refused}
use Rattle.spec_patch.specs.Read.{quad_after, availability_after}
use Rattle.spec_projection.specs.Projection.{Binding, NodeAvailability, Entry, Projection, empty}
use Rattle.spec_projection.specs.Marks.{unmarked}
use Rattle.spec_projection.specs.Valid.{FitsBinding, FitsNodeAvailability, FitsEntry}
use Rattle.spec_decimal.specs.Decimal.{decimal, read_decimal, read_signed_decimal}
use Rattle.spec_listing.specs.Escapes.{tab, newline, unescaped}
use Rattle.spec_listing.specs.Split.{split, cons}
use Rattle.spec_listing.specs.Listing.{binding_line, availability_line, entry_line}

-- ---- the records of a projection

pub data Record : Type 0 where
  binding_record : Binding → Record
  availability_record : NodeAvailability → Record
  entry_record : Entry → Record

unfoldable pub record_line : Record → List ℕ
record_line (binding_record b) = binding_line b
record_line (availability_record a) = availability_line a
record_line (entry_record e) = entry_line e

-- the record without its mark
unfoldable pub unmarked_record : Record → Record
unmarked_record (binding_record b) = binding_record (unmarked.binding b)
unmarked_record (availability_record a) = availability_record (unmarked.availability a)
unmarked_record (entry_record e) = entry_record (unmarked.entry e)

-- a record that a valid projection may hold
unfoldable pub FitsRecord : Record → Type 0
FitsRecord (binding_record b) = FitsBinding b
FitsRecord (availability_record a) = FitsNodeAvailability a
FitsRecord (entry_record e) = FitsEntry e

-- the records in the order of their lines
unfoldable pub records : Projection → List Record
records p = map binding_record p.bindings ++ (map availability_record p.availabilities ++ map entry_record p.entries)

-- ---- the fields of a line, one after the other

-- what the fields that are left say, if they are all there and no more
abbrev pub FromFields : Type 0 → Type 0
FromFields A = List (List ℕ) → Option A

-- a field that is read so, and what follows with its value
unfoldable pub read_field : {A B : Type 0} → (List ℕ → Option A) → (A → FromFields B) → FromFields B
read_field one next [] = none
read_field one next (f ∷ fs) = bind (one f) (λ a. next a fs)

infixl 10 ◌>>=◌
abbrev pub ◌>>=◌ : {A B : Type 0} → (List ℕ → Option A) → (A → FromFields B) → FromFields B
one >>= next = read_field one next

-- no field is left
unfoldable pub no_more : {A : Type 0} → A → FromFields A
no_more a [] = some a
no_more a (f ∷ fs) = none

-- ---- one field

-- the only element, as the letter of a kind
unfoldable pub alone : {A : Type 0} → List A → Option A
alone [] = none
alone (a ∷ []) = some a
alone (a ∷ b ∷ l) = none

-- what was read, if it was
unfoldable pub was_read : {A : Type 0} → Result A → Option A
was_read (read a rest) = some a
was_read (refused fault) = none

-- the decimal of a byte, which stands for what it does in a set
unfoldable pub read_byte_field : {A : Type 0} → (ℕ → Reader A) → List ℕ → Option A
read_byte_field meaning f = bind (read_decimal f) (λ n. was_read (meaning n []))

-- a value of the kind Q, S, T, U or M
unfoldable pub read_value_field : ℕ → List ℕ → Option Value
read_value_field kind f =
    if eqb kind 81 then Option.map quad (read_byte_field quad_after f) else
    if eqb kind 83 then Option.map signed (read_signed_decimal f) else
    if eqb kind 84 then Option.map text (unescaped f) else
    if eqb kind 85 then Option.map unsigned (read_decimal f) else
    if eqb kind 77 then Option.map score (read_decimal f) else
    none

-- ---- a line

-- node, slot, kind, value
unfoldable pub read_binding : FromFields Record
read_binding = do
  n ← read_decimal
  s ← read_decimal
  kind ← alone
  v ← read_value_field kind
  no_more (binding_record (record { node = n; slot = s; mark = 0; value = v }))

-- node, availability byte
unfoldable pub read_node_availability : FromFields Record
read_node_availability = do
  n ← read_decimal
  a ← read_byte_field availability_after
  no_more (availability_record (record { node = n; mark = 0; availability = a }))

-- collection, key, kind, value
unfoldable pub read_entry : FromFields Record
read_entry = do
  c ← read_decimal
  k ← read_decimal
  kind ← alone
  v ← read_value_field kind
  no_more (entry_record (record { collection = c; key = k; mark = 0; value = v }))

-- the fields behind B, A or C
unfoldable pub read_behind : ℕ → FromFields Record
read_behind letter fs =
    if eqb letter 66 then read_binding fs else
    if eqb letter 65 then read_node_availability fs else
    if eqb letter 67 then read_entry fs else
    none

-- a line without its newline
unfoldable pub read_unended : List ℕ → Option Record
read_unended line = read_field alone read_behind (split tab line)

-- ---- lines with their newlines

-- the records of lines; behind the last newline there is nothing
unfoldable pub read_lines : List (List ℕ) → Option (List Record)
read_lines [] = none
read_lines ([] ∷ lines) = if is_empty lines then some [] else none
read_lines ((b ∷ bs) ∷ lines) = cons (read_unended (b ∷ bs)) (read_lines lines)

unfoldable pub read_records : List ℕ → Option (List Record)
read_records lines = read_lines (split newline lines)

-- the record of one line
unfoldable pub read_record : List ℕ → Option Record
read_record line = bind (read_records line) alone

-- ---- the listing of a projection

-- a record before those of its kind
unfoldable pub with_record : Record → Projection → Projection
with_record (binding_record b) p = record { bindings = b ∷ p.bindings; availabilities = p.availabilities; entries = p.entries }
with_record (availability_record a) p = record { bindings = p.bindings; availabilities = a ∷ p.availabilities; entries = p.entries }
with_record (entry_record e) p = record { bindings = p.bindings; availabilities = p.availabilities; entries = e ∷ p.entries }

-- the projection of these records
unfoldable pub projection_of : List Record → Projection
projection_of [] = empty
projection_of (r ∷ rs) = with_record r (projection_of rs)

-- P and the number of the records
unfoldable pub count_line : ℕ → List ℕ
count_line n = 80 ∷ tab ∷ decimal n

-- the first line has the number of the records
unfoldable pub under_count : List ℕ → List Record → Option Projection
under_count line rs = if equal_lists eqb line (count_line (length rs)) then some (projection_of rs) else none

unfoldable pub read_listing_lines : List (List ℕ) → Option Projection
read_listing_lines [] = none
read_listing_lines (line ∷ lines) = bind (read_lines lines) (under_count line)

unfoldable pub read_listing : List ℕ → Option Projection
read_listing lines = read_listing_lines (split newline lines)
