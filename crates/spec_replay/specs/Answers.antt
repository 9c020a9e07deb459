-- What each call of a replay prints, as bytes: a letter, then fields with a tab before each, and the newline.
use Rattle.std.specs.Prelude.{ℕ, zero, suc, ◌+◌, leb, length, get_or, take, drop, if◌then◌else◌}
use mathlib.Core.List.{List, [], ◌∷◌, ◌++◌, flat_map}
use Rattle.std.proofs.Math.Option.{Option, none, some}
use Rattle.spec_patch.specs.Patch.{Value, Availability}
use Rattle.spec_patch.specs.Encode.{availability_byte}
use Rattle.spec_patch.specs.Reader.{fault_number}
use Rattle.spec_patch.specs.Read.{SetReading, patches, fault}
use Rattle.spec_checks.specs.Finding.{Finding}
use Rattle.spec_checks.specs.Findings.{Place, in_patch, in_set, Findings, findings}
use Rattle.spec_session.specs.Session.{Lifecycle, created, active, suspended, closed, Cursor, uninitialized, at, Creation, made, refused, creation_number}
use Rattle.spec_session.specs.Diagnostics.{Diagnostics}
use Rattle.spec_session.specs.Lifecycle.{Disposition, applied, no_change, rejected, LifecycleAnswer}
use Rattle.spec_session.specs.Batch.{BatchAnswer}
use Rattle.spec_conversion.specs.Conversion as conversions
use Rattle.spec_conversion.specs.Conversion.{Converted, converted, conversion_number}
use Rattle.spec_turns.specs.Turns as turns
use Rattle.spec_turns.specs.Turns.{SetUp, set_up_number, RegisterAnswer, registered, register_refused, register_number, TurnAnswer, nobody, turn_of}
use Rattle.spec_dependencies.specs.Dependencies.{CollectionKey}
use Rattle.spec_dependencies.specs.Answer as dependencies
use Rattle.spec_dependencies.specs.Answer.{DependencyAnswer, answer_never, answer_needs, refusal_number, Answered}
use Rattle.spec_import.specs.Import as imports
use Rattle.spec_import.specs.Import.{Imported, imported, import_number}
use Rattle.spec_page.specs.Page.{PageEntry, PageRefusal, page_number, Page}
use Rattle.spec_group.specs.Group.{GroupAnswer, not_a_group, taken, refused_at, group_number}
use Rattle.spec_decimal.specs.Decimal.{decimal}
use Rattle.spec_listing.specs.Listing.{fields, value_fields}
use Rattle.spec_replay.specs.Hex.{hex_field}
use Rattle.spec_replay.specs.Script.{ascii}

-- ---- fields

-- the character - for none
abbrev pub dash : List ℕ
dash = ascii "-"

unfoldable pub disposition_field : Disposition → List ℕ
disposition_field applied = ascii "applied"
disposition_field no_change = ascii "no-change"
disposition_field rejected = ascii "rejected"

unfoldable pub lifecycle_field : Lifecycle → List ℕ
lifecycle_field created = ascii "created"
lifecycle_field active = ascii "active"
lifecycle_field suspended = ascii "suspended"
lifecycle_field closed = ascii "closed"

-- - while Uninitialized
unfoldable pub cursor_field : Cursor → List ℕ
cursor_field uninitialized = dash
cursor_field (at n) = decimal n

-- the patch's index, or the word set
unfoldable pub place_field : Place → List ℕ
place_field (in_patch i) = decimal i
place_field in_set = ascii "set"

-- disposition, code, stage, logical, emitted, and further fields
unfoldable pub session_fields : Disposition → Diagnostics → List (List ℕ) → List (List ℕ)
session_fields d g more = disposition_field d ∷ decimal g.code ∷ decimal g.stage ∷ decimal g.logical ∷ decimal g.emitted ∷ more

-- ---- lines

-- create: S and 0, or S and 13
unfoldable pub creation_line : Creation → List ℕ
creation_line (made s) = 83 ∷ fields (decimal 0 ∷ [])
creation_line (refused r) = 83 ∷ fields (decimal (creation_number r) ∷ [])

-- apply: L, disposition, code, stage, logical, emitted, lifecycle, cursor, bytes
unfoldable pub lifecycle_line : LifecycleAnswer → List ℕ
lifecycle_line a =
    76 ∷ fields (session_fields a.disposition a.diagnostics (lifecycle_field a.state.lifecycle ∷ cursor_field a.state.cursor ∷ decimal a.stimulus_bytes ∷ []))

-- batch: R, disposition, code, stage, logical, emitted, cursor
unfoldable pub batch_line : BatchAnswer → List ℕ
batch_line a = 82 ∷ fields (session_fields a.disposition a.diagnostics (cursor_field a.cursor ∷ []))

-- F, kind, domain, secondary
unfoldable pub finding_line : Finding → List ℕ
finding_line f = 70 ∷ fields (decimal f.kind ∷ decimal f.domain ∷ decimal f.secondary ∷ [])

-- K, 0, the place, the logical count
unfoldable pub checked_line : Findings → List ℕ
checked_line f = 75 ∷ fields (decimal 0 ∷ place_field f.place ∷ decimal (length f.found) ∷ [])

-- K and 10 or 12; else the line above, and a line for each record
unfoldable pub check_lines : SetReading → List ℕ
check_lines (fault f) = 75 ∷ fields (decimal (fault_number f) ∷ [])
check_lines (patches ps) = checked_line (findings ps) ++ flat_map finding_line (findings ps).found

-- value binding, value entry: V, kind, value, or V and -
unfoldable pub value_line : Option Value → List ℕ
value_line none = 86 ∷ fields (dash ∷ [])
value_line (some v) = 86 ∷ fields (value_fields v)

-- value node: V, A, the byte, or V and -
unfoldable pub availability_answer_line : Option Availability → List ℕ
availability_answer_line none = 86 ∷ fields (dash ∷ [])
availability_answer_line (some a) = 86 ∷ fields ((65 ∷ []) ∷ decimal (availability_byte a) ∷ [])

-- senders: J and 0, or J and 21
unfoldable pub set_up_line : SetUp → List ℕ
set_up_line (turns.made t) = 74 ∷ fields (decimal 0 ∷ [])
set_up_line (turns.refused r) = 74 ∷ fields (decimal (set_up_number r) ∷ [])

-- wait: J and 0, or J and 19 or 20
unfoldable pub register_line : RegisterAnswer → List ℕ
register_line registered = 74 ∷ fields (decimal 0 ∷ [])
register_line (register_refused r) = 74 ∷ fields (decimal (register_number r) ∷ [])

-- turn: J, the sender, the number for its batch, or J and the word none
unfoldable pub turn_line : TurnAnswer → List ℕ
turn_line nobody = 74 ∷ fields (ascii "none" ∷ [])
turn_line (turn_of s n) = 74 ∷ fields (decimal s ∷ decimal n ∷ [])

-- convert: T, 0 and the set in hex, or T and the number
unfoldable pub conversion_line : Converted → List ℕ
conversion_line (converted bs) = 84 ∷ fields (decimal 0 ∷ hex_field bs ∷ [])
conversion_line (conversions.refused r) = 84 ∷ fields (decimal (conversion_number r) ∷ [])

-- mark: X and the patch's id, or X and -
unfoldable pub mark_line : Option ℕ → List ℕ
mark_line none = 88 ∷ fields (dash ∷ [])
mark_line (some id) = 88 ∷ fields (decimal id ∷ [])

-- Q, collection, key
unfoldable pub key_line : CollectionKey → List ℕ
key_line k = 81 ∷ fields (decimal k.collection ∷ decimal k.key ∷ [])

-- so many records from the start of a list of numbers, two to a record
unfoldable pub first_keys : ℕ → List ℕ → List CollectionKey
first_keys zero words = []
first_keys (suc n) words = record { collection = get_or words 0 0; key = get_or words 1 0 } ∷ first_keys n (drop 2 words)

-- depends: D and the number; D, 0, never, patch, operation; or D, 0, needs, how many must be there and how many absent, and a line for each record written
unfoldable pub verdict_lines : DependencyAnswer → (written : List ℕ) → List ℕ
verdict_lines (dependencies.refused r) words = 68 ∷ fields (decimal (refusal_number r) ∷ [])
verdict_lines (answer_never i j) words = 68 ∷ fields (decimal 0 ∷ ascii "never" ∷ decimal i ∷ decimal j ∷ [])
verdict_lines (answer_needs held lacked) words = (68 ∷ fields (decimal 0 ∷ ascii "needs" ∷ decimal held ∷ decimal lacked ∷ [])) ++ flat_map key_line (first_keys (held + lacked) words)

unfoldable pub dependency_lines : Answered → List ℕ
dependency_lines a = verdict_lines a.answer a.output

-- print: O, 0 and the number of bytes, and behind the newline these bytes as they are; or O and 14, where the room is too short for them
unfoldable pub print_lines : (room : ℕ) → (print : List ℕ) → List ℕ
print_lines room print = if leb (length print) room then (79 ∷ fields (decimal 0 ∷ decimal (length print) ∷ [])) ++ print else 79 ∷ fields (decimal 14 ∷ [])

-- group: U and 17; U, 0, how many were taken, the cursor; or U, 0, 0, the place of the first refused batch, and its answer as a line of its own
unfoldable pub group_lines : GroupAnswer → List ℕ
group_lines not_a_group = 85 ∷ fields (decimal group_number ∷ [])
group_lines (taken n c) = 85 ∷ fields (decimal 0 ∷ decimal n ∷ cursor_field c ∷ [])
group_lines (refused_at i a) = (85 ∷ fields (decimal 0 ∷ decimal 0 ∷ decimal i ∷ [])) ++ batch_line a

-- length: Z and how many entries the collection has
unfoldable pub length_line : ℕ → List ℕ
length_line n = 90 ∷ fields (decimal n ∷ [])

-- M, position, kind, value, or M and -
unfoldable pub row_line : Option PageEntry → List ℕ
row_line none = 77 ∷ fields (dash ∷ [])
row_line (some e) = 77 ∷ fields (decimal e.position ∷ value_fields e.value)

unfoldable pub answered_lines : (keys : ℕ) → Option PageRefusal → List (Option PageEntry) → List ℕ
answered_lines n (some r) places = 89 ∷ fields (decimal (page_number r) ∷ [])
answered_lines n none places = (89 ∷ fields (decimal 0 ∷ decimal n ∷ [])) ++ flat_map row_line (take n places)

-- page: Y and 16 or 14; or Y, 0, the number of keys, and a line for the place of each
unfoldable pub page_lines : (keys : ℕ) → Page → List ℕ
page_lines n p = answered_lines n p.refusal p.places

-- import: I, 0 and the set in hex, or I and the number
unfoldable pub import_line : Imported → List ℕ
import_line (imported bs) = 73 ∷ fields (decimal 0 ∷ hex_field bs ∷ [])
import_line (imports.refused r) = 73 ∷ fields (decimal (import_number r) ∷ [])

-- N: there is no session, or there are no senders
unfoldable pub no_session_line : List ℕ
no_session_line = 78 ∷ fields []

-- any other line: ? and its number
unfoldable pub other_line : ℕ → List ℕ
other_line n = 63 ∷ fields (decimal n ∷ [])
