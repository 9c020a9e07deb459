-- What the calls that read a lent session answer, for any slices whatever and for those that hold a session. A call is lent the slices that it
-- reads, and no others.
use Rattle.std.specs.Prelude.{Option, Some, None, Result}
use Rattle.std.specs.Prelude.{ℕ, ◌/◌, ◌≡◌, Bool, true, false, List, length, if◌then◌else◌}
use Rattle.panel_print.specs.declared.PrintRefusal.{PrintRefusal}
use Rattle.spec_patch.specs.Sizes.{projection_entries}
use Rattle.spec_projection.specs.Lookups.{binding_of, binding_mark, availability_of, availability_mark, entry_of, entry_mark, entry_at, entry_count}
use Rattle.spec_session.specs.Session.{Session}
use Rattle.spec_listing.specs.Listing.{projection_lines}
use Rattle.spec_panel_print.specs.Print.{collection_print}
use Rattle.spec_page.specs.Page.{page_refusal, table_left}
use Rattle.bytes_wire.specs.Write.{overwrite}
use Rattle.panel_rows.specs.Rows.{length_bytes}
use Rattle.panel_rows.specs.Lookup.{value_lookup, availability_lookup}
use Rattle.panel_rows.specs.declared.values.ValueLookup.{ValueLookup}
use Rattle.panel_lookups.specs.Nth.{entry_lookup}
use Rattle.panel_lookups.specs.declared.positions.EntryLookup.{EntryLookup}
use Rattle.panel_print.specs.Answers.{print_answer, OthersKept}
use Rattle.panel_page.specs.PageTable as page
use Rattle.panel_page.specs.PageTable.{page_width, page_bytes, page_answer}
use Rattle.listing_panel.specs.Written.{Writes, KeptLines}
use Rattle.session_lent.specs.Head.{counts_at}
use Rattle.session_lent.specs.LentSession.{LentSession, half_shaped, table_shaped, bindings_shaped, availabilities_shaped, entries_shaped}
use Rattle.panel_rows.specs.declared.values.AvailabilityLookup.{AvailabilityLookup}
use Rattle.patch_part_writer.specs.declared.written.WriteRefusal.{WriteRefusal}
use Rattle.panel_page.specs.declared.PageRefusal.{PageRefusal}

-- ---- slices that hold a session, told by those that a call is lent

pub record HoldsTables (head bindings availability entries : List ℕ) (m : Session) : Type 0 where
  pub nodes : List ℕ
  pub pairs : List ℕ
  pub collections : List ℕ
  pub lengths : List ℕ
  pub held : LentSession head nodes pairs collections bindings availability entries lengths m

pub record HoldsBindings (head bindings : List ℕ) (m : Session) : Type 0 where
  pub availability : List ℕ
  pub entries : List ℕ
  pub tables : HoldsTables head bindings availability entries m

pub record HoldsAvailabilities (head availability : List ℕ) (m : Session) : Type 0 where
  pub bindings : List ℕ
  pub entries : List ℕ
  pub tables : HoldsTables head bindings availability entries m

pub record HoldsEntries (head entries : List ℕ) (m : Session) : Type 0 where
  pub bindings : List ℕ
  pub availability : List ℕ
  pub tables : HoldsTables head bindings availability entries m

pub record HoldsLengths (head lengths : List ℕ) (m : Session) : Type 0 where
  pub nodes : List ℕ
  pub pairs : List ℕ
  pub collections : List ℕ
  pub bindings : List ℕ
  pub availability : List ℕ
  pub entries : List ℕ
  pub held : LentSession head nodes pairs collections bindings availability entries lengths m

-- a head, and the table of its collections' lengths: the count of entries is not over its capacity
abbrev pub lengths_shaped : List ℕ → ℕ → Bool
lengths_shaped head table = table_shaped head (counts_at head).entries table length_bytes projection_entries

-- ---- look-ups

-- how many rows are used, where head and table have a session's shape
unfoldable pub table_rows : Bool → ℕ → Option ℕ
table_rows shaped n = if shaped then Some n else None

-- of another shape none, and else some answer; for every session that is held what is told of it
pub record Viewed {B : Type 0} (shaped : Bool) (Held : Session → Type 0) (told : Session → B) (r : Option B) : Type 0 where
  pub refused : shaped ≡ false → r ≡ None
  pub answered : shaped ≡ true → (x : B) × (r ≡ Some x)
  pub held : (m : Session) → Held m → r ≡ Some (told m)

-- what each look-up answers

abbrev pub BindingView : (head bindings : List ℕ) (node slot : ℕ) → Option ValueLookup → Type 0
BindingView head bindings node slot r =
    Viewed (bindings_shaped head (length bindings)) (HoldsBindings head bindings) (λ (m : Session). value_lookup (binding_mark m.projection node slot) (binding_of m.projection node slot)) r

abbrev pub AvailabilityView : (head availability : List ℕ) (node : ℕ) → Option AvailabilityLookup → Type 0
AvailabilityView head availability node r =
    Viewed (availabilities_shaped head (length availability)) (HoldsAvailabilities head availability) (λ (m : Session). availability_lookup (availability_mark m.projection node) (availability_of m.projection node)) r

abbrev pub EntryView : (head entries : List ℕ) (collection key : ℕ) → Option ValueLookup → Type 0
EntryView head entries collection key r =
    Viewed (entries_shaped head (length entries)) (HoldsEntries head entries) (λ (m : Session). value_lookup (entry_mark m.projection collection key) (entry_of m.projection collection key)) r

abbrev pub CountView : (head entries : List ℕ) (collection : ℕ) → Option ℕ → Type 0
CountView head entries collection r =
    Viewed (entries_shaped head (length entries)) (HoldsEntries head entries) (λ (m : Session). entry_count m.projection collection) r

abbrev pub PlaceView : (head entries : List ℕ) (collection position : ℕ) → Option EntryLookup → Type 0
PlaceView head entries collection position r =
    Viewed (entries_shaped head (length entries)) (HoldsEntries head entries) (λ (m : Session). entry_lookup (entry_at m.projection collection position)) r

abbrev pub LengthView : (head lengths : List ℕ) (collection : ℕ) → Option ℕ → Type 0
LengthView head lengths collection r =
    Viewed (lengths_shaped head (length lengths)) (HoldsLengths head lengths) (λ (m : Session). entry_count m.projection collection) r

-- ---- what is written into a lent slice: before, the answer, and afterwards

-- of another shape nothing is written; else an answer and bytes, which are told of every session that is held
pub record ViewWritten {B : Type 0} (shaped : Bool) (Held : Session → Type 0) (Left : B → Type 0) (Told : Session → B → Type 0) (out : List ℕ) (r : Option B) (out' : List ℕ) : Type 0 where
  pub refused : shaped ≡ false → (r ≡ None) × (out' ≡ out)
  pub answered : shaped ≡ true → (x : B) × ((r ≡ Some x) × Left x)
  pub held : (m : Session) → Held m → (x : B) × ((r ≡ Some x) × Told m x)

-- the listing of the session's projection, whole or 14
abbrev pub ListingCall : (head bindings availability entries out : List ℕ) → Option (Result ℕ WriteRefusal) → List ℕ → Type 0
ListingCall head bindings availability entries out r out' =
    ViewWritten (half_shaped head (length bindings) (length availability) (length entries)) (HoldsTables head bindings availability entries) (KeptLines out out') (λ m w. Writes out (projection_lines m.projection) out' w) out r out'

-- the print of a collection, whole or 14
abbrev pub PrintCall : (head entries : List ℕ) (collection : ℕ) (out : List ℕ) → Option (Result ℕ PrintRefusal) → List ℕ → Type 0
PrintCall head entries collection out r out' =
    ViewWritten (entries_shaped head (length entries)) (HoldsEntries head entries) (OthersKept out out')
    (λ m w. (w ≡ print_answer out (collection_print m.projection collection)) × (out' ≡ overwrite out 0 (collection_print m.projection collection))) out r out'

-- a page of keys: a row for each, or 16 or 14
abbrev pub PageCall : (head entries : List ℕ) (collection : ℕ) (keys out : List ℕ) → Option (Result ℕ PageRefusal) → List ℕ → Type 0
PageCall head entries collection keys out r out' =
    ViewWritten (entries_shaped head (length entries)) (HoldsEntries head entries) (λ w. (w ≡ page_answer (length keys) (page_refusal (length keys) (length out / page_width))) × page.OtherPlacesKept out out' w)
    (λ m w. (w ≡ page_answer (length keys) (page_refusal (length keys) (length out / page_width))) × (out' ≡ table_left (page_refusal (length keys) (length out / page_width)) (page_bytes m.projection collection keys) out)) out r out'
