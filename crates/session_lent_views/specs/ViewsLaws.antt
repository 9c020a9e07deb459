-- Slices that hold a session have its shape and store its projection; and what a call answers, by whether the shape was right.
use Rattle.std.specs.Prelude.{Option, Some, None}
use Rattle.std.specs.Prelude.{ℕ, ◌≡◌, refl, Bool, true, false, ◌&&◌, List, leb, eqb, length}
use Rattle.std.proofs.Common.{sym, ap, subst, ◌∙◌, arith, eq-eqb}
use Rattle.std.proofs.lemmas.Bool.{false≢true}
use Rattle.spec_lists.proofs.ListLaws.{and_left, and_right}
use Rattle.spec_patch.specs.Sizes.{projection_bindings, projection_availabilities, projection_entries}
use Rattle.spec_projection.specs.Valid.{Valid}
use Rattle.spec_session.specs.Session.{Session}
use Rattle.spec_lengths.specs.Lengths.{collection_lengths}
use Rattle.panel_rows.specs.Rows.{binding_bytes, availability_bytes, entry_bytes, length_bytes, binding_width, availability_width, entry_width, binding_row, availability_row, entry_row}
use Rattle.local_projection_state.specs.Stores.{Stored, StoredTables, StoredLengths}
use Rattle.local_projection_state.specs.declared.ProjectionCounts.{ProjectionCounts}
use Rattle.panel_changes.specs.SetChanges.{tables_fit, change_counts_fit}
use Rattle.session_lent.specs.Head.{head_numbers, counts_at}
use Rattle.session_lent.specs.LentSession.{half_shaped, table_shaped, bindings_shaped, availabilities_shaped, entries_shaped}
use Rattle.session_lent.specs.BatchesLaws.{held_half, held_tables}
use Rattle.session_lent_views.specs.Views.{HoldsTables, HoldsBindings, HoldsAvailabilities, HoldsEntries, HoldsLengths, lengths_shaped, table_rows, Viewed, ViewWritten}

-- ---- slices that hold a session

-- its projection stands in the tables, with the counts of the head
pub tables_stored : {head b a e : List ℕ} {m : Session} → HoldsTables head b a e m → StoredTables (counts_at head) b a e m.projection
tables_stored {m = m} h = held_tables m h.held

pub tables_counted : {head b a e : List ℕ} {m : Session} (n : ProjectionCounts) → n ≡ counts_at head → HoldsTables head b a e m → StoredTables n b a e m.projection
tables_counted {b = b} {a = a} {e = e} {m = m} n is h = subst (λ (k : ProjectionCounts). StoredTables k b a e m.projection) (sym is) (tables_stored h)

pub bindings_held : {head b : List ℕ} {m : Session} (n : ℕ) → n ≡ (counts_at head).bindings → HoldsBindings head b m → Stored binding_row binding_width projection_bindings n b m.projection.bindings
bindings_held {b = b} {m = m} n is h = subst (λ (k : ℕ). Stored binding_row binding_width projection_bindings k b m.projection.bindings) (sym is) (tables_stored h.tables).bindings

pub availabilities_held : {head a : List ℕ} {m : Session} (n : ℕ) → n ≡ (counts_at head).availabilities → HoldsAvailabilities head a m → Stored availability_row availability_width projection_availabilities n a m.projection.availabilities
availabilities_held {a = a} {m = m} n is h = subst (λ (k : ℕ). Stored availability_row availability_width projection_availabilities k a m.projection.availabilities) (sym is) (tables_stored h.tables).availabilities

pub entries_held : {head e : List ℕ} {m : Session} (n : ℕ) → n ≡ (counts_at head).entries → HoldsEntries head e m → Stored entry_row entry_width projection_entries n e m.projection.entries
entries_held {e = e} {m = m} n is h = subst (λ (k : ℕ). Stored entry_row entry_width projection_entries k e m.projection.entries) (sym is) (tables_stored h.tables).entries

-- and they have its shape
pub tables_shaped : (head b a e : List ℕ) (m : Session) → HoldsTables head b a e m → half_shaped head (length b) (length a) (length e) ≡ true
tables_shaped head b a e m h = held_half head h.nodes h.pairs h.collections b a e h.lengths m h.held

all_three : {x y z : Bool} → x ≡ true → y ≡ true → z ≡ true → (x && (y && z)) ≡ true
all_three x y z = rw (x, y, z) refl

-- each table of a half has its shape
module _ (head : List ℕ) (b a e : ℕ) (h : half_shaped head b a e ≡ true) where
  long : eqb (length head) head_numbers ≡ true
  unfolding half_shaped
  long = and_left (eqb (length head) head_numbers) _ h

  fit : tables_fit b a e ≡ true
  unfolding half_shaped
  fit = and_left (tables_fit b a e) _ (and_right (eqb (length head) head_numbers) _ h)

  few : change_counts_fit (counts_at head) ≡ true
  unfolding half_shaped
  few = and_right (tables_fit b a e) _ (and_right (eqb (length head) head_numbers) _ h)

  half_bindings : bindings_shaped head b ≡ true
  unfolding table_shaped tables_fit change_counts_fit
  half_bindings = all_three long (and_left (eqb b binding_bytes) _ fit) (and_left (leb (counts_at head).bindings projection_bindings) _ few)

  half_availabilities : availabilities_shaped head a ≡ true
  unfolding table_shaped tables_fit change_counts_fit
  half_availabilities = all_three long (and_left (eqb a availability_bytes) _ (and_right (eqb b binding_bytes) _ fit)) (and_left (leb (counts_at head).availabilities projection_availabilities) _ (and_right (leb (counts_at head).bindings projection_bindings) _ few))

  half_entries : entries_shaped head e ≡ true
  unfolding table_shaped tables_fit change_counts_fit
  half_entries = all_three long (and_right (eqb a availability_bytes) _ (and_right (eqb b binding_bytes) _ fit)) (and_right (leb (counts_at head).availabilities projection_availabilities) _ (and_right (leb (counts_at head).bindings projection_bindings) _ few))

pub bindings_shaped_lem : (head b : List ℕ) (m : Session) → HoldsBindings head b m → bindings_shaped head (length b) ≡ true
bindings_shaped_lem head b m h = half_bindings head (length b) (length h.availability) (length h.entries) (tables_shaped head b h.availability h.entries m h.tables)

pub availabilities_shaped_lem : (head a : List ℕ) (m : Session) → HoldsAvailabilities head a m → availabilities_shaped head (length a) ≡ true
availabilities_shaped_lem head a m h = half_availabilities head (length h.bindings) (length a) (length h.entries) (tables_shaped head h.bindings a h.entries m h.tables)

pub entries_shaped_lem : (head e : List ℕ) (m : Session) → HoldsEntries head e m → entries_shaped head (length e) ≡ true
entries_shaped_lem head e m h = half_entries head (length h.bindings) (length h.availability) (length e) (tables_shaped head h.bindings h.availability e m h.tables)

lengths_held : {head l : List ℕ} {m : Session} (h : HoldsLengths head l m) → HoldsTables head h.bindings h.availability h.entries m
lengths_held {l = l} h = record { nodes = h.nodes; pairs = h.pairs; collections = h.collections; lengths = l; held = h.held }

-- the lengths are those of a projection that is stored, and so is valid
pub held_lengths : {head l : List ℕ} {m : Session} → HoldsLengths head l m → StoredLengths l (collection_lengths m.projection)
held_lengths h = h.held.collections_told

pub lengths_valid : {head l : List ℕ} {m : Session} → HoldsLengths head l m → Valid m.projection
lengths_valid h = (tables_stored (lengths_held h)).valid

pub lengths_shaped_lem : (head l : List ℕ) (m : Session) → HoldsLengths head l m → lengths_shaped head (length l) ≡ true
unfolding table_shaped
lengths_shaped_lem head l m h =
    let entries = entries_shaped_lem head h.entries m (record { bindings = h.bindings; availability = h.availability; tables = lengths_held h }) in
    let rest = and_right (eqb (length head) head_numbers) _ entries in
    all_three (and_left (eqb (length head) head_numbers) _ entries) (eq-eqb (length l) length_bytes (held_lengths h).size) (and_right (eqb (length h.entries) entry_bytes) _ rest)

-- ---- answers, by the shape

pub rows_none : (shaped : Bool) (n : ℕ) (r : Option ℕ) → r ≡ table_rows shaped n → r ≡ None → shaped ≡ false
unfolding table_rows
rows_none false n r is none = refl
rows_none true n r is none = cc

pub rows_some : (shaped : Bool) (n : ℕ) (r : Option ℕ) (k : ℕ) → r ≡ table_rows shaped n → r ≡ Some k → (shaped ≡ true) × (k ≡ n)
unfolding table_rows
rows_some true n r k is some = (refl, cc)
rows_some false n r k is some = cc

module _ {B : Type 0} {shaped : Bool} {Held : Session → Type 0} where
  pub viewed_refused : {told : Session → B} (r : Option B) → r ≡ None → shaped ≡ false → ((m : Session) → Held m → shaped ≡ true) → Viewed shaped Held told r
  viewed_refused r is wrong right = record {
    refused = λ no. is;
    answered = λ yes. absurd (false≢true (sym wrong ∙ yes));
    held = λ m h. absurd (false≢true (sym wrong ∙ right m h));
  }

  pub viewed_answered : {told : Session → B} (x : B) → shaped ≡ true → ((m : Session) → Held m → x ≡ told m) → Viewed shaped Held told (Some x)
  viewed_answered x right tells = record {
    refused = λ no. absurd (false≢true (sym no ∙ right));
    answered = λ yes. (x, refl);
    held = λ m h. ap Some (tells m h);
  }

  module _ {Left : B → Type 0} {Told : Session → B → Type 0} where
    pub written_refused : (out : List ℕ) (r : Option B) → r ≡ None → shaped ≡ false → ((m : Session) → Held m → shaped ≡ true) → ViewWritten shaped Held Left Told out r out
    written_refused out r is wrong right = record {
      refused = λ no. (is, refl);
      answered = λ yes. absurd (false≢true (sym wrong ∙ yes));
      held = λ m h. absurd (false≢true (sym wrong ∙ right m h));
    }

    pub written_answered : (out out' : List ℕ) (x : B) → shaped ≡ true → Left x → ((m : Session) → Held m → Told m x) → ViewWritten shaped Held Left Told out (Some x) out'
    written_answered out out' x right left tells = record {
      refused = λ no. absurd (false≢true (sym no ∙ right));
      answered = λ yes. (x, (refl, left));
      held = λ m h. (x, (refl, tells m h));
    }
