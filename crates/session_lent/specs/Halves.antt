-- The slices of a lent session as one record for the anchors and one for a half.
use Rattle.std.specs.Prelude.{ℕ, List}
use Rattle.spec_session.specs.Session.{Session}
use Rattle.session_lent.specs.LentSession.{LentSession, LentRoom}

-- the anchors, as they are lent at each call
pub record Anchors : Type 0 where
  pub nodes : List ℕ
  pub pairs : List ℕ
  pub collections : List ℕ

-- a head and tables
pub record Half : Type 0 where
  pub head : List ℕ
  pub bindings : List ℕ
  pub availability : List ℕ
  pub entries : List ℕ
  pub lengths : List ℕ

-- these slices, as a record
abbrev pub anchors_with : (nodes pairs collections : List ℕ) → Anchors
anchors_with nodes pairs collections = record { nodes = nodes; pairs = pairs; collections = collections }

abbrev pub half_with : (head bindings availability entries lengths : List ℕ) → Half
half_with head bindings availability entries lengths = record { head = head; bindings = bindings; availability = availability; entries = entries; lengths = lengths }

-- the half with these anchors holds the session
abbrev pub HeldIn : Anchors → Half → Session → Type 0
HeldIn k h m = LentSession h.head k.nodes k.pairs k.collections h.bindings h.availability h.entries h.lengths m

-- a batch can write to the half
abbrev pub RoomIn : Half → Type 0
RoomIn h = LentRoom h.head h.bindings h.availability h.entries h.lengths
