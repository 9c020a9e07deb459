-- The invariant of a session: what holds of every session that creation and the session's calls can give. 01, 'Conditions of acceptance'.
use Rattle.std.specs.Prelude.{◌≤◌, length}
use Rattle.spec_lists.specs.Lists.{All}
use Rattle.spec_patch.specs.Sizes.{anchors}
use Rattle.spec_patch.specs.Fits.{U64, U32}
use Rattle.spec_projection.specs.Valid.{Valid}
use Rattle.spec_session.specs.Session.{Cursor, uninitialized, at, Limits, BindingPair, Catalogue, Session}

-- a cursor's number is a u64
abbrev pub CursorFits : Cursor → Type 0
CursorFits uninitialized = Unit {0}
CursorFits (at n) = U64 n

pub record LimitsFit (l : Limits) : Type 0 where
  pub stimulus_bytes : U64 l.stimulus_bytes
  pub diagnostics : U64 l.diagnostics
  pub patches : U64 l.patches
  pub references : U64 l.references

pub record PairFits (b : BindingPair) : Type 0 where
  pub node : U64 b.node
  pub slot : U32 b.slot

-- anchors' ids are u64, a slot is a u32
pub record AnchorsInRange (c : Catalogue) : Type 0 where
  pub nodes : All U64 c.nodes
  pub bindings : All PairFits c.bindings
  pub collections : All U64 c.collections

-- at most 128 anchors of each kind
pub record FewAnchors (c : Catalogue) : Type 0 where
  pub nodes : length c.nodes ≤ anchors
  pub bindings : length c.bindings ≤ anchors
  pub collections : length c.collections ≤ anchors

-- ids, limits and anchors that fit their fields; the projection in stored order, within its capacities
pub record ValidSession (s : Session) : Type 0 where
  pub id : U64 s.id
  pub limits : LimitsFit s.limits
  pub in_range : AnchorsInRange s.catalogue
  pub few : FewAnchors s.catalogue
  pub cursor : CursorFits s.cursor
  pub projection : Valid s.projection
