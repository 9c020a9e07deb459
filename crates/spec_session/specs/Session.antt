-- A session and its creation: 01, 'Lifecycle' and 'Rejections'.
use Rattle.std.specs.Prelude.{ℕ, Bool, ◌&&◌, List, leb, length, if◌then◌else◌}
use Rattle.spec_patch.specs.Sizes.{anchors}
use Rattle.spec_projection.specs.Projection.{Projection, empty}

pub data Lifecycle : Type 0 where
  created active suspended closed : Lifecycle

-- the sequence number of the last batch that was applied
pub data Cursor : Type 0 where
  uninitialized : Cursor
  at : ℕ → Cursor

-- limits of one transition; the limit of diagnostics is 01's cap
pub record Limits : Type 0 where
  pub stimulus_bytes : ℕ
  pub diagnostics : ℕ
  pub patches : ℕ
  pub references : ℕ

pub record BindingPair : Type 0 where
  pub node : ℕ
  pub slot : ℕ

-- the anchors that a session was created with
pub record Catalogue : Type 0 where
  pub nodes : List ℕ
  pub bindings : List BindingPair
  pub collections : List ℕ

pub record Session : Type 0 where
  pub id : ℕ
  pub limits : Limits
  pub catalogue : Catalogue
  pub lifecycle : Lifecycle
  pub cursor : Cursor
  pub projection : Projection

-- a new session is Created and Uninitialized, and its projection is empty
unfoldable pub new_session : ℕ → Limits → Catalogue → Session
new_session i l c = record { id = i; limits = l; catalogue = c; lifecycle = created; cursor = uninitialized; projection = empty }

-- why there is no session
pub data CreationRefusal : Type 0 where
  too_many_anchors : CreationRefusal

-- 01's number of the refusal at creation
abbrev pub creation_number : CreationRefusal → ℕ
creation_number too_many_anchors = 13

pub data Creation : Type 0 where
  made : Session → Creation
  refused : CreationRefusal → Creation

-- no anchor list is over 128
unfoldable pub anchors_fit : Catalogue → Bool
anchors_fit c = leb (length c.nodes) anchors && (leb (length c.bindings) anchors && leb (length c.collections) anchors)

-- an anchor list over 128 yields no session
unfoldable pub create : ℕ → Limits → Catalogue → Creation
create i l c = if anchors_fit c then made (new_session i l c) else refused too_many_anchors
