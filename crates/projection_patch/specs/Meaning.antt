-- What the types of this crate stand for in spec_patch. A text is told by its place: `…Of texts` takes the bytes of the slice `texts` that
-- is lent beside a value, and `…To end` places a text so that it ends at the position `end`.
use Rattle.std.specs.Prelude.{ℕ, ◌-◌, List, length, take, drop}
use Rattle.std.specs.Prelude as code
use Rattle.std.proofs.Math.Option.{Option, none, some}
use Rattle.spec_patch.specs.Patch as model
use Rattle.spec_patch.specs.Edition.{Edition, v1, v2}
use Rattle.projection_patch.specs.declared.contract_primitives.StaticNodeId.{StaticNodeId}
use Rattle.projection_patch.specs.declared.contract_primitives.CollectionKey.{CollectionKey}
use Rattle.projection_patch.specs.declared.contract_primitives.StaticSurfaceId.{StaticSurfaceId}
use Rattle.projection_patch.specs.declared.binding_graph.BindingTarget.{BindingTarget}
use Rattle.projection_patch.specs.declared.patch.ProjectionPatchEdition.{ProjectionPatchEdition}
use Rattle.projection_patch.specs.declared.patch.ProjectionPatchEdition.TheVariants.{V1, V2}
use Rattle.projection_patch.specs.declared.patch.ProjectionPatchEnvelope.{ProjectionPatchEnvelope}
use Rattle.projection_patch.specs.declared.patch.ProjectionQuadState.{ProjectionQuadState}
use Rattle.projection_patch.specs.declared.patch.ProjectionQuadState.TheVariants as quad
use Rattle.projection_patch.specs.declared.patch.ProjectionNodeAvailability.{ProjectionNodeAvailability}
use Rattle.projection_patch.specs.declared.patch.ProjectionNodeAvailability.TheVariants.{Available, Unavailable, Hidden, Pending, Stale}
use Rattle.projection_patch.specs.declared.patch.ProjectionPatchValue.{ProjectionPatchValue}
use Rattle.projection_patch.specs.declared.patch.ProjectionPatchValue.TheVariants.{Quad, SignedScalar, UnsignedScalar, Text, Score}
use Rattle.projection_patch.specs.declared.patch.ProjectionPatchOperation.{ProjectionPatchOperation}
use Rattle.projection_patch.specs.declared.patch.ProjectionPatchOperation.TheVariants.{SetBindingValue, SetNodeAvailability, CollectionInsert, CollectionUpdate, CollectionRemove, CollectionMove}

-- ---- from the model to the types

abbrev pub node_to : ℕ → StaticNodeId
node_to n = record { 0 = n }

abbrev pub key_to : ℕ → CollectionKey
key_to k = record { 0 = k }

abbrev pub target_to : ℕ → ℕ → BindingTarget
target_to n s = record { node = node_to n; slot = record { 0 = s } }

abbrev pub before_to : Option ℕ → code.Option CollectionKey
before_to none = code.None
before_to (some k) = code.Some (key_to k)

abbrev pub surface_to : Option ℕ → code.Option StaticSurfaceId
surface_to none = code.None
surface_to (some n) = code.Some (record { 0 = n })

abbrev pub quad_to : model.Quad → ProjectionQuadState
quad_to model.N = quad.N
quad_to model.F = quad.F
quad_to model.T = quad.T
quad_to model.S = quad.S

abbrev pub availability_to : model.Availability → ProjectionNodeAvailability
availability_to model.available = Available
availability_to model.unavailable = Unavailable
availability_to model.hidden = Hidden
availability_to model.pending = Pending
availability_to model.stale = Stale

-- a value whose text, if it is one, ends at a position
abbrev pub value_to : ℕ → model.Value → ProjectionPatchValue
value_to end (model.quad q) = Quad (quad_to q)
value_to end (model.signed z) = SignedScalar z
value_to end (model.text t) = Text (end - length t) (length t)
value_to end (model.unsigned n) = UnsignedScalar n
value_to end (model.score n) = Score n

abbrev pub operation_to : ℕ → model.Operation → ProjectionPatchOperation
operation_to end (model.set_binding n s v) = SetBindingValue (target_to n s) (value_to end v)
operation_to end (model.set_availability n a) = SetNodeAvailability (node_to n) (availability_to a)
operation_to end (model.insert c k b v) = CollectionInsert (node_to c) (key_to k) (before_to b) (value_to end v)
operation_to end (model.update c k v) = CollectionUpdate (node_to c) (key_to k) (value_to end v)
operation_to end (model.remove c k) = CollectionRemove (node_to c) (key_to k)
operation_to end (model.move c k b) = CollectionMove (node_to c) (key_to k) (before_to b)

abbrev pub envelope_to : model.Envelope → ProjectionPatchEnvelope
envelope_to e = record {
  patch_id = record { 0 = e.id };
  stream_id = record { 0 = e.stream };
  document_id = record { 0 = e.document };
  surface_id = surface_to e.surface;
  previous_projection_revision = record { 0 = e.previous };
  projection_revision = record { 0 = e.revision };
  epoch = record { 0 = e.epoch };
  sequence = record { 0 = e.sequence };
}

-- ---- from the types to the model

abbrev pub edition_of : ProjectionPatchEdition → Edition
edition_of V1 = v1
edition_of V2 = v2

abbrev pub before_of : code.Option CollectionKey → Option ℕ
before_of code.None = none
before_of (code.Some k) = some k.0

abbrev pub surface_of : code.Option StaticSurfaceId → Option ℕ
surface_of code.None = none
surface_of (code.Some s) = some s.0

abbrev pub quad_of : ProjectionQuadState → model.Quad
quad_of quad.N = model.N
quad_of quad.F = model.F
quad_of quad.T = model.T
quad_of quad.S = model.S

abbrev pub availability_value_of : ProjectionNodeAvailability → model.Availability
availability_value_of Available = model.available
availability_value_of Unavailable = model.unavailable
availability_value_of Hidden = model.hidden
availability_value_of Pending = model.pending
availability_value_of Stale = model.stale

-- a value whose text, if it is one, stands in the texts
abbrev pub value_of : List ℕ → ProjectionPatchValue → model.Value
value_of texts (Quad q) = model.quad (quad_of q)
value_of texts (SignedScalar z) = model.signed z
value_of texts (UnsignedScalar n) = model.unsigned n
value_of texts (Text start len) = model.text (take len (drop start texts))
value_of texts (Score n) = model.score n

abbrev pub operation_of : List ℕ → ProjectionPatchOperation → model.Operation
operation_of texts (SetBindingValue t v) = model.set_binding t.node.0 t.slot.0 (value_of texts v)
operation_of texts (SetNodeAvailability n a) = model.set_availability n.0 (availability_value_of a)
operation_of texts (CollectionInsert c k b v) = model.insert c.0 k.0 (before_of b) (value_of texts v)
operation_of texts (CollectionUpdate c k v) = model.update c.0 k.0 (value_of texts v)
operation_of texts (CollectionRemove c k) = model.remove c.0 k.0
operation_of texts (CollectionMove c k b) = model.move c.0 k.0 (before_of b)

abbrev pub envelope_of : ProjectionPatchEnvelope → model.Envelope
envelope_of e = record {
  id = e.patch_id.0;
  stream = e.stream_id.0;
  document = e.document_id.0;
  surface = surface_of e.surface_id;
  previous = e.previous_projection_revision.0;
  revision = e.projection_revision.0;
  epoch = e.epoch.0;
  sequence = e.sequence.0;
}
