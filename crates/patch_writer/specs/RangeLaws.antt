-- A set that a function is passed is a value of its type, so that every number of its list fits its field.
use Rattle.std.specs.Prelude as code
use Rattle.projection_patch.specs.declared.contract_primitives.StaticSurfaceId.{StaticSurfaceId}
use Rattle.projection_patch.specs.declared.contract_primitives.CollectionKey.{CollectionKey}
use Rattle.std.specs.Prelude.{ℕ, List, [], ◌∷◌, map, take, drop}
use mir.Val.{Val}
use denote.Laws.{Is}
use denote.Shadow.{shadow}
use denote.Array.{each}
use denote.RattleType.{RattleType}
use denote.Struct.Field.{Field}
use denote.Struct.Declared as structs
use denote.Enum.Declared as enums
use Rattle.spec_lists.specs.Lists.{All}
use Rattle.spec_lists.proofs.ListLaws.{all_take, all_drop}
use Rattle.spec_patch.specs.Fits.{OptionalU64, InRangeValue, OperationHolds, InRangeEnvelope, InRange}
use Rattle.projection_patch.specs.Meaning.{surface_of, before_of, envelope_of, value_of, operation_of}
use Rattle.projection_patch.specs.declared.patch.ProjectionPatchEnvelope.{ProjectionPatchEnvelope}
use Rattle.projection_patch.specs.declared.patch.ProjectionPatchValue.{ProjectionPatchValue}
use Rattle.projection_patch.specs.declared.patch.ProjectionPatchValue.TheVariants.{Quad, SignedScalar, UnsignedScalar, Text, Score}
use Rattle.projection_patch.specs.declared.patch.ProjectionPatchOperation.{ProjectionPatchOperation}
use Rattle.projection_patch.specs.declared.patch.ProjectionPatchOperation.TheVariants.{SetBindingValue, SetNodeAvailability, CollectionInsert, CollectionUpdate, CollectionRemove, CollectionMove}
use Rattle.projection_patch.specs.declared.patch.ProjectionPatch.{ProjectionPatch}
use Rattle.projection_patch.specs.declared.patch.OperationPlace.{OperationPlace}
use Rattle.projection_patch.specs.declared.patch.ProjectionPatchSet.{ProjectionPatchSet}
use Rattle.projection_patch.specs.contracts.patch.ProjectionPatch as patchType
use Rattle.projection_patch.specs.contracts.patch.OperationPlace as placeType
use Rattle.projection_patch.specs.contracts.patch.ProjectionPatchSet as setType
use Rattle.patch_writer.specs.Set.{operation_at, list_from, heads, list_of}
use Rattle.std.specs.contracts.option.Option as optionType
use Rattle.projection_patch.specs.contracts.contract_primitives.StaticSurfaceId as surfaceType
use Rattle.projection_patch.specs.contracts.contract_primitives.CollectionKey as keyType
use Rattle.projection_patch.specs.contracts.patch.ProjectionPatchEnvelope as envelopeType
use Rattle.projection_patch.specs.contracts.patch.ProjectionPatchValue as valueType
use Rattle.projection_patch.specs.contracts.patch.ProjectionPatchOperation as operationType

-- The relation `Is` computes to nested pairs. A number has its machine value and its bound. A struct has its machine values, their form, and
-- behind both the relations of its fields in order; an enum has the same twice, for its tag and for the fields of its variant. So in a path
-- `.1 .1` goes to a struct's fields, `.1 .1 .1 .1` to a variant's, and a last `.1` to a bound.
surface_in_range : (s : code.Option StaticSurfaceId) (vs : List Val) → Is (optionType.the_row (structs.row surfaceType.the_type)) s vs → OptionalU64 (surface_of s)
unfolding OptionalU64
surface_in_range code.None vs h = tt
surface_in_range (code.Some id) vs h = h.1.1.1.1.0.1.1.0.1

key_in_range : (k : code.Option CollectionKey) (vs : List Val) → Is (optionType.the_row (structs.row keyType.the_type)) k vs → OptionalU64 (before_of k)
unfolding OptionalU64
key_in_range code.None vs h = tt
key_in_range (code.Some k) vs h = h.1.1.1.1.0.1.1.0.1

value_in_range : (texts : List ℕ) (v : ProjectionPatchValue) (vs : List Val) → Is (enums.row valueType.the_type) v vs → InRangeValue (value_of texts v)
unfolding InRangeValue
value_in_range texts (Quad q) vs h = tt
value_in_range texts (SignedScalar z) vs h = record { sfits = h.1.1.1.1.0.1 }
value_in_range texts (UnsignedScalar x) vs h = h.1.1.1.1.0.1
value_in_range texts (Text start len) vs h = tt
value_in_range texts (Score n) vs h = h.1.1.1.1.0.1

pub envelope_in_range : (e : ProjectionPatchEnvelope) (vs : List Val) → Is (structs.row envelopeType.the_type) e vs → InRangeEnvelope (envelope_of e)
envelope_in_range e vs h =
    let fields = h.1.1 in
    record {
      id = fields.0.1.1.0.1;
      stream = fields.1.0.1.1.0.1;
      document = fields.1.1.0.1.1.0.1;
      surface = surface_in_range e.surface_id _ fields.1.1.1.0;
      previous = fields.1.1.1.1.0.1.1.0.1;
      revision = fields.1.1.1.1.1.0.1.1.0.1;
      epoch = fields.1.1.1.1.1.1.0.1.1.0.1;
      sequence = fields.1.1.1.1.1.1.1.0.1.1.0.1;
    }

pub operation_in_range : (texts : List ℕ) (o : ProjectionPatchOperation) (vs : List Val) → Is (enums.row operationType.the_type) o vs → OperationHolds InRangeValue (operation_of texts o)
unfolding OperationHolds
operation_in_range texts (SetBindingValue t v) vs h =
    let fields = h.1.1.1.1 in
    (fields.0.1.1.0.1.1.0.1, (fields.0.1.1.1.0.1.1.0.1, value_in_range texts v _ fields.1.0))
operation_in_range texts (SetNodeAvailability n a) vs h = h.1.1.1.1.0.1.1.0.1
operation_in_range texts (CollectionInsert c k b v) vs h =
    let fields = h.1.1.1.1 in
    (fields.0.1.1.0.1, (fields.1.0.1.1.0.1, (key_in_range b _ fields.1.1.0, value_in_range texts v _ fields.1.1.1.0)))
operation_in_range texts (CollectionUpdate c k v) vs h =
    let fields = h.1.1.1.1 in
    (fields.0.1.1.0.1, (fields.1.0.1.1.0.1, value_in_range texts v _ fields.1.1.0))
operation_in_range texts (CollectionRemove c k) vs h =
    let fields = h.1.1.1.1 in
    (fields.0.1.1.0.1, fields.1.0.1.1.0.1)
operation_in_range texts (CollectionMove c k b) vs h =
    let fields = h.1.1.1.1 in
    (fields.0.1.1.0.1, (fields.1.0.1.1.0.1, key_in_range b _ fields.1.1.0))

-- ---- the arrays of a set

each_holds : (F : Field) (P : F.Value → Type 0) → ((x : F.Value) (vs : List Val) → Is F.row (F.into x) vs → P x)
    → (xs : List F.Value) (us : List Val) → shadow (each F.row.Denot F.row.own_val (map F.into xs) us) → All P xs
each_holds F P f [] us h = tt
each_holds F P f (x ∷ xs) [] h = absurd h
each_holds F P f (x ∷ xs) (u ∷ us) h = (f x (u ∷ []) h.0, each_holds F P f xs us h.1)

-- the same of values of a type, as the arrays of a struct hold them
each_of_type_holds : (R : RattleType) (P : R.Denot → Type 0) → ((x : R.Denot) (vs : List Val) → Is R x vs → P x)
    → (xs : List R.Denot) (us : List Val) → shadow (each R.Denot R.own_val xs us) → All P xs
each_of_type_holds R P f [] us h = tt
each_of_type_holds R P f (x ∷ xs) [] h = absurd h
each_of_type_holds R P f (x ∷ xs) (u ∷ us) h = (f x (u ∷ []) h.0, each_of_type_holds R P f xs us h.1)

abbrev InRangeHead : ProjectionPatch → Type 0
InRangeHead p = InRangeEnvelope (envelope_of p.envelope)

abbrev InRangePlace : List ℕ → OperationPlace → Type 0
InRangePlace texts p = OperationHolds InRangeValue (operation_of texts p.operation)

-- a set is a value of its type, by the logic's own relation of values and machine values: so is every set that a function is passed
pub record PassedSet (set : ProjectionPatchSet) : Type 0 where
  pub machine : List Val
  pub known : Is (structs.row setType.the_type) set machine

heads_in_range : (set : ProjectionPatchSet) → PassedSet set → All InRangeHead set.patches
heads_in_range set p = each_of_type_holds patchType.the_row InRangeHead (λ h vs k. envelope_in_range h.envelope _ k.1.1.0) set.patches _ p.known.1.1.1.0.1.1

places_in_range : (texts : List ℕ) (set : ProjectionPatchSet) → PassedSet set → All (InRangePlace texts) set.operations
places_in_range texts set p = each_of_type_holds placeType.the_row (InRangePlace texts) (λ o vs k. operation_in_range texts o.operation _ k.1.1.0) set.operations _ p.known.1.1.1.1.0.1.1

-- ---- the list

all_mapped : {A B : Type 0} (P : B → Type 0) (f : A → B) (l : List A) → All (λ (a : A). P (f a)) l → All P (map f l)
all_mapped P f [] h = tt
all_mapped P f (x ∷ l) h = (h.0, all_mapped P f l h.1)

list_in_range : (texts : List ℕ) (hs : List ProjectionPatch) (ps : List OperationPlace) → All InRangeHead hs → All (InRangePlace texts) ps → InRange (list_from texts hs ps)
unfolding list_from
list_in_range texts [] ps h k = tt
list_in_range texts (p ∷ hs) ps h k =
    let n = p.operation_count in (
      record { envelope = h.0; operations = all_mapped (OperationHolds InRangeValue) (operation_at texts) (take n ps) (all_take (InRangePlace texts) n ps k) },
      list_in_range texts hs (drop n ps) h.1 (all_drop (InRangePlace texts) n ps k),
    )

-- each number of the list fits its field
pub passed_in_range : (texts : List ℕ) (set : ProjectionPatchSet) → PassedSet set → InRange (list_of texts set)
passed_in_range texts set p =
    list_in_range texts (heads set) set.operations (all_take InRangeHead set.patch_count set.patches (heads_in_range set p)) (places_in_range texts set p)
