-- The patch lists that canonical bytes of an edition can hold: each number fits its field (`InRange`); and those that also keep the
-- capacities of 01 and 02, the text rule of RFC 3629 and the edition's value kinds (`Fits`).
use Rattle.std.specs.Prelude.{ℕ, ◌≤◌, ◌<◌, ◌^◌, ◌≡◌, Bool, true, List, length}
use Rattle.std.proofs.Math.Option.{Option, none, some}
use Rattle.std.specs.Int.{w64}
use Rattle.std.proofs.Common.{SFits}
use Rattle.spec_lists.specs.Lists.{All}
use Rattle.spec_patch.specs.TextRule.{allowed, few_characters}
use Rattle.spec_patch.specs.Sizes.{set_bytes, set_patches, patch_operations, text_bytes, highest_score}
use Rattle.spec_patch.specs.Patch.{Value, quad, signed, text, unsigned, score, Operation, set_binding, set_availability, insert, update, remove, move, Envelope, Patch}
use Rattle.spec_patch.specs.Edition.{Edition, has_kind}
use Rattle.spec_patch.specs.Encode.{kind_of, encode}

-- a u64, a u32 and a byte
abbrev pub U64 : ℕ → Type 0
U64 x = x < 2 ^ 64

abbrev pub U32 : ℕ → Type 0
U32 x = x < 2 ^ 32

abbrev pub Byte : ℕ → Type 0
Byte x = x < 256

-- none, or a u64
unfoldable pub OptionalU64 : Option ℕ → Type 0
OptionalU64 none = Unit {0}
OptionalU64 (some x) = U64 x

-- ---- numbers that fit their fields, whatever the capacities

unfoldable pub InRangeValue : Value → Type 0
InRangeValue (quad q) = Unit {0}
InRangeValue (signed z) = SFits w64 z
InRangeValue (text t) = Unit {0}
InRangeValue (unsigned x) = U64 x
InRangeValue (score n) = Byte n

-- ids are u64, a slot a u32; the value has the property
unfoldable pub OperationHolds : (Value → Type 0) → Operation → Type 0
OperationHolds P (set_binding node slot v) = U64 node × (U32 slot × P v)
OperationHolds P (set_availability node a) = U64 node
OperationHolds P (insert c k before v) = U64 c × (U64 k × (OptionalU64 before × P v))
OperationHolds P (update c k v) = U64 c × (U64 k × P v)
OperationHolds P (remove c k) = U64 c × U64 k
OperationHolds P (move c k before) = U64 c × (U64 k × OptionalU64 before)

pub record InRangeEnvelope (e : Envelope) : Type 0 where
  pub id : U64 e.id
  pub stream : U64 e.stream
  pub document : U64 e.document
  pub surface : OptionalU64 e.surface
  pub previous : U64 e.previous
  pub revision : U64 e.revision
  pub epoch : U64 e.epoch
  pub sequence : U64 e.sequence

pub record InRangePatch (p : Patch) : Type 0 where
  pub envelope : InRangeEnvelope p.envelope
  pub operations : All (OperationHolds InRangeValue) p.operations

-- each number of each patch is a u64, each slot a u32, each signed number an i64
abbrev pub InRange : List Patch → Type 0
InRange = All InRangePatch

-- ---- what an edition can hold

-- a text within its bytes and its characters, which the rule of texts allows
pub record FitsTextBy (check : Bool) (t : List ℕ) : Type 0 where
  pub short : length t ≤ text_bytes
  pub utf8 : allowed check t ≡ true
  pub few : few_characters check t ≡ true

-- a value that can be stored, whatever its edition
unfoldable pub StorableBy : Bool → Value → Type 0
StorableBy check (quad q) = Unit {0}
StorableBy check (signed z) = SFits w64 z
StorableBy check (text t) = FitsTextBy check t
StorableBy check (unsigned x) = U64 x
StorableBy check (score n) = n ≤ highest_score

-- a storable value of a kind that the edition has
pub record FitsValueBy (check : Bool) (ed : Edition) (v : Value) : Type 0 where
  pub kind : has_kind ed (kind_of v) ≡ true
  pub storable : StorableBy check v

-- what may stand in a set: RFC 3629 allows its texts
abbrev pub FitsText : List ℕ → Type 0
FitsText = FitsTextBy true

abbrev pub Storable : Value → Type 0
Storable = StorableBy true

abbrev pub FitsValue : Edition → Value → Type 0
FitsValue = FitsValueBy true

abbrev pub FitsOperation : Edition → Operation → Type 0
FitsOperation ed = OperationHolds (FitsValue ed)

pub record FitsPatch (ed : Edition) (p : Patch) : Type 0 where
  pub envelope : InRangeEnvelope p.envelope
  pub few : length p.operations ≤ patch_operations
  pub operations : All (FitsOperation ed) p.operations

pub record Fits (ed : Edition) (ps : List Patch) : Type 0 where
  pub few : length ps ≤ set_patches
  pub patches : All (FitsPatch ed) ps
  pub short : length (encode ed ps) ≤ set_bytes
