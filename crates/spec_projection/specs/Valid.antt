-- The invariant of a projection: stored order, capacities, and values that can be stored. 01, 'Projection' and 'Sizes'.
use Rattle.std.specs.Prelude.{◌≤◌, ◌≡◌, false, List, [], ◌∷◌, length}
use Rattle.spec_lists.specs.Lists.{All}
use Rattle.spec_lists.specs.Order.{Ascending}
use Rattle.spec_patch.specs.Edition.{Edition}
use Rattle.spec_patch.specs.Fits.{U64, U32, Storable, FitsOperation}
use Rattle.spec_patch.specs.Sizes.{projection_bindings, projection_availabilities, projection_entries}
use Rattle.spec_projection.specs.Projection.{Binding, NodeAvailability, Entry, Projection, binding_key, availability_key}
use Rattle.spec_projection.specs.Entries.{is_entry}
use Rattle.spec_projection.specs.Apply.{ReplayStep}

-- y may stand behind x: its collection is not an earlier one, and it is not the same entry
pub record Behind (x y : Entry) : Type 0 where
  pub collection : x.collection ≤ y.collection
  pub other : is_entry x.collection x.key y ≡ false

-- collections ascending, and no key twice in one
abbrev pub Grouped : List Entry → Type 0
Grouped [] = Unit {0}
Grouped (x ∷ xs) = All (Behind x) xs × Grouped xs

-- ids and marks are u64, a slot is a u32
pub record FitsBinding (b : Binding) : Type 0 where
  pub node : U64 b.node
  pub slot : U32 b.slot
  pub mark : U64 b.mark
  pub value : Storable b.value

pub record FitsNodeAvailability (a : NodeAvailability) : Type 0 where
  pub node : U64 a.node
  pub mark : U64 a.mark

pub record FitsEntry (e : Entry) : Type 0 where
  pub collection : U64 e.collection
  pub key : U64 e.key
  pub mark : U64 e.mark
  pub value : Storable e.value

-- the stored order alone
pub record Ordered (p : Projection) : Type 0 where
  pub bindings : Ascending binding_key p.bindings
  pub availabilities : Ascending availability_key p.availabilities
  pub entries : Grouped p.entries

pub record Valid (p : Projection) : Type 0 where
  pub bindings : Ascending binding_key p.bindings
  pub availabilities : Ascending availability_key p.availabilities
  pub entries : Grouped p.entries
  pub few_bindings : length p.bindings ≤ projection_bindings
  pub few_availabilities : length p.availabilities ≤ projection_availabilities
  pub few_entries : length p.entries ≤ projection_entries
  pub fit_bindings : All FitsBinding p.bindings
  pub fit_availabilities : All FitsNodeAvailability p.availabilities
  pub fit_entries : All FitsEntry p.entries

-- a step that may be applied: an id that is a u64, an operation that fits the edition
pub record FitsStep (ed : Edition) (s : ReplayStep) : Type 0 where
  pub patch : U64 s.patch
  pub operation : FitsOperation ed s.operation
