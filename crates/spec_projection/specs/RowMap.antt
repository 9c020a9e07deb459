-- The rows of a projection changed one by one: a plan's rows to what they stand for, a projection's to the same without their marks.
use Rattle.std.specs.Prelude.{◌≡◌, map}
use Rattle.spec_projection.specs.Projection.{Binding, NodeAvailability, Entry, Projection, binding_key, availability_key}
use Rattle.spec_projection.specs.Apply.{Outcome, done, stopped}

pub record RowMap : Type 0 where
  pub binding : Binding → Binding
  pub availability : NodeAvailability → NodeAvailability
  pub entry : Entry → Entry

-- every row changed
unfoldable pub map_rows : RowMap → Projection → Projection
map_rows f p = record { bindings = map f.binding p.bindings; availabilities = map f.availability p.availabilities; entries = map f.entry p.entries }

-- every row of what was left changed; a fault is the same
abbrev pub map_outcome : RowMap → Outcome → Outcome
map_outcome f (done p) = done (map_rows f p)
map_outcome f (stopped fault) = stopped fault

-- each row keeps what it is found by
pub record KeepsKeys (f : RowMap) : Type 0 where
  pub binding : (b : Binding) → binding_key (f.binding b) ≡ binding_key b
  pub availability : (a : NodeAvailability) → availability_key (f.availability a) ≡ availability_key a
  pub collection : (e : Entry) → (f.entry e).collection ≡ e.collection
  pub key : (e : Entry) → (f.entry e).key ≡ e.key
