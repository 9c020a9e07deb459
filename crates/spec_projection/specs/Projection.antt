-- What a session stores: 01, 'Projection'. Three lists in stored order: bindings by (node, slot) ascending, availabilities by node
-- ascending, entries by collection ascending and, in each collection, in list order. `Valid` states that order. A row's mark is the id of the
-- patch that last gave it its value: 02, Job 11.
use Rattle.std.specs.Prelude.{ℕ, List, [], ◌∷◌}
use Rattle.spec_patch.specs.Patch.{Value, Availability}

pub record Binding : Type 0 where
  pub node : ℕ
  pub slot : ℕ
  pub mark : ℕ
  pub value : Value

pub record NodeAvailability : Type 0 where
  pub node : ℕ
  pub mark : ℕ
  pub availability : Availability

-- an entry of a collection, stored with the collection's id
pub record Entry : Type 0 where
  pub collection : ℕ
  pub key : ℕ
  pub mark : ℕ
  pub value : Value

pub record Projection : Type 0 where
  pub bindings : List Binding
  pub availabilities : List NodeAvailability
  pub entries : List Entry

-- a new session's projection
unfoldable pub empty : Projection
empty = record { bindings = []; availabilities = []; entries = [] }

-- bindings by (node, slot)
unfoldable pub binding_key : Binding → List ℕ
binding_key b = b.node ∷ b.slot ∷ []

-- availability by node
unfoldable pub availability_key : NodeAvailability → List ℕ
availability_key a = a.node ∷ []
