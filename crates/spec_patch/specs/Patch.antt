-- What a patch is, as plain values: 01, 'Canonical bytes', and the score of 02, 'Job 13'. A text is its bytes. A number is a natural number here; `Fits` says that it is a
-- u64, or a u32 for a slot. A signed number is an integer.
use Rattle.std.specs.Prelude.{ℕ, List, ℤ}
use Rattle.std.proofs.Math.Option.{Option}

pub data Quad : Type 0 where
  N F T S : Quad

pub data Availability : Type 0 where
  available unavailable hidden pending stale : Availability

pub data Value : Type 0 where
  quad : Quad → Value
  signed : ℤ → Value
  text : List ℕ → Value
  unsigned : ℕ → Value
  score : ℕ → Value

-- `before` is 01's neighbour
pub data Operation : Type 0 where
  set_binding : (node slot : ℕ) → Value → Operation
  set_availability : (node : ℕ) → Availability → Operation
  insert : (collection key : ℕ) → (before : Option ℕ) → Value → Operation
  update : (collection key : ℕ) → Value → Operation
  remove : (collection key : ℕ) → Operation
  move : (collection key : ℕ) → (before : Option ℕ) → Operation

pub record Envelope : Type 0 where
  pub id : ℕ
  pub stream : ℕ
  pub document : ℕ
  pub surface : Option ℕ
  pub previous : ℕ
  pub revision : ℕ
  pub epoch : ℕ
  pub sequence : ℕ

pub record Patch : Type 0 where
  pub envelope : Envelope
  pub operations : List Operation
