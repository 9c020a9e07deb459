-- What is claimed of the byte at which reading stops: it is the first that stops it. A beginning of a set is read by itself, as if it were the set.
use Rattle.std.specs.Prelude.{ℕ, ◌≤◌, ◌<◌, ◌≡◌, List, length, take}
use Rattle.std.proofs.Math.Option.{Option, none, some}
use Rattle.spec_patch.specs.Sizes.{set_bytes}
use Rattle.spec_patch.specs.Edition.{Edition}
use Rattle.spec_explain.specs.ReadingRule.{too_few_bytes, bytes_left, Unread}
use Rattle.spec_explain.specs.Locate.{locate}

-- the beginning before the named byte lacks the field that begins there, in the same patch and operation; or it is a whole set, where bytes are left
pub data FieldReached (u : Unread) : Option Unread → Type 0 where
  lacks_field : FieldReached u (some (record { rule = too_few_bytes; inside = u.inside; position = u.position }))
  whole_set : u.rule ≡ bytes_left → FieldReached u none

-- a beginning has too few bytes, and no other fault
pub data BreaksOff : Option Unread → Type 0 where
  breaks_off : (v : Unread) → v.rule ≡ too_few_bytes → BreaksOff (some v)

-- a beginning is read, or has too few bytes, or has the very fault of the set: at the same byte, by the same rule, in the same place
pub data NoOther (u : Unread) : Option Unread → Type 0 where
  is_read : NoOther u none
  too_few : (v : Unread) → v.rule ≡ too_few_bytes → NoOther u (some v)
  same_fault : NoOther u (some u)

-- the named byte is the first; a set over its bytes is not read at all, so its beginnings are not asked
pub record FirstByte (ed : Edition) (set : List ℕ) (u : Unread) : Type 0 where
  pub within : u.position ≤ length set
  pub reached : FieldReached u (locate ed (take u.position set))
  pub before : (n : ℕ) → n < u.position → BreaksOff (locate ed (take n set))
  pub others : length set ≤ set_bytes → (n : ℕ) → NoOther u (locate ed (take n set))
