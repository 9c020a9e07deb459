-- What is said of a turn's number: that the cursor has come to its end, and that a batch passes whatever the cursor.
use Rattle.std.specs.Prelude.{Bool, false, eqb}
use Rattle.spec_patch.specs.Sizes.{largest_u64}
use Rattle.spec_session.specs.Session.{Cursor, uninitialized, at, Session}

-- the cursor is at the largest number
unfoldable pub at_last_number : Cursor → Bool
at_last_number uninitialized = false
at_last_number (at m) = eqb m largest_u64

-- the same session while Uninitialized, when any number passes: what it takes has passed all steps but the cursor's
unfoldable pub without_cursor : Session → Session
without_cursor s = record { id = s.id; limits = s.limits; catalogue = s.catalogue; lifecycle = s.lifecycle; cursor = uninitialized; projection = s.projection }
