-- The head of a lent session, as a list of numbers: what each of them tells, and the heads that calls write.
use Rattle.std.specs.Prelude.{ℕ, List, [], ◌∷◌, eqb, length, get_or, if◌then◌else◌}
use Rattle.spec_session.specs.Session.{Lifecycle, created, active, suspended, closed, Cursor, uninitialized, at, Limits, Session}
use Rattle.spec_session.specs.Lifecycle.{LocalState}
use Rattle.local_projection_state.specs.declared.ProjectionCounts.{ProjectionCounts}

-- how many numbers a head has
abbrev pub head_numbers : ℕ
head_numbers = 11

-- ---- lifecycle and cursor as numbers

abbrev pub lifecycle_number : Lifecycle → ℕ
lifecycle_number created = 0
lifecycle_number active = 1
lifecycle_number suspended = 2
lifecycle_number closed = 3

-- any other number is Closed
unfoldable pub lifecycle_numbered : ℕ → Lifecycle
lifecycle_numbered n = if eqb n 0 then created else if eqb n 1 then active else if eqb n 2 then suspended else closed

-- 1 with the number of the last batch that was applied, or 0 and 0
abbrev pub cursor_kind : Cursor → ℕ
cursor_kind uninitialized = 0
cursor_kind (at n) = 1

abbrev pub cursor_number : Cursor → ℕ
cursor_number uninitialized = 0
cursor_number (at n) = n

unfoldable pub cursor_numbered : ℕ → ℕ → Cursor
cursor_numbered kind n = if eqb kind 0 then uninitialized else at n

-- ---- what a head tells

abbrev pub state_at : List ℕ → LocalState
state_at h = record { id = get_or h 0 0; lifecycle = lifecycle_numbered (get_or h 1 0); cursor = cursor_numbered (get_or h 2 0) (get_or h 3 0) }

abbrev pub limits_at : List ℕ → Limits
limits_at h = record { stimulus_bytes = get_or h 4 0; diagnostics = get_or h 5 0; patches = get_or h 6 0; references = get_or h 7 0 }

abbrev pub counts_at : List ℕ → ProjectionCounts
counts_at h = record { bindings = get_or h 8 0; availabilities = get_or h 9 0; entries = get_or h 10 0 }

-- ---- the heads of sessions

-- id, lifecycle, cursor, limits, and how many rows each table has
abbrev pub lent_head_of : Session → List ℕ
lent_head_of m =
    m.id
    ∷ lifecycle_number m.lifecycle
    ∷ cursor_kind m.cursor
    ∷ cursor_number m.cursor
    ∷ m.limits.stimulus_bytes
    ∷ m.limits.diagnostics
    ∷ m.limits.patches
    ∷ m.limits.references
    ∷ length m.projection.bindings
    ∷ length m.projection.availabilities
    ∷ length m.projection.entries
    ∷ []

-- a new session: Created, Uninitialized, no rows
abbrev pub new_head : ℕ → Limits → List ℕ
new_head id l = id ∷ 0 ∷ 0 ∷ 0 ∷ l.stimulus_bytes ∷ l.diagnostics ∷ l.patches ∷ l.references ∷ 0 ∷ 0 ∷ 0 ∷ []

-- the head after a batch that was applied: at its number, with these counts
abbrev pub moved_head : List ℕ → ℕ → ProjectionCounts → List ℕ
moved_head h n k =
    get_or h 0 0
    ∷ get_or h 1 0
    ∷ 1
    ∷ n
    ∷ get_or h 4 0
    ∷ get_or h 5 0
    ∷ get_or h 6 0
    ∷ get_or h 7 0
    ∷ k.bindings
    ∷ k.availabilities
    ∷ k.entries
    ∷ []
