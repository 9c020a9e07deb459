-- Which keys the collections hold, and what expectations make of it, without a table: the meaning that the table of settled keys is held against.
use Rattle.std.specs.Prelude.{ℕ, ◌≡◌, Bool, ◌&&◌, List, [], ◌∷◌, eqb, if◌then◌else◌}
use Rattle.spec_projection.specs.Projection.{Projection}
use Rattle.spec_projection.specs.Entries.{contains}
use Rattle.spec_dependencies.specs.Expectations.{Expectation}

-- whether a collection holds a key
abbrev pub Presence : Type 0
Presence = ℕ → ℕ → Bool

-- in a projection
unfoldable pub presence : Projection → Presence
presence p c k = contains c k p.entries

-- the expectation is of that collection and key
unfoldable pub is_of : Expectation → ℕ → ℕ → Bool
is_of e c k = eqb e.collection c && eqb e.key k

-- afterwards its key is as it leaves it, and others are as before
unfoldable pub presence_after : Expectation → Presence → Presence
presence_after e h c k = if is_of e c k then e.left else h c k

unfoldable pub presence_after_all : List Expectation → Presence → Presence
presence_after_all [] h = h
presence_after_all (e ∷ es) h = presence_after_all es (presence_after e h)

-- each expectation is met, when those before it are done
abbrev pub Accepts : List Expectation → Presence → Type 0
Accepts [] h = Unit {0}
Accepts (e ∷ es) h = (h e.collection e.key ≡ e.expected) × Accepts es (presence_after e h)
