-- What the fields of a set-up stand for in spec_replay.
use Rattle.std.specs.Prelude.{ℕ, ◌+◌, ◌-◌, ◌≤◌, ◌≡◌, List, ◌++◌, map, ltb, length, replicate, if◌then◌else◌}
use Rattle.spec_session.specs.Session.{Catalogue}
use Rattle.spec_replay.specs.Replay.{Setup, kept_anchors}
use Rattle.active_projection_target_catalog.specs.Catalog.{pair_of, no_pair}
use Rattle.session_lifecycle.specs.Meaning.{limits_of}
use Rattle.script_calls.specs.declared.setup.ReplaySetup.{ReplaySetup}

-- the count after one anchor more of a kind
unfoldable pub kept_count : ℕ → ℕ
kept_count n = if ltb n kept_anchors then n + 1 else n

-- an array keeps a list in its first places; every other place is empty
pub record Keeps {A : Type 0} (none : A) (array : List A) (count : ℕ) (l : List A) : Type 0 where
  pub counted : count ≡ length l
  pub few : count ≤ kept_anchors
  pub is : array ≡ l ++ replicate (kept_anchors - count) none

-- the set-up with other anchors
abbrev pub anchored_replay : Setup → Catalogue → Setup
anchored_replay m c = record { id = m.id; limits = m.limits; catalogue = c }

-- the struct stands for a set-up of the definitions
pub record SetsUp (s : ReplaySetup) (m : Setup) : Type 0 where
  pub id_is : s.id ≡ m.id
  pub limits_are : limits_of s.limits ≡ m.limits
  pub nodes_kept : Keeps 0 s.nodes s.node_count m.catalogue.nodes
  pub pairs_kept : Keeps (pair_of no_pair) (map pair_of s.pairs) s.pair_count m.catalogue.bindings
  pub collections_kept : Keeps 0 s.collections s.collection_count m.catalogue.collections
