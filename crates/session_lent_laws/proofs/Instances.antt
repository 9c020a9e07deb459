-- What the laws speak of is there: every valid session of the model can be held, and slices that hold one can be made anew.
use Rattle.std.specs.Prelude.{◌*◌, ◌%◌, ◌≡◌, true, length}
use Rattle.std.proofs.Math.Path.{refl}
use Rattle.std.proofs.Common.{ap, ◌∙◌, arith, eq-eqb}
use mathlib.Core.List.{map, flat_map}
use Rattle.spec_projection.specs.Valid.{Valid}
use Rattle.spec_projection.proofs.ValidLaws.{empty_valid}
use Rattle.spec_session.specs.Session.{Catalogue, Session}
use Rattle.spec_session.specs.ValidSession.{FewAnchors}
use Rattle.spec_examples.proofs.SplitInstances.{start_session}
use Rattle.active_projection_target_catalog.specs.Catalog.{pair_to, pair_numbers}
use Rattle.bytes_records.specs.Moves.{zeros}
use Rattle.bytes_records.specs.MovesLaws.{length_zeros}
use Rattle.panel_rows.specs.Rows.{binding_bytes, availability_bytes, entry_bytes, length_bytes}
use Rattle.local_projection_state.specs.Stores.{stored_state}
use Rattle.local_projection_state.specs.StoresLaws.{some_state}
use Rattle.panel_changes.specs.SetChangesLaws.{table_lengths_fit, stored_lengths, zeros_ready}
use Rattle.shell_player.specs.Holds.{Holds}
use Rattle.shell_player.specs.declared.session.ShellSession.{ShellSession}
use Rattle.session_lent.specs.Head.{head_numbers, lent_head_of}
use Rattle.session_lent.specs.HeadLaws.{lent_head_long}
use Rattle.session_lent.specs.Steps.{room_shaped}
use Rattle.session_lent.specs.CreationLaws.{pairs_apart}
use Rattle.session_lent.specs.HalvesLaws.{held_room}
use Rattle.session_lent.specs.Halves.{Anchors, Half, half_with, HeldIn, RoomIn}
use Rattle.panel_changes.specs.PlanMemory.{no_plan}
use Rattle.panel_changes.specs.PlanMemoryLaws.{no_plan_clear}
use Rattle.session_lent_laws.specs.Memory.{Panel, struct_in}
use Rattle.session_lent_laws.proofs.StructLaws.{same_bytes}

-- ---- a session as lent slices

abbrev pub instance_anchors : Catalogue → Anchors
instance_anchors c = record { nodes = c.nodes; pairs = flat_map pair_numbers (map pair_to c.bindings); collections = c.collections }

abbrev pub half_of : Session → Half
half_of m = record {
  head = lent_head_of m;
  bindings = (stored_state m.projection).bindings;
  availability = (stored_state m.projection).availability;
  entries = (stored_state m.projection).entries;
  lengths = (stored_state m.projection).lengths;
}

module _ (m : Session) (few : FewAnchors m.catalogue) (valid : Valid m.projection) where
  pub half_holds : HeldIn (instance_anchors m.catalogue) (half_of m) m
  unfolding stored_state
  half_holds = record {
    head_is = refl;
    anchors_are = record { nodes_are = refl; bindings_are = refl; collections_are = refl };
    few = few;
    projection = (some_state m.projection valid).tables;
    collections_told = (some_state m.projection valid).lengths;
  }

  pub some_panel : Panel (instance_anchors m.catalogue) (record { held = half_of m; other = half_of m; plan = no_plan }) m
  some_panel = record { held = half_holds; room = held_room (instance_anchors m.catalogue) (half_of m) m half_holds; clear = no_plan_clear }

-- and so every session by value has slices with its numbers and bytes
pub struct_held : (s : ShellSession) (m : Session) → Holds s m → HeldIn (instance_anchors m.catalogue) (half_of m) m × (s ≡ struct_in (instance_anchors m.catalogue) (half_of m))
struct_held s m h =
    let held = half_holds m h.few h.projection.tables.valid in
    (held, same_bytes (instance_anchors m.catalogue) (half_of m) m held s h)

-- the session whose batches of `SplitInstances` apply whole and in pieces, or fail at an operation
pub start_panel : Panel (instance_anchors start_session.catalogue) (record { held = half_of start_session; other = half_of start_session; plan = no_plan }) start_session
unfolding start_session
start_panel = some_panel start_session (record { nodes = omega arith; bindings = omega arith; collections = omega arith }) empty_valid

-- ---- slices that a session can be made in

pub held_shaped : (k : Anchors) (h : Half) (m : Session) → HeldIn k h m → room_shaped (length h.head) (length k.pairs) (length h.bindings) (length h.availability) (length h.entries) (length h.lengths) ≡ true
unfolding room_shaped
held_shaped k h m held =
    let pairs : length k.pairs ≡ 2 * length (map pair_to m.catalogue.bindings) = ap length held.anchors_are.bindings_are ∙ pairs_apart (map pair_to m.catalogue.bindings) in
    let even : length k.pairs % 2 ≡ 0 = omega (arith, pairs) in
    rw (eq-eqb (length h.head) head_numbers (lent_head_long h.head m held.head_is), eq-eqb (length k.pairs % 2) 0 even, eq-eqb (length h.lengths) length_bytes held.collections_told.size, table_lengths_fit h.bindings h.availability h.entries (stored_lengths held.projection))

-- ---- memory that nothing was written to

-- a half that is all zeros is room
pub zeros_room : RoomIn (half_with (zeros head_numbers) (zeros binding_bytes) (zeros availability_bytes) (zeros entry_bytes) (zeros length_bytes))
zeros_room = record { head_long = length_zeros head_numbers; tables = zeros_ready }
