-- The memory of a lent session, and the session by value that has the same numbers and bytes.
use Rattle.std.specs.Prelude.{Option}
use Rattle.std.specs.Prelude.{ℕ, List, [], ◌∷◌, length, get_or}
use Rattle.spec_patch.specs.Edition.{Edition}
use Rattle.spec_session.specs.Session.{Session}
use Rattle.spec_session.specs.Batch.{BatchEnvelope}
use Rattle.active_projection_target_catalog.specs.Catalog.{no_pair, padded_pairs, catalog_with}
use Rattle.active_projection_target_catalog.specs.declared.catalog.BindingPair.{BindingPair}
use Rattle.active_projection_target_catalog.specs.declared.catalog.ActiveProjectionTargetCatalog.{ActiveProjectionTargetCatalog}
use Rattle.panel_changes.specs.PlanMemory.{PlanTables, ClearPlan}
use Rattle.session_steps.specs.declared.answers.ProjectionPatchApplicationDisposition.{ProjectionPatchApplicationDisposition}
use Rattle.session_steps.specs.declared.answers.ProjectionPatchApplicationDisposition.TheVariants.{Applied, NoChange, Rejected}
use Rattle.shell_player.specs.HoldsLaws.{state_to, limits_to}
use Rattle.shell_player.specs.declared.session.ShellSession.{ShellSession}
use Rattle.session_lent.specs.Head.{state_at, limits_at, counts_at}
use Rattle.session_lent.specs.Halves.{Anchors, Half, HeldIn, RoomIn}
use Rattle.session_lent.specs.Batches.{BatchCallOnSlices, PlanGivenBack}
use Rattle.session_steps.specs.declared.answers.ProjectionPatchApplicationResult.{ProjectionPatchApplicationResult}

-- ---- lent slices

-- the half that holds the session, the other, which a batch writes to, and the memory of a plan
pub record Memory : Type 0 where
  pub held : Half
  pub other : Half
  pub plan : PlanTables

-- the memory holds the session, and has room for the next and for its plan
pub record Panel (k : Anchors) (p : Memory) (m : Session) : Type 0 where
  pub held : HeldIn k p.held m
  pub room : RoomIn p.other
  pub clear : ClearPlan p.plan

-- the relation of the lent batch call: what it is told, the memory, its answer, and what it leaves in the other half and in the plan's memory
abbrev pub LentBatchCall : Edition → BatchEnvelope → ℕ → List ℕ → Anchors → Memory → Option ProjectionPatchApplicationResult → Half → PlanTables → Type 0
LentBatchCall ed v declared set k p r w t =
    BatchCallOnSlices ed v declared set p.held.head k.nodes k.pairs k.collections p.held.bindings p.held.availability p.held.entries
    p.other.head p.other.bindings p.other.availability p.other.entries p.other.lengths p.plan r w.head w.bindings w.availability w.entries w.lengths
    × PlanGivenBack p.held.head k.nodes k.pairs k.collections p.held.bindings p.held.availability p.held.entries p.plan t

-- after Applied the caller exchanges the halves
abbrev pub exchanged : ProjectionPatchApplicationDisposition → Half → Half → PlanTables → Memory
exchanged Applied held written plan = record { held = written; other = held; plan = plan }
exchanged NoChange held written plan = record { held = held; other = written; plan = plan }
exchanged Rejected held written plan = record { held = held; other = written; plan = plan }

-- ---- the same numbers and bytes in a struct

-- two numbers are a pair
unfoldable pub pairs_in : List ℕ → List BindingPair
pairs_in [] = []
pairs_in (n ∷ []) = []
pairs_in (n ∷ s ∷ ns) = record { node = n; slot = s } ∷ pairs_in ns

abbrev pub catalog_in : Anchors → ActiveProjectionTargetCatalog
catalog_in k = catalog_with k.nodes (padded_pairs no_pair (pairs_in k.pairs)) (length (pairs_in k.pairs)) k.collections

abbrev pub struct_in : Anchors → Half → ShellSession
struct_in k h = record {
  context = record { session_id = record { 0 = get_or h.head 0 0 }; limits = limits_to (limits_at h.head); catalog = catalog_in k };
  state = state_to (state_at h.head);
  local_projection = record { counts = counts_at h.head; bindings = h.bindings; availability = h.availability; entries = h.entries; lengths = h.lengths };
}
