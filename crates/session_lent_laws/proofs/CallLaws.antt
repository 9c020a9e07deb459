-- Each call on lent memory gives the answer of the call by value, and leaves the bytes of the struct that is handed back.
use Rattle.std.specs.Prelude.{Option, Some, None, Result, Ok, Err}
use Rattle.std.specs.Prelude.{ℕ, ◌≡◌, true, List, length}
use Rattle.std.proofs.Common.{sym, ap, subst, ◌∙◌, arith, eq-eqb}
use Rattle.spec_patch.specs.Edition.{Edition}
use Rattle.spec_session.specs.Session.{Session, Limits, Catalogue, Creation, made, refused, create}
use Rattle.spec_session.specs.Lifecycle.{Stimulus, lifecycle_step}
use Rattle.spec_session.specs.Batch.{BatchEnvelope, batch}
use Rattle.panel_rows.specs.Rows.{length_bytes}
use Rattle.session_lifecycle.specs.Meaning.{answer_of}
use Rattle.session_gates.specs.Lent.{Lent}
use Rattle.session_gates.specs.Gates.{batch_envelope_of}
use Rattle.session_gates.specs.declared.gates.OrderedProjectionPatchBatchEnvelope.{OrderedProjectionPatchBatchEnvelope}
use Rattle.session_steps.specs.Answers.{batch_answer_of}
use Rattle.session_steps.specs.declared.answers.ProjectionPatchApplicationDisposition.{ProjectionPatchApplicationDisposition}
use Rattle.session_steps.specs.declared.answers.ProjectionPatchApplicationDisposition.TheVariants.{Applied, NoChange, Rejected}
use Rattle.session_steps.specs.declared.answers.ProjectionPatchApplicationResult.{ProjectionPatchApplicationResult}
use Rattle.shell_player.specs.Holds.{Holds}
use Rattle.shell_player.specs.Batches as struct
use Rattle.shell_player.specs.declared.session.ShellSession.{ShellSession}
use Rattle.shell_player.specs.declared.session.ShellTransition.{ShellTransition}
use Rattle.shell_player.specs.declared.batch.ProjectionPatchBatch.{ProjectionPatchBatch}
use Rattle.session_creation.specs.Creation.{Creates}
use Rattle.session_creation.specs.declared.ShellSessionCreation.{ShellSessionCreation}
use Rattle.session_lent.specs.HeadLaws.{lent_head_long}
use Rattle.session_lent.specs.Steps.{room_shaped, CreatedIn, CreationCall, TransitionCall}
use Rattle.panel_changes.specs.PlanMemory.{PlanTables, ClearPlan}
use Rattle.session_lent.specs.Batches.{SameHalf, NextIn, LentStep, memory_shaped}
use Rattle.session_lent.specs.BatchesLaws.{held_half, held_anchors, room_half}
use Rattle.session_lent.specs.CreationLaws.{creation_became}
use Rattle.session_lent.specs.LifecycleLaws.{transition_became}
use Rattle.session_lent.specs.declared.creation.LentCreationRefusal.{LentCreationRefusal}
use Rattle.session_lifecycle.specs.declared.lifecycle.ShellTransitionResult.{ShellTransitionResult}
use Rattle.session_lent.specs.HalvesLaws.{held_room}
use Rattle.session_lent.specs.Halves.{Anchors, Half, HeldIn, RoomIn}
use Rattle.session_lent_laws.specs.Memory.{Memory, Panel, LentBatchCall, exchanged, struct_in}
use Rattle.session_lent_laws.specs.Claim.{CreationAlike, with_head, TransitionAlike, BatchAlike}
use Rattle.session_lent_laws.proofs.StructLaws.{one_session, struct_holds, same_bytes}
use Rattle.session_lent_laws.proofs.AnswerLaws.{batch_answer_same, step_answer_same}

-- ---- creation

pub creation_alike : (id : ℕ) (limits : Limits) (k : Anchors) (h : Half) → room_shaped (length h.head) (length k.pairs) (length h.bindings) (length h.availability) (length h.entries) (length h.lengths) ≡ true
    → (c : Catalogue) → Lent c k.nodes k.pairs k.collections → (r : Result (Unit {0}) LentCreationRefusal) (h' : Half)
    → CreationCall id limits k.nodes k.pairs k.collections h.head h.bindings h.availability h.entries h.lengths r h'.head h'.bindings h'.availability h'.entries h'.lengths
    → (s : ShellSessionCreation) → Creates (create id limits c) s → CreationAlike r k h' s
unfolding Creates
creation_alike id limits k h room c lent r h' call s by_value =
    go (create id limits c) by_value (creation_became id limits k.nodes k.pairs k.collections h.head h.bindings h.availability h.entries h.lengths room r h'.head h'.bindings h'.availability h'.entries h'.lengths call c lent)
  where
    go : (x : Creation) → Creates x s → CreatedIn x r h'.head k.nodes k.pairs k.collections h'.bindings h'.availability h'.entries h'.lengths → CreationAlike r k h' s
    go (made m) v l = subst (λ y. CreationAlike y k h' s) (sym l.0) (v.0, (same_bytes k h' m l.1 s.session v.1, (m, (v.1, l.1))))
    go (refused f) v l = subst (λ y. CreationAlike y k h' s) (sym l) v.0

-- ---- the lifecycle step

pub transition_alike : (s : ShellSession) (k : Anchors) (h : Half) (m : Session) → Holds s m → HeldIn k h m → (u : Stimulus) (n : ℕ) (t : ShellTransition)
    → ((x : Session) → Holds s x → (answer_of t.result ≡ (lifecycle_step x u n).answer) × Holds t.session (lifecycle_step x u n).next)
    → (r : Option ShellTransitionResult) (head' : List ℕ) → TransitionCall h.head u n r head' → TransitionAlike k (with_head h head') r t (lifecycle_step m u n).next
transition_alike s k h m by_value held u n t step r head' call =
    let told = call.answered (lent_head_long h.head m held.head_is) in
    let became = transition_became told m k.nodes k.pairs k.collections h.bindings h.availability h.entries h.lengths held in
    let own = step m by_value in
    record {
      answer = told.told ∙ ap Some (step_answer_same told.result t.result (became.answer ∙ sym own.0));
      session = same_bytes k (with_head h head') (lifecycle_step m u n).next became.next t.session own.1;
      by_value = own.1;
      lent = became.next;
    }

-- ---- the batch

-- memory that holds a session has the shape of one
pub memory_fits : (ed : Edition) (v : BatchEnvelope) (declared : ℕ) (set : List ℕ) (k : Anchors) (p : Memory) (m : Session) → Panel k p m
    → memory_shaped ed v declared set p.held.head k.nodes k.pairs k.collections p.held.bindings p.held.availability p.held.entries p.other.head p.other.bindings p.other.availability p.other.entries p.other.lengths p.plan ≡ true
memory_fits ed v declared set k p m panel = rw (
  held_anchors p.held.head k.nodes k.pairs k.collections p.held.bindings p.held.availability p.held.entries p.held.lengths m panel.held,
  held_half p.held.head k.nodes k.pairs k.collections p.held.bindings p.held.availability p.held.entries p.held.lengths m panel.held,
  room_half p.other.head p.other.bindings p.other.availability p.other.entries p.other.lengths panel.room,
  eq-eqb (length p.other.lengths) length_bytes panel.room.tables.collections,
)

module _ (ed : Edition) (v : BatchEnvelope) (declared : ℕ) (set : List ℕ) (k : Anchors) (p : Memory) (m : Session) (panel : Panel k p m) (r : Option ProjectionPatchApplicationResult) (w : Half) (t : PlanTables) (call : LentBatchCall ed v declared set k p r w t) where
  abbrev other : Half
  other = p.other

  abbrev fits : memory_shaped ed v declared set p.held.head k.nodes k.pairs k.collections p.held.bindings p.held.availability p.held.entries other.head other.bindings other.availability other.entries other.lengths p.plan ≡ true
  fits = memory_fits ed v declared set k p m panel

  abbrev result : ProjectionPatchApplicationResult
  result = (call.0.answered fits).0

  is_answered : r ≡ Some result
  is_answered = (call.0.answered fits).1.0

  abbrev next : Session
  next = (batch ed m v declared set).next

  step : LentStep result m w.head k.nodes k.pairs k.collections w.bindings w.availability w.entries w.lengths (batch ed m v declared set)
  step = (call.0.answered fits).1.1.became m p.held.lengths panel.held panel.room panel.clear

  clear_next : ClearPlan t
  clear_next = call.1 m p.held.lengths panel.held panel.clear

  -- the memory holds the next session, and has room again
  panel_next : Panel k (exchanged result.disposition p.held w t) next
  panel_next = go result.disposition step.next (call.0.answered fits).1.1.kept
    where
      stays : next ≡ m → SameHalf other.head other.bindings other.availability other.entries other.lengths w.head w.bindings w.availability w.entries w.lengths → Panel k (record { held = p.held; other = w; plan = t }) next
      stays e same =
          let whole : w ≡ other = λ i. record { head = same.0 i; bindings = same.1.0 i; availability = same.1.1.0 i; entries = same.1.1.1.0 i; lengths = same.1.1.1.1 i } in
          record { held = subst (HeldIn k p.held) (sym e) panel.held; room = subst RoomIn (sym whole) panel.room; clear = clear_next }

      go : (d : ProjectionPatchApplicationDisposition) → NextIn d m next w.head k.nodes k.pairs k.collections w.bindings w.availability w.entries w.lengths
          → ((d ≡ Applied → ⊥) → SameHalf other.head other.bindings other.availability other.entries other.lengths w.head w.bindings w.availability w.entries w.lengths)
          → Panel k (exchanged d p.held w t) next
      go Applied held kept = record { held = held; room = held_room k p.held m panel.held; clear = clear_next }
      go NoChange e kept = stays e (kept (λ q. absurd (let z : ◌≡◌ {A = ℕ} 0 1 = cc in omega arith)))
      go Rejected e kept = stays e (kept (λ q. absurd (let z : ◌≡◌ {A = ℕ} 0 1 = cc in omega arith)))

-- an answer has one result
result_in : ProjectionPatchApplicationResult → Option ProjectionPatchApplicationResult → ProjectionPatchApplicationResult
result_in d (Some x) = x
result_in d None = d

answered_same : (a b : ProjectionPatchApplicationResult) → Some a ≡ Some b → a ≡ b
unfolding result_in
answered_same a b e = ap (result_in a) e

-- the memory afterwards holds the next session, and has room again
pub lent_goes_on : (ed : Edition) (v : BatchEnvelope) (declared : ℕ) (set : List ℕ) (k : Anchors) (p : Memory) (m : Session) → Panel k p m → (result : ProjectionPatchApplicationResult) (w : Half) (t : PlanTables)
    → LentBatchCall ed v declared set k p (Some result) w t → Panel k (exchanged result.disposition p.held w t) (batch ed m v declared set).next
lent_goes_on ed v declared set k p m panel res w t call =
    let same = answered_same res (result ed v declared set k p m panel (Some res) w t call) (is_answered ed v declared set k p m panel (Some res) w t call) in
    subst (λ (x : ProjectionPatchApplicationResult). Panel k (exchanged x.disposition p.held w t) (batch ed m v declared set).next) (sym same) (panel_next ed v declared set k p m panel (Some res) w t call)

-- the struct that has the bytes of the memory before, that of the memory afterwards, and the answer are related as the call by value relates them
pub lent_is_call : (ed : Edition) (e : OrderedProjectionPatchBatchEnvelope) (declared : ℕ) (set : List ℕ) (k : Anchors) (p : Memory) (m : Session) → Panel k p m → (result : ProjectionPatchApplicationResult) (w : Half) (t : PlanTables)
    → LentBatchCall ed (batch_envelope_of e) declared set k p (Some result) w t
    → struct.BatchCall (struct_in k p.held) e declared set ed (struct.batch_of (struct_in k (exchanged result.disposition p.held w t).held) result)
lent_is_call ed e declared set k p m panel res w t call =
    let told = is_answered ed (batch_envelope_of e) declared set k p m panel (Some res) w t call in
    let same = answered_same res (result ed (batch_envelope_of e) declared set k p m panel (Some res) w t call) told in
    let after = lent_goes_on ed (batch_envelope_of e) declared set k p m panel res w t call in
    let own : struct.BatchBecame (struct.batch_of (struct_in k (exchanged res.disposition p.held w t).held) res) (batch ed m (batch_envelope_of e) declared set) = record {
      answer = ap (λ (x : ProjectionPatchApplicationResult). batch_answer_of x) same ∙ (step ed (batch_envelope_of e) declared set k p m panel (Some res) w t call).answer;
      next = struct_holds k (exchanged res.disposition p.held w t).held (batch ed m (batch_envelope_of e) declared set).next after.held;
    } in
    record {
      became = λ x h. subst (λ (y : Session). struct.BatchBecame (struct.batch_of (struct_in k (exchanged res.disposition p.held w t).held) res) (batch ed y (batch_envelope_of e) declared set))
          (one_session (struct_in k p.held) m x (struct_holds k p.held m panel.held) h) own;
    }

pub batch_alike : (s : ShellSession) (k : Anchors) (p : Memory) (m : Session) → Holds s m → Panel k p m → (ed : Edition) (e : OrderedProjectionPatchBatchEnvelope) (declared : ℕ) (set : List ℕ)
    → (b : ProjectionPatchBatch) → struct.BatchCall s e declared set ed b → (r : Option ProjectionPatchApplicationResult) (w : Half) (t : PlanTables) → LentBatchCall ed (batch_envelope_of e) declared set k p r w t
    → BatchAlike k (exchanged b.result.disposition p.held w t) r b (batch ed m (batch_envelope_of e) declared set).next
batch_alike s k p m by_value panel ed e declared set b value r w t call =
    let own = value.became m by_value in
    let v = batch_envelope_of e in
    let same = batch_answer_same (result ed v declared set k p m panel r w t call) b.result ((step ed v declared set k p m panel r w t call).answer ∙ sym own.answer) in
    let after = subst (λ (x : ProjectionPatchApplicationResult). Panel k (exchanged x.disposition p.held w t) (batch ed m v declared set).next) same (panel_next ed v declared set k p m panel r w t call) in
    record {
      answer = is_answered ed v declared set k p m panel r w t call ∙ ap Some same;
      session = same_bytes k (exchanged b.result.disposition p.held w t).held (batch ed m v declared set).next after.held b.session own.next;
      by_value = own.next;
      lent = after;
    }
