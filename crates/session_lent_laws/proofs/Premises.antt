-- The law on whole and pieces in lent memory speaks of something: calls with four patches, and with two and two of them, that put a key in and take
-- it out.
use Rattle.std.specs.Prelude.{Some}
use Rattle.std.specs.Prelude.{ℕ, ◌<◌, ◌≡◌, true, false, List, [], ◌∷◌, map, length, get_or}
use Rattle.std.proofs.Math.Path.{refl, sym, ap, ap₂, subst}
use Rattle.std.proofs.Common.{◌∙◌, arith}
use Rattle.std.proofs.lemmas.Bool.{false≢true}
use Rattle.std.proofs.Math.Option.{none}
use Rattle.spec_patch.specs.Edition.{Edition, v1}
use Rattle.spec_patch.specs.Patch.{Patch, unsigned, insert, remove}
use Rattle.spec_patch.specs.Encode.{encode}
use Rattle.spec_patch.specs.Fits.{OperationHolds, InRangeValue, OptionalU64, InRangePatch}
use Rattle.spec_projection.specs.Projection.{Projection, empty}
use Rattle.spec_projection.proofs.ValidLaws.{empty_valid}
use Rattle.spec_session.specs.Session.{Limits, Catalogue, at, Session}
use Rattle.spec_session.specs.ValidSession.{FewAnchors}
use Rattle.spec_session.specs.Lifecycle as step
use Rattle.spec_session.specs.Lifecycle.{LocalState, applied}
use Rattle.spec_session.specs.Batch.{BatchEnvelope, pass, batch}
use Rattle.spec_session.proofs.BatchLaws.{never_passes}
use Rattle.spec_splitting.specs.Splitting.{Piece, references, is_rejected, patches_of, Given}
use Rattle.spec_examples.specs.Opened.{opened_all}
use Rattle.spec_examples.proofs.SplitInstances.{patch_numbered, start_session, piece}
use Rattle.active_projection_target_catalog.specs.Catalog.{pair_of, pair_to}
use Rattle.active_projection_target_catalog.proofs.CatalogLaws.{pairs_back}
use Rattle.session_lifecycle.specs.Meaning.{cursor_of}
use Rattle.session_lifecycle.specs.declared.state.ProjectionReplayCursor.TheVariants.{At}
use Rattle.local_projection_state.specs.Stores.{counts_of}
use Rattle.local_projection_state.specs.declared.ProjectionCounts.{ProjectionCounts}
use Rattle.session_gates.specs.Gates.{preflight_by}
use Rattle.session_gates.specs.Lent.{Lent}
use Rattle.panel_changes.specs.PlanMemory.{no_plan}
use Rattle.panel_changes.specs.PlanMemoryLaws.{no_plan_clear}
use Rattle.session_steps.specs.Answers.{disposition_told, answer_at, applied_row}
use Rattle.session_steps.specs.declared.answers.ProjectionPatchApplicationDisposition.TheVariants.{Applied}
use Rattle.session_steps.specs.declared.answers.ProjectionPatchApplicationResult.{ProjectionPatchApplicationResult}
use Rattle.session_lent.specs.Head.{state_at, limits_at}
use Rattle.session_lent.specs.HeadLaws.{state_told, limits_told, counts_told}
use Rattle.session_lent.specs.LentSession.{LentSession}
use Rattle.session_lent.specs.Batches.{LentStep}
use Rattle.session_lent.specs.Halves.{Anchors, Half, HeldIn}
use Rattle.session_lent_laws.specs.Memory.{Memory, Panel, LentBatchCall, pairs_in}
use Rattle.session_lent_laws.specs.Calls.{LentCall, LentSent, AllAppliedIn}
use Rattle.session_lent_laws.proofs.StructLaws.{pairs_told}
use Rattle.session_lent_laws.proofs.CallLaws.{memory_fits, lent_goes_on}
use Rattle.session_lent_laws.proofs.Theorem.{lent_all_applied}
use Rattle.session_lent_laws.proofs.Instances.{instance_anchors, half_of, half_holds, start_panel}

-- ---- a head without rows and its anchors tell one session

no_elements : {A : Type 0} (l : List A) → length l ≡ 0 → l ≡ []
no_elements [] e = refl
no_elements (x ∷ l) e = absurd (omega arith)

no_rows : (q : Projection) → counts_of q ≡ counts_of empty → q ≡ empty
unfolding empty
no_rows q e = λ i. record {
  bindings = no_elements q.bindings (ap (λ (n : ProjectionCounts). n.bindings) e) i;
  availabilities = no_elements q.availabilities (ap (λ (n : ProjectionCounts). n.availabilities) e) i;
  entries = no_elements q.entries (ap (λ (n : ProjectionCounts). n.entries) e) i;
}

one_catalogue : (c d : Catalogue) (nodes pairs collections : List ℕ) → Lent c nodes pairs collections → Lent d nodes pairs collections → c ≡ d
one_catalogue c d nodes pairs collections g h =
    let same : map pair_to c.bindings ≡ map pair_to d.bindings = sym (pairs_told (map pair_to c.bindings)) ∙ ap pairs_in (sym g.bindings_are ∙ h.bindings_are) ∙ pairs_told (map pair_to d.bindings) in
    λ i. record {
      nodes = (sym g.nodes_are ∙ h.nodes_are) i;
      bindings = (sym (pairs_back c.bindings) ∙ ap (map pair_of) same ∙ pairs_back d.bindings) i;
      collections = (sym g.collections_are ∙ h.collections_are) i;
    }

module _ (k : Anchors) (h : Half) (m : Session) (held : HeldIn k h m) (none : m.projection ≡ empty) where
  one_held : (x : Session) (l : List ℕ) → LentSession h.head k.nodes k.pairs k.collections h.bindings h.availability h.entries l x → m ≡ x
  unfolding step.state_of
  one_held x l other =
      let state = sym (state_told h.head m held.head_is) ∙ state_told h.head x other.head_is in
      let counts = sym (counts_told h.head x other.head_is) ∙ counts_told h.head m held.head_is ∙ ap counts_of none in
      λ i. record {
        id = ap (λ (t : LocalState). t.id) state i;
        limits = (sym (limits_told h.head m held.head_is) ∙ limits_told h.head x other.head_is) i;
        catalogue = one_catalogue m.catalogue x.catalogue k.nodes k.pairs k.collections held.anchors_are other.anchors_are i;
        lifecycle = ap (λ (t : LocalState). t.lifecycle) state i;
        cursor = ap (λ (t : LocalState). t.cursor) state i;
        projection = (none ∙ sym (no_rows x.projection counts)) i;
      }

-- ---- a call that is applied to a session without rows, and leaves none

abbrev pub applied_at : ℕ → ProjectionPatchApplicationResult
applied_at n = record { disposition = Applied; diagnostics = record { stable_code = 0; evaluation_stage = 0; logical_diagnostic_count = 0; emitted_diagnostic_count = 0 }; replay_cursor = At n }

module _ (ed : Edition) (m : Session) (few : FewAnchors m.catalogue) (p : Memory) (panel : Panel (instance_anchors m.catalogue) p m) (none : m.projection ≡ empty) (v : BatchEnvelope) (declared : ℕ) (set : List ℕ)
    (applies : (batch ed m v declared set).answer ≡ answer_at applied (at v.sequence)) (kept : (batch ed m v declared set).next.catalogue ≡ m.catalogue) (left : (batch ed m v declared set).next.projection ≡ empty)
    (passes : preflight_by m.id m.limits m.lifecycle v ≡ pass tt) where
  abbrev next : Session
  next = (batch ed m v declared set).next

  next_held : HeldIn (instance_anchors m.catalogue) (half_of next) next
  next_held = subst (λ (c : Catalogue). HeldIn (instance_anchors c) (half_of next) next) kept (half_holds next (subst FewAnchors (sym kept) few) (rw left empty_valid))

  some_call : LentBatchCall ed v declared set (instance_anchors m.catalogue) p (Some (applied_at v.sequence)) (half_of next) no_plan
  unfolding disposition_told cursor_of step.state_of
  some_call = (
    record {
      answered = λ fits. (
        applied_at v.sequence,
        (
          refl,
          record {
            became = λ x l held room clear. subst (λ (y : Session). LentStep (applied_at v.sequence) y (half_of next).head m.catalogue.nodes (instance_anchors m.catalogue).pairs m.catalogue.collections (half_of next).bindings (half_of next).availability (half_of next).entries (half_of next).lengths (batch ed y v declared set))
                (one_held (instance_anchors m.catalogue) p.held m panel.held none x l held) (record { answer = sym applies; next = next_held });
            kept = λ not. absurd (not refl);
            row = applied_row refl;
            preflight = λ f n is. never_passes (sym (sym same ∙ is) ∙ passes);
          },
        ),
      );
      refused = λ shape. absurd (false≢true (sym shape ∙ memory_fits ed v declared set (instance_anchors m.catalogue) p m panel));
    },
    λ x l held clear. no_plan_clear,
  )
    where
      same : preflight_by (state_at p.held.head).id (limits_at p.held.head) (state_at p.held.head).lifecycle v ≡ preflight_by m.id m.limits m.lifecycle v
      same = ap₂ (λ (l : Limits) (t : LocalState). preflight_by t.id l t.lifecycle v) (limits_told p.held.head m panel.held.head_is) (state_told p.held.head m panel.held.head_is)

-- ---- four patches, whole and in two pieces

unfoldable pub puts_in : ℕ → Patch
puts_in n = patch_numbered n (insert 9 1 none (unsigned 3) ∷ [])

unfoldable pub takes_out : ℕ → Patch
takes_out n = patch_numbered n (remove 9 1 ∷ [])

unfoldable pub first_piece : Piece
first_piece = piece (puts_in 1 ∷ takes_out 2 ∷ [])

unfoldable pub second_piece : Piece
second_piece = piece (puts_in 3 ∷ takes_out 4 ∷ [])

unfoldable pub whole_piece : Piece
whole_piece = piece (puts_in 1 ∷ takes_out 2 ∷ puts_in 3 ∷ takes_out 4 ∷ [])

puts_fits : (n : ℕ) → n < 100 → InRangePatch (puts_in n)
unfolding puts_in patch_numbered opened_all OperationHolds InRangeValue OptionalU64
puts_fits n h = omega (arith, h)

takes_fits : (n : ℕ) → n < 100 → InRangePatch (takes_out n)
unfolding takes_out patch_numbered opened_all OperationHolds InRangeValue OptionalU64
takes_fits n h = omega (arith, h)

given : Given start_session 40 whole_piece (first_piece ∷ second_piece ∷ [])
unfolding start_session whole_piece first_piece second_piece piece opened_all patches_of
given = record {
  in_range = (puts_fits 1 (omega arith), (takes_fits 2 (omega arith), (puts_fits 3 (omega arith), (takes_fits 4 (omega arith), tt))));
  cut = refl;
  non_empty = omega arith;
  figures = omega arith;
  numbers = omega arith;
}

abbrev pub some_anchors : Anchors
some_anchors = instance_anchors start_session.catalogue

abbrev pub memory : Memory
memory = record { held = half_of start_session; other = half_of start_session; plan = no_plan }

abbrev pub sent_to : Memory → ℕ → Piece → BatchEnvelope
sent_to p n q = record { session = get_or p.held.head 0 0; sequence = n; patches = length q.patches; stimulus_bytes = q.stimulus_bytes }

few_start : FewAnchors start_session.catalogue
unfolding start_session
few_start = record { nodes = omega arith; bindings = omega arith; collections = omega arith }

-- the session after a piece
unfoldable pub after_piece : Session → Memory → ℕ → Piece → Session
after_piece m p n q = (batch v1 m (sent_to p n q) (references q) (encode v1 q.patches)).next

-- the call that it takes
abbrev pub premise_call : Session → Memory → ℕ → Piece → LentCall
premise_call m p n q = record { result = applied_at n; written = half_of (after_piece m p n q); plan = no_plan }

whole_sent : LentSent v1 some_anchors memory 40 whole_piece (premise_call start_session memory 40 whole_piece)
unfolding opened_all after_piece start_session whole_piece puts_in takes_out patch_numbered piece references preflight_by
whole_sent = some_call v1 start_session few_start memory start_panel refl (sent_to memory 40 whole_piece) (references whole_piece) (encode v1 whole_piece.patches) refl refl refl refl

first_sent : LentSent v1 some_anchors memory 40 first_piece (premise_call start_session memory 40 first_piece)
unfolding opened_all after_piece start_session first_piece puts_in takes_out patch_numbered piece references preflight_by
first_sent = some_call v1 start_session few_start memory start_panel refl (sent_to memory 40 first_piece) (references first_piece) (encode v1 first_piece.patches) refl refl refl refl

unfoldable pub between_pieces : Session
between_pieces = after_piece start_session memory 40 first_piece

abbrev pub between_memory : Memory
between_memory = record { held = half_of between_pieces; other = half_of start_session; plan = no_plan }

between_panel : Panel some_anchors between_memory between_pieces
unfolding between_pieces after_piece
between_panel = lent_goes_on v1 (sent_to memory 40 first_piece) (references first_piece) (encode v1 first_piece.patches) some_anchors memory start_session start_panel (applied_at 40) (half_of between_pieces) no_plan first_sent

second_sent : LentSent v1 some_anchors between_memory 41 second_piece (premise_call between_pieces between_memory 41 second_piece)
unfolding opened_all between_pieces after_piece start_session first_piece second_piece puts_in takes_out patch_numbered piece references preflight_by
second_sent = some_call v1 between_pieces few_start between_memory between_panel refl (sent_to between_memory 41 second_piece) (references second_piece) (encode v1 second_piece.patches) refl refl refl refl

pub lent_premises_met : AllAppliedIn memory 40 (first_piece ∷ second_piece ∷ []) (premise_call start_session memory 40 whole_piece) (premise_call start_session memory 40 first_piece ∷ premise_call between_pieces between_memory 41 second_piece ∷ [])
unfolding is_rejected disposition_told between_pieces
lent_premises_met = lent_all_applied v1 some_anchors memory start_session start_panel 40 whole_piece (first_piece ∷ second_piece ∷ []) given _ whole_sent _ (first_sent, (second_sent, tt)) refl
