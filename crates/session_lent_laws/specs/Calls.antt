-- Batches sent to a session in lent memory one after the other, linked by the relation that the lent call promises: 01, 'Whole and pieces'. Beside
-- them the calls by value that they stand for.
use Rattle.std.specs.Prelude.{Some}
use Rattle.std.specs.Prelude.{ℕ, ◌+◌, ◌-◌, ◌≡◌, List, [], ◌∷◌, length, get_or}
use Rattle.spec_lists.specs.Lists.{All}
use Rattle.spec_patch.specs.Edition.{Edition}
use Rattle.spec_patch.specs.Encode.{encode}
use Rattle.spec_session.specs.Session.{at}
use Rattle.spec_splitting.specs.Splitting.{Piece, references, is_rejected}
use Rattle.panel_changes.specs.PlanMemory.{PlanTables}
use Rattle.session_steps.specs.declared.answers.ProjectionPatchApplicationDisposition.TheVariants.{Applied}
use Rattle.session_steps.specs.declared.answers.ProjectionPatchApplicationResult.{ProjectionPatchApplicationResult}
use Rattle.session_steps.specs.Answers.{disposition_told}
use Rattle.shell_player.specs.Batches.{batch_of}
use Rattle.shell_player.specs.declared.batch.ProjectionPatchBatch.{ProjectionPatchBatch}
use Rattle.session_splitting.specs.Calls.{UnlessRejected}
use Rattle.session_lent.specs.Head.{state_at}
use Rattle.session_lent.specs.Halves.{Anchors, Half}
use Rattle.session_lent_laws.specs.Memory.{Memory, LentBatchCall, exchanged, struct_in}

-- what a call answers, and what it leaves in the other half and in the plan's memory
pub record LentCall : Type 0 where
  pub result : ProjectionPatchApplicationResult
  pub written : Half
  pub plan : PlanTables

-- the memory after it
abbrev pub after_call : Memory → LentCall → Memory
after_call p c = exchanged c.result.disposition p.held c.written c.plan

-- a call with a piece: the id that the head tells, a sequence number, the true counts, the canonical bytes and their edition
abbrev pub LentSent : Edition → Anchors → Memory → ℕ → Piece → LentCall → Type 0
LentSent ed k p n q c =
    LentBatchCall ed (record { session = get_or p.held.head 0 0; sequence = n; patches = length q.patches; stimulus_bytes = q.stimulus_bytes }) (references q) (encode ed q.patches) k p (Some c.result) c.written c.plan

-- piece i, from 0, carries the number n + i; each goes to the memory just left, until one is refused
abbrev pub LentCalls : Edition → Anchors → Memory → ℕ → List Piece → List LentCall → Type 0
LentCalls ed k p n [] [] = Unit {0}
LentCalls ed k p n [] (c ∷ cs) = ⊥
LentCalls ed k p n (q ∷ qs) [] = ⊥
LentCalls ed k p n (q ∷ qs) (c ∷ cs) = LentSent ed k p n q c × UnlessRejected (is_rejected (disposition_told c.result.disposition)) cs (LentCalls ed k (after_call p c) (n + 1) qs cs)

-- the memory that was left last
unfoldable pub last_memory : Memory → List LentCall → Memory
last_memory p [] = p
last_memory p (c ∷ cs) = last_memory (after_call p c) cs

-- ---- the calls by value

-- the same answer, and the struct of the memory afterwards
abbrev pub as_batch : Anchors → Memory → LentCall → ProjectionPatchBatch
as_batch k p c = batch_of (struct_in k (after_call p c).held) c.result

unfoldable pub as_batches : Anchors → Memory → List LentCall → List ProjectionPatchBatch
as_batches k p [] = []
as_batches k p (c ∷ cs) = as_batch k p c ∷ as_batches k (after_call p c) cs

-- ---- what is claimed in the memory's own terms, where the whole applies

abbrev pub CallApplied : LentCall → Type 0
CallApplied c = c.result.disposition ≡ Applied

-- every piece applies; the tables end as the whole's, byte for byte, and the cursor is at the last piece's number
pub record AllAppliedIn (p : Memory) (n : ℕ) (pieces : List Piece) (whole : LentCall) (cs : List LentCall) : Type 0 where
  pub sent : length cs ≡ length pieces
  pub apply : All CallApplied cs
  pub bindings : (last_memory p cs).held.bindings ≡ whole.written.bindings
  pub availability : (last_memory p cs).held.availability ≡ whole.written.availability
  pub entries : (last_memory p cs).held.entries ≡ whole.written.entries
  pub lengths : (last_memory p cs).held.lengths ≡ whole.written.lengths
  pub cursor : (state_at (last_memory p cs).held.head).cursor ≡ at (n + (length pieces - 1))
