-- The theorem on split batches: 01, 'Whole and pieces', over every session, sequence number, patch list and list of pieces cut from it.
use Prim.Native.Nat.{ℕ, zero, suc, ◌+◌, ◌-◌, ◌<◌}
use Rattle.std.specs.Prelude.{◌≡◌, refl, length}
use Rattle.std.proofs.Common.{sym, ◌∙◌, arith, ne_eqb, length-append}
use Rattle.std.proofs.Math.Path.{ap}
use mathlib.Core.List.{List, [], ◌∷◌, ◌++◌, flat_map}
use Rattle.spec_lists.specs.Lists.{All}
use Rattle.spec_lists.proofs.ListLaws.{or_second}
use Rattle.spec_patch.specs.Edition.{Edition}
use Rattle.spec_patch.specs.Encode.{encode}
use Rattle.spec_projection.specs.Projection.{Projection}
use Rattle.spec_projection.specs.Apply.{OperationFault, Outcome, done, stopped, replay_steps, apply_steps}
use Rattle.spec_projection.proofs.ApplyLaws.{stopped_not_done, failure}
use Rattle.spec_session.specs.Session.{Cursor, at, Session}
use Rattle.spec_session.specs.Diagnostics.{of_operation, diagnostics_of}
use Rattle.spec_session.specs.Batch.{reject_batch, advanced, apply_batch, candidate, commit, conclude_batch, batch}
use Rattle.spec_session.proofs.BatchLaws.{Applied, batch_applied}
use Rattle.spec_splitting.specs.Splitting.{Piece, piece_envelope, references, send, send_all, patches_of, Given, Applies, AllApply, FailsAtOperation, cursor_after, StopsAtPiece, WholeAndPieces}
use Rattle.spec_splitting.proofs.Passing.{Passes, passes_of_checks}
use Rattle.spec_splitting.proofs.Runs.{Ready, ready_passes, ready_next, goes_on, stops, ran_on, first_place, later_place, cursor_next, send_done, send_stopped, send_all_done, send_all_stopped, beside_refl, beside_advanced, run_applies}

-- ---- one piece is refused

-- the same claim for the list of pieces itself, with the steps of their patches
module _ (ed : Edition) (p : Piece) (ps : List Piece) (s : Session) (n : ℕ) (f : OperationFault) (r : Ready ed s n (p ∷ ps)) where
  -- the failing step is one of the first piece
  stops_first : apply_steps s.projection (replay_steps p.patches) ≡ stopped f → (whole : Piece) → whole.patches ≡ patches_of (p ∷ ps)
      → StopsAtPiece s n whole f (diagnostics_of s.limits.diagnostics (of_operation f) 1) (p ∷ ps) (send_all ed s n (p ∷ ps))
  unfolding patches_of flat_map replay_steps apply_steps reject_batch cursor_after
  stops_first g whole cut =
      let w = failure s.projection (replay_steps p.patches) f g in
      rw (send_all_stopped ed s n p ps f (send_stopped ed s n p f (ready_passes ed s n p ps r) g))
      (record {
        before = [];
        piece = p;
        after = ps;
        parts = refl;
        operation = record {
          own_before = w.earlier;
          step = w.step;
          own_after = w.later;
          in_piece = w.parts;
          rest = w.later ++ replay_steps (patches_of ps);
          in_whole = ap replay_steps cut ∙ first_place p.patches (patches_of ps) w.earlier w.step w.later w.parts;
          reached = w.reached;
          ran = w.ran;
          fails = w.fails;
        };
        firsts = [];
        refusal = (reject_batch s (of_operation f) 1).answer;
        answers = refl;
        sent = refl;
        apply = tt;
        refused = refl;
        alike = refl;
        beside = beside_refl s;
        projection = refl;
        cursor = refl;
      })

  -- it is one of a later piece
  stops_later : (q : Projection) → apply_steps s.projection (replay_steps p.patches) ≡ done q
      → (later : Piece) → later.patches ≡ patches_of ps
      → StopsAtPiece (advanced s n q) (n + 1) later f (diagnostics_of s.limits.diagnostics (of_operation f) 1) ps (send_all ed (advanced s n q) (n + 1) ps)
      → (whole : Piece) → whole.patches ≡ patches_of (p ∷ ps)
      → StopsAtPiece s n whole f (diagnostics_of s.limits.diagnostics (of_operation f) 1) (p ∷ ps) (send_all ed s n (p ∷ ps))
  unfolding patches_of flat_map apply_batch advanced cursor_after
  stops_later q g later cutLater w whole cut =
      let o = w.operation in
      rw (send_all_done ed s n p ps q (send_done ed s n p q (ready_passes ed s n p ps r) r.non_empty.0 g))
      (record {
        before = p ∷ w.before;
        piece = w.piece;
        after = w.after;
        parts = ap (λ l. p ∷ l) w.parts;
        operation = record {
          own_before = o.own_before;
          step = o.step;
          own_after = o.own_after;
          in_piece = o.in_piece;
          rest = o.rest;
          in_whole = ap replay_steps cut ∙ later_place p.patches (patches_of ps) (patches_of w.before) o.own_before o.step o.rest (ap replay_steps (sym cutLater) ∙ o.in_whole);
          reached = o.reached;
          ran = ran_on s.projection p.patches (patches_of w.before) q o.own_before g ∙ o.ran;
          fails = o.fails;
        };
        firsts = (apply_batch s n q).answer ∷ w.firsts;
        refusal = w.refusal;
        answers = ap (λ l. (apply_batch s n q).answer ∷ l) w.answers;
        sent = ap suc w.sent;
        apply = (refl, w.apply);
        refused = w.refused;
        alike = w.alike;
        beside = beside_advanced _ s n q w.beside;
        projection = goes_on s.projection p.patches (patches_of w.before) q g ∙ w.projection;
        cursor = w.cursor ∙ cursor_next s.cursor n (length w.before);
      })

-- a batch of all the pieces' patches
together : List Piece → Piece
together ps = record { patches = patches_of ps; stimulus_bytes = 0 }

run_stops : (ed : Edition) (pieces : List Piece) (s : Session) (n : ℕ) (f : OperationFault) → Ready ed s n pieces
    → apply_steps s.projection (replay_steps (patches_of pieces)) ≡ stopped f → (whole : Piece) → whole.patches ≡ patches_of pieces
    → StopsAtPiece s n whole f (diagnostics_of s.limits.diagnostics (of_operation f) 1) pieces (send_all ed s n pieces)
unfolding patches_of flat_map replay_steps apply_steps together advanced
run_stops ed [] s n f r e whole cut = absurd (stopped_not_done (sym e))
run_stops ed (p ∷ ps) s n f r e whole cut = go (apply_steps s.projection (replay_steps p.patches)) refl
    (λ q g. run_stops ed ps (advanced s n q) (n + 1) f (ready_next ed s n p ps q r) (sym (goes_on s.projection p.patches (patches_of ps) q g) ∙ e) (together ps) refl)
  where
    same_fault : (x y : OperationFault) → stopped x ≡ stopped y → x ≡ y
    same_fault x y e = cc

    go : (x : Outcome) → apply_steps s.projection (replay_steps p.patches) ≡ x
        → ((q : Projection) → apply_steps s.projection (replay_steps p.patches) ≡ done q
        → StopsAtPiece (advanced s n q) (n + 1) (together ps) f (diagnostics_of s.limits.diagnostics (of_operation f) 1) ps (send_all ed (advanced s n q) (n + 1) ps))
        → StopsAtPiece s n whole f (diagnostics_of s.limits.diagnostics (of_operation f) 1) (p ∷ ps) (send_all ed s n (p ∷ ps))
    go (stopped i) g ih =
        let same : i ≡ f = same_fault i f (sym (stops s.projection p.patches (patches_of ps) i g) ∙ e) in
        stops_first ed p ps s n f r (g ∙ ap stopped same) whole cut
    go (done q) g ih = stops_later ed p ps s n f r q g (together ps) refl (ih q g) whole cut

-- ---- the theorem

patches_length : (pieces : List Piece) → 0 < length pieces → All (λ (p : Piece). 0 < length p.patches) pieces → 0 < length (patches_of pieces)
unfolding patches_of flat_map
patches_length [] k h = k
patches_length (p ∷ ps) k h = omega (arith, h.0, length-append p.patches (patches_of ps))

some_pieces : (pieces : List Piece) → 0 < length (patches_of pieces) → 0 < length pieces
unfolding patches_of flat_map
some_pieces [] h = h
some_pieces (p ∷ ps) h = omega arith

cursor_last : (c : Cursor) (n k : ℕ) → 0 < k → cursor_after c n k ≡ at (n + (k - 1))
unfolding cursor_after
cursor_last c n zero h = absurd (omega arith)
cursor_last c n (suc k) h = ap at (omega arith)

-- the session is ready for the pieces, if the whole passes steps 1 to 8
ready : (ed : Edition) (s : Session) (n : ℕ) (whole : Piece) (pieces : List Piece) → Given s n whole pieces → Passes ed s n whole → Ready ed s n pieces
ready ed s n whole pieces g h = record {
  acceptable = rw g.cut h.acceptable;
  is_open = h.is_open;
  non_empty = g.non_empty;
  figures = g.figures;
  number = λ k. or_second _ _ h.number (ne_eqb (length whole.patches) 0 (λ z. omega (arith, patches_length pieces k g.non_empty, ap length g.cut)));
  numbers = g.numbers;
}

-- a piece that applied is a batch that was applied
send_applied : (ed : Edition) (s : Session) (n : ℕ) (p : Piece) → Applies (send ed s n p).answer → Applied ed s (piece_envelope s n p) (references p) (encode ed p.patches)
unfolding send
send_applied ed s n p a = batch_applied ed s (piece_envelope s n p) (references p) (encode ed p.patches) a

pos_of_ne : {k : ℕ} → (k ≡ 0 → ⊥) → 0 < k
pos_of_ne {k = zero} h = absurd (h refl)
pos_of_ne {k = suc k} h = omega arith

all_apply : (ed : Edition) (s : Session) (n : ℕ) (whole : Piece) (pieces : List Piece) → Given s n whole pieces
    → Applies (send ed s n whole).answer → AllApply n (send ed s n whole) pieces (send_all ed s n pieces)
unfolding apply_batch advanced send piece_envelope
all_apply ed s n whole pieces g a =
    let i = send_applied ed s n whole a in
    let h = passes_of_checks ed s n whole i.patches g.in_range i.passes in
    let e : apply_steps s.projection (replay_steps (patches_of pieces)) ≡ done i.result = ap (λ ps. apply_steps s.projection (replay_steps ps)) (g.cut ∙ sym h.1) ∙ i.runs in
    let w = run_applies ed pieces s n i.result (ready ed s n whole pieces g h.0) e in
    rw i.step
    (record {
      sent = w.sent;
      apply = w.apply;
      beside = record { id = w.beside.id; limits = w.beside.limits; catalogue = w.beside.catalogue; lifecycle = w.beside.lifecycle };
      projection = w.projection;
      cursor = w.cursor ∙ cursor_last s.cursor n (length pieces) (some_pieces pieces (rw g.cut (pos_of_ne i.non_empty)));
    })

stop_there : (ed : Edition) (s : Session) (n : ℕ) (whole : Piece) (pieces : List Piece) → Given s n whole pieces
    → (f : FailsAtOperation ed s n whole) → StopsAtPiece s n whole f.fault (send ed s n whole).answer.diagnostics pieces (send_all ed s n pieces)
unfolding send batch conclude_batch candidate commit reject_batch
stop_there ed s n whole pieces g f =
    let h = passes_of_checks ed s n whole f.patches g.in_range f.passes in
    let e : apply_steps s.projection (replay_steps (patches_of pieces)) ≡ stopped f.fault = ap (λ ps. apply_steps s.projection (replay_steps ps)) (g.cut ∙ sym h.1) ∙ f.fails in
    let d : (send ed s n whole).answer.diagnostics ≡ diagnostics_of s.limits.diagnostics (of_operation f.fault) 1 = rw (f.passes, f.fails) in
    rw d (run_stops ed pieces s n f.fault (ready ed s n whole pieces g h.0) e whole (sym g.cut))

pub whole_and_pieces : (ed : Edition) (s : Session) (n : ℕ) (whole : Piece) (pieces : List Piece) → Given s n whole pieces → WholeAndPieces ed s n whole pieces
whole_and_pieces ed s n whole pieces g = record { applies = all_apply ed s n whole pieces g; fails = stop_there ed s n whole pieces g }
