-- Pieces of a batch sent as a group end as the whole does.
use Prim.Native.Nat.{ℕ, suc, ◌+◌, ◌≤◌, ◌<◌}
use Rattle.std.proofs.Math.Path.{◌≡◌, refl, sym, ap, ap₂, subst}
use Rattle.std.proofs.Common.{◌∙◌, take_at}
use Rattle.std.specs.Prelude.{Bool, true, false, eqb, drop, if◌then◌else◌}
use mathlib.Core.List.{List, [], ◌∷◌, ◌++◌, flat_map}
use native.Mathlib.Omega.{arith}
use borrow.Author.Tests.{le-leb, eq-eqb}
use Rattle.std.proofs.Math.ListN.{length, length-append}
use Rattle.std.proofs.Math.Seq.{drop_at}
use Rattle.spec_lists.specs.Lists.{All}
use Rattle.spec_patch.specs.Patch.{Patch}
use Rattle.spec_patch.specs.Edition.{Edition}
use Rattle.spec_patch.specs.Encode.{encode}
use Rattle.spec_projection.specs.Projection.{Projection}
use Rattle.spec_projection.specs.Apply.{Outcome, done, stopped}
use Rattle.spec_session.specs.Session.{Session}
use Rattle.spec_session.specs.Lifecycle.{applied, rejected}
use Rattle.spec_session.specs.Batch.{BatchEnvelope, BatchAnswer, BatchStep, Check, pass, refuse, reject_batch, keep_session, advanced, apply_batch, candidate, commit, conclude_batch, batch_checks, batch}
use Rattle.spec_session.proofs.BatchLaws.{batch_unchanged, batch_applied}
use Rattle.spec_splitting.specs.Splitting.{Piece, piece_envelope, references, send, Run, is_rejected, continue, send_all, patches_of, Given, Applies, AlikeBeside, FailsAtOperation}
use Rattle.spec_splitting.proofs.Theorem.{whole_and_pieces}
use Rattle.spec_group.specs.Group.{group_batches, GroupBatch, total_bytes, is_group, send_first, taken, GroupStep}
use Rattle.spec_group.specs.Singly.{singly, WasTaken, EndsRefused, piece_batch, piece_batches, piece_sets, send_group, TakenAsWhole, RefusedAsWhole, GroupAsWhole}
use Rattle.spec_group.proofs.GroupLaws.{all_or_none}

-- ---- a batch keeps the session's id

batch_id : (ed : Edition) (s : Session) (e : BatchEnvelope) (references : ℕ) (set : List ℕ) → (batch ed s e references set).next.id ≡ s.id
unfolding batch conclude_batch commit reject_batch keep_session apply_batch advanced
batch_id ed s e references set = by_checks (batch_checks ed s e references set)
  where
    by_count : (t : Bool) (p : Projection) → (if t then keep_session s else apply_batch s e.sequence p).next.id ≡ s.id
    by_count true p = refl
    by_count false p = refl

    by_outcome : (x : Outcome) → (commit s e x).next.id ≡ s.id
    by_outcome (stopped f) = refl
    by_outcome (done p) = by_count (eqb e.patches 0) p

    by_checks : (c : Check (List Patch)) → (conclude_batch s e c).next.id ≡ s.id
    by_checks (refuse r n) = refl
    by_checks (pass ps) = by_outcome (candidate s ps)

-- ---- the pieces' group is the pieces' sending

module _ (ed : Edition) where
  -- batches made for a session are those of any that has its id
  batches_by_id : (s t : Session) → s.id ≡ t.id → (n : ℕ) (ps : List Piece) → piece_batches ed s n ps ≡ piece_batches ed t n ps
  unfolding piece_batches piece_batch piece_envelope
  batches_by_id s t e n [] = refl
  batches_by_id s t e n (p ∷ ps) =
      ap₂ (λ (i : ℕ) (bs : List GroupBatch). record { edition = ed; envelope = record { session = i; sequence = n; patches = length p.patches; stimulus_bytes = p.stimulus_bytes }; references = references p; bytes = length (encode ed p.patches) } ∷ bs) e (batches_by_id s t e (n + 1) ps)

  first_sent : (s : Session) (n : ℕ) (p : Piece) (ps : List Piece) → send_first s (piece_batch ed s n p) (encode ed p.patches ++ piece_sets ed ps) ≡ send ed s n p
  unfolding send_first piece_batch send
  first_sent s n p ps = rw (take_at (encode ed p.patches) (piece_sets ed ps) (length (encode ed p.patches)) refl)

  next_id : (s : Session) (n : ℕ) (p : Piece) → (send ed s n p).next.id ≡ s.id
  unfolding send
  next_id s n p = batch_id ed s (piece_envelope s n p) (references p) (encode ed p.patches)

  behind_first : (s : Session) (n : ℕ) (p : Piece) (rest : List ℕ) → drop (piece_batch ed s n p).bytes (encode ed p.patches ++ rest) ≡ rest
  unfolding piece_batch
  behind_first s n p rest = drop_at (encode ed p.patches) rest (length (encode ed p.patches)) refl

  singly_sent : (s : Session) (n : ℕ) (ps : List Piece) → singly s (piece_batches ed s n ps) (piece_sets ed ps) ≡ send_all ed s n ps
  unfolding singly piece_batches piece_sets send_all flat_map
  singly_sent s n [] = refl
  singly_sent s n (p ∷ ps) =
      let rest = piece_sets ed ps in
      let next = (send ed s n p).next in
      ap₂ (λ (b : BatchStep) (l : List ℕ). continue b (singly b.next (piece_batches ed s (n + 1) ps) l)) (first_sent s n p ps) (behind_first s n p rest)
      ∙ ap (λ (bs : List GroupBatch). continue (send ed s n p) (singly next bs rest)) (batches_by_id s next (sym (next_id s n p)) (n + 1) ps)
      ∙ ap (continue (send ed s n p)) (singly_sent next (n + 1) ps)

  -- ---- their lengths add up

  total_pieces : (s : Session) (n : ℕ) (ps : List Piece) → total_bytes (piece_batches ed s n ps) ≡ length (piece_sets ed ps)
  unfolding total_bytes piece_batches piece_batch piece_sets flat_map
  total_pieces s n [] = refl
  total_pieces s n (p ∷ ps) = omega (arith, total_pieces s (n + 1) ps, length-append (encode ed p.patches) (piece_sets ed ps))

  count_pieces : (s : Session) (n : ℕ) (ps : List Piece) → length (piece_batches ed s n ps) ≡ length ps
  unfolding piece_batches
  count_pieces s n [] = refl
  count_pieces s n (p ∷ ps) = ap suc (count_pieces s (n + 1) ps)

  pieces_group : (s : Session) (n : ℕ) (ps : List Piece) → 0 < length ps → length ps ≤ group_batches → is_group (piece_batches ed s n ps) (piece_sets ed ps) ≡ true
  unfolding is_group
  pieces_group s n ps some few =
      rw (count_pieces s n ps, le-leb 1 (length ps) (omega (arith, some)), le-leb (length ps) group_batches few, eq-eqb (total_bytes (piece_batches ed s n ps)) (length (piece_sets ed ps)) (total_pieces s n ps))

-- ---- the claim

taken_of_applied : (l : List BatchAnswer) → All Applies l → All WasTaken l
unfolding is_rejected
taken_of_applied [] h = tt
taken_of_applied (a ∷ l) h = (ap is_rejected h.0, taken_of_applied l h.1)

module _ (ed : Edition) (s : Session) (n : ℕ) (whole : Piece) (pieces : List Piece) (given : Given s n whole pieces) (few : length pieces ≤ group_batches) where
  sent : singly s (piece_batches ed s n pieces) (piece_sets ed pieces) ≡ send_all ed s n pieces
  sent = singly_sent ed s n pieces

  -- a list without patches is not applied, so there is a piece
  some_applied : Applies (send ed s n whole).answer → 0 < length pieces
  unfolding send piece_envelope patches_of flat_map
  some_applied a = by_pieces pieces given.cut
    where
      by_pieces : (ps : List Piece) → patches_of ps ≡ whole.patches → 0 < length ps
      by_pieces [] e = absurd ((batch_applied ed s (piece_envelope s n whole) (references whole) (encode ed whole.patches) a).non_empty (ap length (sym e)))
      by_pieces (p ∷ ps) e = omega arith

  taken_as_whole : Applies (send ed s n whole).answer → TakenAsWhole ed s n whole pieces
  unfolding send_group
  taken_as_whole a =
      let w = (whole_and_pieces ed s n whole pieces given).applies a in
      let g = pieces_group ed s n pieces (some_applied a) few in
      let step = (all_or_none s (piece_batches ed s n pieces) (piece_sets ed pieces) g).all (subst (λ (r : Run). All WasTaken r.answers) (sym sent) (taken_of_applied (send_all ed s n pieces).answers w.apply)) in
      let last : (send_group ed s n pieces).next ≡ (send_all ed s n pieces).last = ap (λ (x : GroupStep). x.next) step ∙ ap (λ (r : Run). r.last) sent in
      record {
        answer = ap (λ (x : GroupStep). x.answer) step
            ∙ ap₂ taken (count_pieces ed s n pieces) (ap (λ (r : Run). r.last.cursor) sent ∙ w.cursor);
        projection = ap (λ (t : Session). t.projection) last ∙ w.projection;
        beside = subst (λ (t : Session). AlikeBeside t (send ed s n whole).next) (sym last) w.beside;
      }

  some_failed : FailsAtOperation ed s n whole → 0 < length pieces
  some_failed f =
      let stop = (whole_and_pieces ed s n whole pieces given).fails f in
      omega (arith, ap length stop.parts, length-append stop.before (stop.piece ∷ stop.after))

  -- the single calls end with the refusal of the failing operation's piece
  ends_refused : (f : FailsAtOperation ed s n whole) → EndsRefused (singly s (piece_batches ed s n pieces) (piece_sets ed pieces))
  unfolding is_rejected
  ends_refused f =
      let stop = (whole_and_pieces ed s n whole pieces given).fails f in
      record {
        firsts = stop.firsts;
        refusal = stop.refusal;
        answers = ap (λ (r : Run). r.answers) sent ∙ stop.answers;
        rejected = ap is_rejected stop.refused;
      }

  not_applied : (f : FailsAtOperation ed s n whole) → Applies (send ed s n whole).answer → ⊥
  unfolding send batch conclude_batch candidate commit reject_batch
  not_applied f a =
      let one : rejected ≡ applied = sym (rw (f.passes, f.fails)) ∙ a in
      absurd (let z : ◌≡◌ {A = ℕ} 0 1 = cc in omega arith)

  whole_unchanged : FailsAtOperation ed s n whole → (send ed s n whole).next ≡ s
  unfolding send
  whole_unchanged f = batch_unchanged ed s (piece_envelope s n whole) (references whole) (encode ed whole.patches) (not_applied f)

  refused_as_whole : FailsAtOperation ed s n whole → RefusedAsWhole ed s n whole pieces
  unfolding send_group ends_refused
  refused_as_whole f =
      let stop = (whole_and_pieces ed s n whole pieces given).fails f in
      let g = pieces_group ed s n pieces (some_failed f) few in
      let step = (all_or_none s (piece_batches ed s n pieces) (piece_sets ed pieces) g).none (ends_refused f) in
      record {
        place = length stop.firsts;
        refusal = stop.refusal;
        answer = ap (λ (x : GroupStep). x.answer) step;
        alike = stop.alike;
        kept = ap (λ (x : GroupStep). x.next) step;
        whole_kept = whole_unchanged f;
      }

  pub group_as_whole : GroupAsWhole ed s n whole pieces
  group_as_whole = record { applies = taken_as_whole; fails = refused_as_whole }
