-- The checks find exactly what the rules say: of one patch, of two neighbours, and of a set.
use Rattle.std.specs.Prelude.{ℕ, ◌≡◌, true, not, ◌&&◌, ◌↔◌, ◌≢◌}
use Rattle.std.proofs.Math.Path.{refl, sym, ap, subst}
use Rattle.std.proofs.Common.{◌∙◌, arith}
use Rattle.std.proofs.lemmas.Bool.{false≢true}
use mathlib.Core.List.{List, [], ◌∷◌, ◌++◌, append_assoc, reverse, reverse-append, reverse-reverse, reverse-cons}
use mathlib.Core.List.{Memᴰ}
use Rattle.std.proofs.Math.Logic.{⊎_elim}
use Rattle.std.proofs.Math.Option.{none, some}
use borrow.Author.Tests.{leb-true, le-leb, eqb-true, eqb-false, eq-eqb, ne_eqb, not-true}
use Rattle.std.proofs.Math.Dec.{eqb}
use Rattle.std.proofs.lemmas.List.{length-reverse}
use Rattle.spec_lists.specs.Lists.{is_empty}
use Rattle.spec_lists.proofs.ListLaws.{if_cases, and_left, and_right, is_empty_true, any_member, member_any, reverse_member, member_reverse}
use Rattle.spec_patch.specs.Patch.{Operation, set_binding, set_availability, insert, update, remove, move, Envelope, Patch}
use Rattle.spec_checks.specs.Finding.{Finding, finding, check_each, collection_before_self, duplicate_mutation_target}
use Rattle.spec_checks.proofs.FindingLaws.{report_member, report_cases, report_here, report_there, check_each_member, member_check_each}
use Rattle.spec_checks.specs.Target.{MutationTarget, mutation_target, same_target}
use Rattle.spec_checks.specs.PatchChecks.{is_self, before_self_lem, operation_findings, envelope_findings, raw_patch_findings}
use Rattle.spec_checks.specs.SetChecks.{is_last_sequence, is_same_sequence, is_next_sequence, sequence_findings, pair_findings, duplicate_id_findings, previous_findings, after_findings, raw_set_findings}
use Rattle.spec_checks.specs.Rules.{BeforeSelf, inserted, moved, PatchFinding, before_self_at, repeated_at, no_operations, not_above, no_id, no_stream, PairFinding, other_document, other_epoch, other_stream, overflow, same_sequence, out_of_order, broken_chain, SetFinding, same_id, neighbours}

-- ---- one patch

before_self_true : (o : Operation) → before_self_lem o ≡ true → BeforeSelf o
unfolding before_self_lem is_self
before_self_true (set_binding node slot v) h = absurd (false≢true h)
before_self_true (set_availability node a) h = absurd (false≢true h)
before_self_true (insert collection key none v) h = absurd (false≢true h)
before_self_true (insert collection key (some before) v) h = inserted collection key v (ap (λ b. insert collection key (some b) v) (sym (eqb-true key before h)))
before_self_true (update collection key v) h = absurd (false≢true h)
before_self_true (remove collection key) h = absurd (false≢true h)
before_self_true (move collection key none) h = absurd (false≢true h)
before_self_true (move collection key (some before)) h = moved collection key (ap (λ b. move collection key (some b)) (sym (eqb-true key before h)))

true_before_self : (o : Operation) → BeforeSelf o → before_self_lem o ≡ true
unfolding before_self_lem is_self
true_before_self o (inserted collection key v e) = ap before_self_lem e ∙ eq-eqb key key refl
true_before_self o (moved collection key e) = ap before_self_lem e ∙ eq-eqb key key refl

pub same_target_true : (o u : Operation) → same_target o u ≡ true → mutation_target u ≡ mutation_target o
unfolding same_target
same_target_true o u h = path (mutation_target o) (mutation_target u) h
  where
    path : (a b : MutationTarget) → (eqb a.kind b.kind && (eqb a.first b.first && eqb a.second b.second)) ≡ true → b ≡ a
    path a b h =
        let ids = and_right (eqb a.kind b.kind) _ h in
        let kinds = sym (eqb-true _ _ (and_left (eqb a.kind b.kind) _ h)) in
        let firsts = sym (eqb-true _ _ (and_left (eqb a.first b.first) _ ids)) in
        let seconds = sym (eqb-true _ _ (and_right (eqb a.first b.first) _ ids)) in
        λ i. record { kind = kinds i; first = firsts i; second = seconds i }

pub true_same_target : (o u : Operation) → mutation_target u ≡ mutation_target o → same_target o u ≡ true
unfolding same_target
true_same_target o u e = rw (e, eq-eqb (mutation_target o).kind _ refl, eq-eqb (mutation_target o).first _ refl, eq-eqb (mutation_target o).second _ refl)

module _ (p : Patch) (f : Finding) where
  operation_to : (a : List Operation) (o : Operation) (b : List Operation) → p.operations ≡ a ++ (o ∷ b) → Memᴰ f (operation_findings p.envelope.id (reverse a) o) → PatchFinding p f
  unfolding operation_findings
  operation_to a o b e = report_cases _ _ _ f (λ t h. before_self_at a o b e (before_self_true o t) (h ∙ ap (finding collection_before_self p.envelope.id) (length-reverse a))) λ m.
      let h = (report_member _ _ _).0 m in
      let w = any_member (same_target o) (reverse a) h.0 in
      repeated_at a o b e w.0 (reverse_member a w.1) (same_target_true o w.0 w.2) (h.1 ∙ ap (finding duplicate_mutation_target p.envelope.id) (length-reverse a))

  operations_to : Memᴰ f (check_each (operation_findings p.envelope.id) [] p.operations) → PatchFinding p f
  operations_to m = let s = check_each_member (operation_findings p.envelope.id) [] p.operations f m in operation_to s.0 s.1 s.2 s.3 s.4

  envelope_to : Memᴰ f (envelope_findings p.envelope) → PatchFinding p f
  unfolding envelope_findings
  envelope_to = report_cases _ _ _ f (λ t h. not_above (leb-true _ _ t) h) (report_cases _ _ _ f (λ t h. no_id (eqb-true _ _ t) h) λ m.
      let h = (report_member _ _ _).0 m in no_stream (eqb-true _ _ h.0) h.1)

  patch_to : Memᴰ f (raw_patch_findings p) → PatchFinding p f
  unfolding raw_patch_findings
  patch_to = report_cases _ _ _ f (λ t h. no_operations (is_empty_true p.operations t) h) λ m. ⊎_elim envelope_to operations_to (mathlib.Core.List.Memᴰ.append_cases (envelope_findings p.envelope) m)

  operation_from : (a : List Operation) (o : Operation) (b : List Operation) → p.operations ≡ a ++ (o ∷ b) → Memᴰ f (operation_findings p.envelope.id (reverse a) o) → Memᴰ f (raw_patch_findings p)
  unfolding raw_patch_findings
  operation_from a o b e m =
      let each = operation_findings p.envelope.id in
      report_there _ _ _ f (mathlib.Core.List.Memᴰ.append_right (envelope_findings p.envelope) (subst (λ l. Memᴰ f (check_each each [] l)) (sym e) (member_check_each each [] a o b f m)))

  envelope_from : Memᴰ f (envelope_findings p.envelope) → Memᴰ f (raw_patch_findings p)
  unfolding raw_patch_findings
  envelope_from m = report_there _ _ _ f (mathlib.Core.List.Memᴰ.append_left _ m)

  patch_from : PatchFinding p f → Memᴰ f (raw_patch_findings p)
  unfolding raw_patch_findings envelope_findings operation_findings
  patch_from (before_self_at a o b e s h) = operation_from a o b e (report_here _ _ _ f (true_before_self o s) (h ∙ ap (finding collection_before_self p.envelope.id) (sym (length-reverse a))))
  patch_from (repeated_at a o b e u m t h) =
      let repeats = member_any (same_target o) (reverse a) (member_reverse a m) (true_same_target o u t) in
      operation_from a o b e (report_there _ _ _ f ((report_member _ _ _).1 (repeats, h ∙ ap (finding duplicate_mutation_target p.envelope.id) (sym (length-reverse a)))))
  patch_from (no_operations e h) = report_here _ _ _ f (ap is_empty e) h
  patch_from (not_above l h) = envelope_from (report_here _ _ _ f (le-leb _ _ l) h)
  patch_from (no_id e h) = envelope_from (report_there _ _ _ f (report_here _ _ _ f (eq-eqb _ _ e) h))
  patch_from (no_stream e h) = envelope_from (report_there _ _ _ f (report_there _ _ _ f ((report_member _ _ _).1 (eq-eqb _ _ e, h))))

  -- one patch: kinds 2, 3, 6, 10, 13 and 14
  pub patch_rule : Memᴰ f (raw_patch_findings p) ↔ PatchFinding p f
  patch_rule = (patch_to, patch_from)

-- ---- two neighbours

module _ (q e : Envelope) (f : Finding) where
  sequence_to : Memᴰ f (sequence_findings q e) → PairFinding q e f
  unfolding sequence_findings is_last_sequence is_same_sequence is_next_sequence
  sequence_to =
      if_cases (λ l. Memᴰ f l → PairFinding q e f) _ _ _ (λ t m. overflow (eqb-true _ _ t) (mathlib.Core.List.Memᴰ.eq_of_singleton m)) λ n.
      if_cases (λ l. Memᴰ f l → PairFinding q e f) _ _ _ (λ t m. same_sequence (eqb-false _ _ n) (eqb-true _ _ t) (mathlib.Core.List.Memᴰ.eq_of_singleton m)) λ k.
      if_cases (λ l. Memᴰ f l → PairFinding q e f) _ _ _ (λ t m. let h = (report_member _ _ _).0 m in broken_chain (eqb-false _ _ n) (eqb-true _ _ t) (eqb-false _ _ (not-true _ h.0)) h.1) λ l m.
      out_of_order (eqb-false _ _ n) (eqb-false _ _ k) (eqb-false _ _ l) (mathlib.Core.List.Memᴰ.eq_of_singleton m)

  pair_to : Memᴰ f (pair_findings q e) → PairFinding q e f
  unfolding pair_findings
  pair_to = report_cases _ _ _ f (λ t h. other_document (eqb-false _ _ (not-true _ t)) h)
      (report_cases _ _ _ f (λ t h. other_epoch (eqb-false _ _ (not-true _ t)) h)
      (report_cases _ _ _ f (λ t h. other_stream (eqb-false _ _ (not-true _ t)) h) sequence_to))

  differs : (a b : ℕ) → a ≢ b → not (eqb a b) ≡ true
  differs a b n = ap not (ne_eqb a b n)

  sequence_from : Memᴰ f (sequence_findings q e) → Memᴰ f (pair_findings q e)
  unfolding pair_findings
  sequence_from m = report_there _ _ _ f (report_there _ _ _ f (report_there _ _ _ f m))

  pair_from : PairFinding q e f → Memᴰ f (pair_findings q e)
  unfolding pair_findings sequence_findings is_last_sequence is_same_sequence is_next_sequence
  pair_from (other_document n h) = report_here _ _ _ f (differs _ _ n) h
  pair_from (other_epoch n h) = report_there _ _ _ f (report_here _ _ _ f (differs _ _ n) h)
  pair_from (other_stream n h) = report_there _ _ _ f (report_there _ _ _ f (report_here _ _ _ f (differs _ _ n) h))
  pair_from (overflow s h) = sequence_from (rw (eq-eqb _ _ s) (mathlib.Core.List.Memᴰ.head h))
  pair_from (same_sequence n s h) = sequence_from (rw (ne_eqb _ _ n, eq-eqb _ _ s) (mathlib.Core.List.Memᴰ.head h))
  pair_from (out_of_order n k l h) = sequence_from (rw (ne_eqb _ _ n, ne_eqb _ _ k, ne_eqb _ _ l) (mathlib.Core.List.Memᴰ.head h))
  pair_from (broken_chain n s l h) = sequence_from (rw (ne_eqb _ _ n, ne_eqb e.sequence q.sequence (omega arith), eq-eqb _ _ s) ((report_member _ _ _).1 (differs _ _ l, h)))

  -- a patch and the one just before it: kinds 1, 5, 7, 8, 9, 11 and 12
  pub pair_rule : Memᴰ f (pair_findings q e) ↔ PairFinding q e f
  pair_rule = (pair_to, pair_from)

-- ---- a set

module _ (ps : List Patch) (f : Finding) where
  previous_to : (a : List Patch) (p : Patch) (b : List Patch) → ps ≡ a ++ (p ∷ b) → Memᴰ f (previous_findings (reverse a) p) → SetFinding ps f
  unfolding previous_findings
  previous_to a p b e m = go (reverse a) refl m
    where
      go : (r : List Patch) → reverse a ≡ r → Memᴰ f (previous_findings r p) → SetFinding ps f
      go [] h m = absurd (mathlib.Core.List.Memᴰ.not-nil m)
      go (q ∷ r) h m =
          let front : a ≡ reverse r ++ (q ∷ []) = sym (reverse-reverse a) ∙ ap reverse h ∙ reverse-cons q r in
          neighbours (reverse r) q p b (e ∙ ap (λ l. l ++ (p ∷ b)) front ∙ append_assoc (reverse r) (q ∷ []) (p ∷ b)) (pair_to q.envelope p.envelope f m)

  set_to : Memᴰ f (raw_set_findings ps) → SetFinding ps f
  unfolding raw_set_findings after_findings duplicate_id_findings
  set_to m =
      let s = check_each_member after_findings [] ps f m in
      let p = s.1 in
      report_cases _ _ _ f (λ t h.
      let w = any_member (λ (q : Patch). eqb q.envelope.id p.envelope.id) (reverse s.0) t in
      same_id s.0 p s.2 s.3 w.0 (reverse_member s.0 w.1) (eqb-true _ _ w.2) h)
      (previous_to s.0 p s.2 s.3) s.4

  after_from : (a : List Patch) (p : Patch) (b : List Patch) → ps ≡ a ++ (p ∷ b) → Memᴰ f (after_findings (reverse a) p) → Memᴰ f (raw_set_findings ps)
  unfolding raw_set_findings
  after_from a p b e m = subst (λ l. Memᴰ f (check_each after_findings [] l)) (sym e) (member_check_each after_findings [] a p b f m)

  set_from : SetFinding ps f → Memᴰ f (raw_set_findings ps)
  unfolding after_findings duplicate_id_findings previous_findings
  set_from (same_id a p b e q m i h) =
      let repeats = member_any (λ (u : Patch). eqb u.envelope.id p.envelope.id) (reverse a) (member_reverse a m) (eq-eqb _ _ i) in
      after_from a p b e (report_here _ _ _ f repeats h)
  set_from (neighbours a q p b e r) =
      let front : reverse (a ++ (q ∷ [])) ≡ q ∷ reverse a = reverse-append a (q ∷ []) in
      let here : Memᴰ f (after_findings (q ∷ reverse a) p) = report_there _ _ _ f (pair_from q.envelope p.envelope f r) in
      after_from (a ++ (q ∷ [])) p b (e ∙ sym (append_assoc a (q ∷ []) (p ∷ b))) (subst (λ l. Memᴰ f (after_findings l p)) (sym front) here)

  -- a set: kind 4, and the findings of neighbours
  pub set_rule : Memᴰ f (raw_set_findings ps) ↔ SetFinding ps f
  set_rule = (set_to, set_from)
