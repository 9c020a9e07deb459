-- `apply_shaped` meets its contract: steps 1 to 8 on what the head tells, then step 9.
use mathlib.Core.Path.{◌≡◌, refl, sym, ap, ◌∙◌}
use mathlib.Core.Bool.{false≢true}
use borrow.Author.Tests.{eq-eqb, eqb-true}
use Rattle.spec_session.specs.Batch.{candidate}
use Rattle.spec_session.proofs.BatchLaws.{never_passes}
use Rattle.session_gates.specs.Gates.{gate_of, check_counted}
use Rattle.session_steps.specs.Answers.{rejected_row, unchanged_row}
use Rattle.session_steps.specs.AnswersLaws.{same_rejection, change_row}
use Rattle.session_lent.specs.BatchesLaws.{held_tables, kept_change, row_told, preflight_told, lent_seen, lent_commits_none, commits, lent_batch_rejects, lent_batch_commits, passed_reads}
use borrow.Author.Rules.{rules}
use Rattle.session_lent.proofs.batch.apply_shaped.Goals as goal

pub returns-in-Err : goal.returns-in-Err
unfolding gate_of check_counted
returns-in-Err c =
    let gate = ap gate_of (sym c.in-Err.is) in
    record {
      called = record {
        became = λ m l h room clear. lent_batch_rejects c.args.head.now c.args.nodes.now c.args.pairs.now c.args.collections.now c.args.bindings.now c.args.availability.now c.args.entries.now c.limits_in-limits.result c.state_in-state.result c.limits_in-limits.ensures c.state_in-state.ensures m l h _ _ _ _ _ _ _ _ _ _ _ _ (gate ∙ c.check_batch-gate.ensures.checked m (lent_seen c.args.head.now c.args.nodes.now c.args.pairs.now c.args.collections.now c.args.bindings.now c.args.availability.now c.args.entries.now c.limits_in-limits.result c.state_in-state.result c.limits_in-limits.ensures c.state_in-state.ensures m l h)) c.rejected.ensures;
        kept = λ n. (refl, (refl, (refl, (refl, refl))));
        row = row_told c.args.head.now c.args.nodes.now c.args.pairs.now c.args.collections.now c.args.bindings.now c.args.availability.now c.args.entries.now c.limits_in-limits.result c.state_in-state.result c.limits_in-limits.ensures c.state_in-state.ensures _ _ (rejected_row _ _ (ap check_counted gate ∙ c.check_batch-gate.ensures.whatever) c.rejected.ensures);
        preflight = preflight_told c.args.head.now c.args.nodes.now c.args.pairs.now c.args.collections.now c.args.bindings.now c.args.availability.now c.args.entries.now c.limits_in-limits.result c.state_in-state.result c.limits_in-limits.ensures c.state_in-state.ensures _ _ (λ f n h. c.rejected.ensures ∙ same_rejection _ _ (gate ∙ c.check_batch-gate.ensures.preflight f n h));
      };
      cleared = λ m l h clear. clear;
    }

pub returns-then-is_empty : goal.returns-then-is_empty
unfolding gate_of
returns-then-is_empty c =
    let gate = ap gate_of (sym c.in_default.is) in
    let none = eqb-true _ 0 (sym c.is_empty.ensures ∙ c.if-is_empty.true) in record {
      called = record {
        became = λ m l h room clear. lent_batch_commits c.args.head.now c.args.nodes.now c.args.pairs.now c.args.collections.now c.args.bindings.now c.args.availability.now c.args.entries.now c.limits_in-limits.result c.state_in-state.result c.limits_in-limits.ensures c.state_in-state.ensures m l h _ _ _ _ _ _ _ _ _ _ (gate ∙ c.check_batch-gate.ensures.checked m (lent_seen c.args.head.now c.args.nodes.now c.args.pairs.now c.args.collections.now c.args.bindings.now c.args.availability.now c.args.entries.now c.limits_in-limits.result c.state_in-state.result c.limits_in-limits.ensures c.state_in-state.ensures m l h)) (λ ps reads count. lent_commits_none c.args.head.now c.args.nodes.now c.args.pairs.now c.args.collections.now c.args.bindings.now c.args.availability.now c.args.entries.now c.limits_in-limits.result c.state_in-state.result c.limits_in-limits.ensures c.state_in-state.ensures m l h _ _ _ _ _ _ _ ps c.unchanged.ensures none count);
        kept = λ n. (refl, (refl, (refl, (refl, refl))));
        row = row_told c.args.head.now c.args.nodes.now c.args.pairs.now c.args.collections.now c.args.bindings.now c.args.availability.now c.args.entries.now c.limits_in-limits.result c.state_in-state.result c.limits_in-limits.ensures c.state_in-state.ensures _ _ (unchanged_row c.unchanged.ensures);
        preflight = preflight_told c.args.head.now c.args.nodes.now c.args.pairs.now c.args.collections.now c.args.bindings.now c.args.availability.now c.args.entries.now c.limits_in-limits.result c.state_in-state.result c.limits_in-limits.ensures c.state_in-state.ensures _ _ (λ f n h. never_passes (sym (gate ∙ c.check_batch-gate.ensures.preflight f n h)));
      };
      cleared = λ m l h clear. clear;
    }

pub commit-change-requires : goal.commit-change-requires
commit-change-requires c = c.requires

pub returns : goal.returns
unfolding gate_of candidate
returns c =
    let gate = ap gate_of (sym c.in_default.is) in
    let some : (c.args.envelope.patch_count ≡ 0 → ⊥) = λ none. false≢true (sym (sym c.is_empty.ensures ∙ c.if-is_empty.false) ∙ eq-eqb _ 0 none) in record {
      called = record {
        became = λ m l h room clear. lent_batch_commits c.args.head.now c.args.nodes.now c.args.pairs.now c.args.collections.now c.args.bindings.now c.args.availability.now c.args.entries.now c.limits_in-limits.result c.state_in-state.result c.limits_in-limits.ensures c.state_in-state.ensures m l h _ _ _ _ _ _ _ _ _ _ (gate ∙ c.check_batch-gate.ensures.checked m (lent_seen c.args.head.now c.args.nodes.now c.args.pairs.now c.args.collections.now c.args.bindings.now c.args.availability.now c.args.entries.now c.limits_in-limits.result c.state_in-state.result c.limits_in-limits.ensures c.state_in-state.ensures m l h)) (λ ps reads count. commits c.args.head.now c.args.nodes.now c.args.pairs.now c.args.collections.now c.args.bindings.now c.args.availability.now c.args.entries.now c.limits_in-limits.result c.state_in-state.result c.limits_in-limits.ensures c.state_in-state.ensures m l h _ _ _ _ _ _ _ ps c.commit-change.result some (c.commit-change.ensures.changed m.projection ps (held_tables m h) reads room clear) c.concluded.ensures);
        kept = kept_change c.commit-change.result _ _ _ _ _ _ _ _ _ _ _ _ _ c.concluded.result c.commit-change.ensures.kept c.concluded.ensures;
        row = row_told c.args.head.now c.args.nodes.now c.args.pairs.now c.args.collections.now c.args.bindings.now c.args.availability.now c.args.entries.now c.limits_in-limits.result c.state_in-state.result c.limits_in-limits.ensures c.state_in-state.ensures _ _ (change_row _ _ _ _ c.commit-change.result c.concluded.ensures);
        preflight = preflight_told c.args.head.now c.args.nodes.now c.args.pairs.now c.args.collections.now c.args.bindings.now c.args.availability.now c.args.entries.now c.limits_in-limits.result c.state_in-state.result c.limits_in-limits.ensures c.state_in-state.ensures _ _ (λ f n h. never_passes (sym (gate ∙ c.check_batch-gate.ensures.preflight f n h)));
      };
      cleared = λ m l h.
          let read = passed_reads _ m _ _ _ (gate ∙ c.check_batch-gate.ensures.checked m (lent_seen c.args.head.now c.args.nodes.now c.args.pairs.now c.args.collections.now c.args.bindings.now c.args.availability.now c.args.entries.now c.limits_in-limits.result c.state_in-state.result c.limits_in-limits.ensures c.state_in-state.ensures m l h)) in
          c.commit-change.ensures.cleared m.projection read.0 (held_tables m h) read.1;
    }
