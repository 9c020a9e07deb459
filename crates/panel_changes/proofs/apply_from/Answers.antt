-- `panel_changes::apply_from` meets its contract: the tables are written when all operations are planned, and not before.
use Rattle.local_projection_state.specs.declared.ProjectionCounts.{ProjectionCounts}
use Rattle.spec_projection.specs.Projection.{Projection}
use Rattle.panel_changes.specs.SetChanges.{StoredAfter}
use Rattle.std.specs.Prelude.{Err}
use mathlib.Core.Path.{refl, sym, ap, ◌∙◌}
use mathlib.Core.Bool.{false≢true}
use Rattle.spec_projection.specs.Apply.{replay_steps, apply_steps}
use Rattle.spec_projection.proofs.ValidLaws.{apply_steps_valid, replay_steps_fit}
use Rattle.projection_patch.specs.Meaning.{edition_of}
use Rattle.panel_changes.specs.SetChangesLaws.{planned_counts, run_planned, run_refused, run_reads, run_left}
use Rattle.panel_changes.specs.PlanMemoryLaws.{run_held}
use borrow.Author.Rules.{rules}
use Rattle.panel_changes.proofs.apply_from.Goals as goal
use Rattle.panel_changes.proofs.apply_from.Goals.{After-clear_plan, After-plan_set, In-Ok}

pub write_tables-written-requires : goal.write_tables-written-requires
write_tables-written-requires c = (c.requires.1.1.0, (c.requires.1.1.1.0, (search rules, c.requires.1.1.1.1.0)))

pub returns-then-written : goal.returns-then-written
returns-then-written c =
    let ed = edition_of c.args.edition in
    record {
      changed = λ p ps st fit at ready clear.
          run_planned _ (λ (n : ProjectionCounts) (q : Projection). StoredAfter n c.write_tables-written.new.to_bindings c.write_tables-written.new.to_availability c.write_tables-written.new.to_entries c.write_tables-written.new.to_lengths q) (apply_steps p (replay_steps ps)) (c.plan_set.ensures p ps st clear at).became c.in-Ok.n c.in-Ok.is
          (λ q is pl. c.write_tables-written.ensures.stored c.if-written.true ready p q c.args.counts c.args.from_availability.now st pl (apply_steps_valid ed p (replay_steps ps) q (replay_steps_fit ed ps fit) st.valid is));
      kept = search rules;
      cleared = λ p ps st at clear.
          let left = run_left _ (λ k q. ⊥) (apply_steps p (replay_steps ps)) (c.plan_set.ensures p ps st clear at).became c.in-Ok.n c.in-Ok.is in
          c.clear_plan.ensures left.1.plan left.1.stored;
    }

pub returns-else-written : goal.returns-else-written
returns-else-written c =
    record {
      changed = λ p ps st fit at ready clear.
          let left = run_left _ (λ k q. ⊥) (apply_steps p (replay_steps ps)) (c.plan_set.ensures p ps st clear at).became c.in-Ok.n c.in-Ok.is in
          false≢true (sym c.if-written.false ∙ c.write_tables-written.ensures.told ∙ planned_counts left.1.stored);
      kept = c.write_tables-written.ensures.kept c.if-written.false;
      cleared = λ p ps st at clear.
          let left = run_left _ (λ k q. ⊥) (apply_steps p (replay_steps ps)) (c.plan_set.ensures p ps st clear at).became c.in-Ok.n c.in-Ok.is in
          c.clear_plan.ensures left.1.plan left.1.stored;
    }

pub returns-in-Refused : goal.returns-in-Refused
returns-in-Refused c =
    record {
      changed = λ p ps st fit at ready clear. run_refused _ (λ (n : ProjectionCounts) (q : Projection). StoredAfter n c.args.to_bindings.now c.args.to_availability.now c.args.to_entries.now c.args.to_lengths.now q) (apply_steps p (replay_steps ps)) (c.plan_set.ensures p ps st clear at).became c.in-Refused.error (c.in-Err.is ∙ ap Err c.in-Refused.is);
      kept = (refl, (refl, (refl, refl)));
      cleared = λ p ps st at clear.
          let held = run_held _ _ _ (c.plan_set.ensures p ps st clear at).walked _ _ _ (c.in-Err.is ∙ ap Err c.in-Refused.is) in
          c.clear_plan-in-Refused.ensures held.1.plan held.1.stored;
    }

pub returns-in-Unreadable : goal.returns-in-Unreadable
returns-in-Unreadable c =
    record { changed = λ p ps st fit at ready clear. run_reads _ (λ k q. ⊥) (apply_steps p (replay_steps ps)) (c.plan_set.ensures p ps st clear at).became c.in-Unreadable.fault (c.in-Err.is ∙ ap Err c.in-Unreadable.is); kept = (refl, (refl, (refl, refl))); cleared = λ p ps st at clear. absurd (run_reads _ (λ k q. ⊥) (apply_steps p (replay_steps ps)) (c.plan_set.ensures p ps st clear at).became c.in-Unreadable.fault (c.in-Err.is ∙ ap Err c.in-Unreadable.is)) }
