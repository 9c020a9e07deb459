-- `commit` meets its contract: the head is written where the tables were.
use Prim.Native.Nat.{ℕ}
use mathlib.Core.Path.{◌≡◌, sym, subst}
use mathlib.Core.List.{List}
use Rattle.spec_projection.specs.Projection.{Projection}
use Rattle.spec_projection.specs.Apply.{replay_steps, apply_steps}
use Rattle.session_lent.specs.Head.{moved_head}
use Rattle.local_projection_state.specs.Stores.{StoredTables}
use Rattle.local_projection_state.specs.declared.ProjectionCounts.{ProjectionCounts}
use Rattle.panel_changes.specs.SetChanges.{ReadyTables, StoredAfter, ChangeBecame, TablesKeptUnlessApplied}
use Rattle.panel_changes.specs.declared.SetRefusal.{SetRefusal}
use Rattle.std.specs.Prelude.{Result, Err}
use Rattle.session_lent.specs.BatchesLaws.{stopped_became, stopped_kept, applied_became}
use borrow.Author.Rules.{rules}
use Rattle.session_lent.proofs.batch.commit.Goals as goal

stored : {b a e : List ℕ} {p : Projection} {k : ProjectionCounts} (n : ProjectionCounts) → n ≡ k → StoredTables k b a e p → StoredTables n b a e p
stored {b = b} {a = a} {e = e} {p = p} n is = subst (λ (x : ProjectionCounts). StoredTables x b a e p) (sym is)

ready : {b a e l : List ℕ} {k : ProjectionCounts} (n : ProjectionCounts) → n ≡ k → ReadyTables k b a e l → ReadyTables n b a e l
ready {b = b} {a = a} {e = e} {l = l} n is = subst (λ (x : ProjectionCounts). ReadyTables x b a e l) (sym is)

pub returns-in-Err : goal.returns-in-Err
returns-in-Err c =
    let to_b = c.apply_set_with_plan-change.new.to_bindings in
    let to_a = c.apply_set_with_plan-change.new.to_availability in
    let to_e = c.apply_set_with_plan-change.new.to_entries in
    let to_l = c.apply_set_with_plan-change.new.to_lengths in
    record {
      changed = λ p ps st reads room clear.
          stopped_became (λ n q. StoredAfter n to_b to_a to_e to_l q) (λ n q. (c.args.to_head.now ≡ moved_head c.args.head.now c.args.sequence_no n) × StoredAfter n to_b to_a to_e to_l q) (Err c.in-Err.refused) (apply_steps p (replay_steps ps)) tt
          (subst (λ (u : Result ProjectionCounts SetRefusal). ChangeBecame (λ n q. StoredAfter n to_b to_a to_e to_l q) u (apply_steps p (replay_steps ps))) c.in-Err.is
          (c.apply_set_with_plan-change.ensures.changed p ps (stored _ c.counts_in-counts.ensures st) reads (ready _ c.counts_in-used.ensures room.tables) clear));
      kept = stopped_kept (Err c.in-Err.refused) c.args.to_head.now c.args.to_bindings.now c.args.to_availability.now c.args.to_entries.now c.args.to_lengths.now to_b to_a to_e to_l tt
          (subst (λ (u : Result ProjectionCounts SetRefusal). TablesKeptUnlessApplied u c.args.to_bindings.now c.args.to_availability.now c.args.to_entries.now c.args.to_lengths.now to_b to_a to_e to_l) c.in-Err.is c.apply_set_with_plan-change.ensures.kept);
      cleared = λ p ps st. c.apply_set_with_plan-change.ensures.cleared p ps (stored _ c.counts_in-counts.ensures st);
    }

pub store_moved-requires : goal.store_moved-requires
store_moved-requires c = c.requires

pub returns-in-Ok : goal.returns-in-Ok
returns-in-Ok c =
    record {
      changed = λ p ps st reads room clear.
          applied_became (λ n q. StoredAfter n c.apply_set_with_plan-change.new.to_bindings c.apply_set_with_plan-change.new.to_availability c.apply_set_with_plan-change.new.to_entries c.apply_set_with_plan-change.new.to_lengths q) (λ n. c.store_moved.new.to ≡ moved_head c.args.head.now c.args.sequence_no n) c.apply_set_with_plan-change.result c.in-Ok.next (apply_steps p (replay_steps ps)) c.in-Ok.is c.store_moved.ensures
          (c.apply_set_with_plan-change.ensures.changed p ps (stored _ c.counts_in-counts.ensures st) reads (ready _ c.counts_in-used.ensures room.tables) clear);
      kept = search rules;
      cleared = λ p ps st. c.apply_set_with_plan-change.ensures.cleared p ps (stored _ c.counts_in-counts.ensures st);
    }
