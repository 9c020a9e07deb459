-- `panel_changes::write_tables` meets its contract: what is written stores what the plan stands for, and more rows than places are refused first.
use mathlib.Core.Path.{◌≡◌, refl, sym, ◌∙◌}
use mathlib.Core.Bool.{true, false≢true}
use Rattle.spec_patch.specs.Sizes.{projection_bindings, projection_entries}
use Rattle.projection_patch.specs.Meaning.{edition_of}
use Rattle.panel_rows.specs.Rows.{binding_value_at, entry_value_at}
use Rattle.panel_plan.specs.Plan.{resolution}
use Rattle.panel_plan.specs.SetValues.{value_in}
use Rattle.panel_writing.specs.WritingLaws.{can_write_lem}
use Rattle.panel_writing.specs.CopyLaws.{can_copy_lem}
use Rattle.panel_lengths.specs.WrittenLaws.{lengths_can_write as can-write-lengths}
use Rattle.panel_changes.specs.SetChanges.{change_counts_fit}
use Rattle.panel_changes.specs.SetChangesLaws.{fit_few, written_stored}
use borrow.Author.Rules.{rules}
use Rattle.panel_changes.proofs.write_tables.Goals as goal

pub returns-then-counts_fit : goal.returns-then-counts_fit
returns-then-counts_fit c =
    let ed = edition_of c.args.edition in
    let told : true ≡ change_counts_fit c.args.counts = sym c.if-counts_fit.true ∙ c.counts_fit.ensures in
    let few = fit_few c.args.counts (sym told) in
    let before = fit_few c.args.used c.requires.1.1.1 in record {
      told = told;
      kept = λ no. absurd (false≢true (sym no));
      stored = λ _ ready p x n s st pl v.
          written_stored c.args.counts _ _ _ _ (resolution p (value_in ed c.args.set.now)) pl.plan x pl.resolves v
          (c.write_bindings.ensures.stores (c.write_bindings.ensures.told ∙ can_write_lem binding_value_at projection_bindings c.args.counts.bindings c.args.used.bindings c.args.to_bindings.now few.0 before.0 c.requires.0.bindings) ready.bindings p pl.plan n.bindings st.bindings st.valid pl.stored.bindings pl.stored.valid pl.sourced.bindings)
          (c.write_availabilities.ensures.stores (c.write_availabilities.ensures.told ∙ can_copy_lem c.args.counts.availabilities c.args.used.availabilities c.args.plan_availability.now c.args.to_availability.now few.2 before.2 c.requires.1.1.0 c.requires.0.availability) ready.availabilities pl.plan.availabilities pl.stored.availabilities)
          (c.write_entries.ensures.stores (c.write_entries.ensures.told ∙ can_write_lem entry_value_at projection_entries c.args.counts.entries c.args.used.entries c.args.to_entries.now few.1 before.1 c.requires.0.entries) ready.entries p pl.plan n.entries st.entries st.valid pl.stored.entries pl.stored.valid pl.sourced.entries)
          (c.write_lengths.ensures.stores (c.write_lengths.ensures.told ∙ can-write-lengths c.args.counts.entries c.args.used.entries c.args.to_lengths.now few.1 before.1 c.requires.1.0) ready.counted pl.plan pl.stored.entries pl.stored.valid);
    }

pub returns : goal.returns
returns c =
    let told = sym c.if-counts_fit.false ∙ c.counts_fit.ensures in
    record { told = told; kept = λ no. (refl, (refl, (refl, refl))); stored = λ yes. absurd (false≢true yes) }
