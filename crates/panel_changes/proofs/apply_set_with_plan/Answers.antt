-- `panel_changes::apply_set_with_plan` meets its contract: the arguments are tested first, then the heading, and then the operations are applied.
use mathlib.Core.Path.{◌≡◌, refl, sym, ◌∙◌}
use mathlib.Core.Bool.{true, ◌&&◌, false≢true}
use lib.ListN.{length}
use Rattle.spec_lists.proofs.BytesLaws.{bytes_of}
use Rattle.spec_patch.proofs.SetLaws.{was_encoded}
use Rattle.projection_patch.specs.Meaning.{edition_of}
use Rattle.panel_changes.specs.SetChanges.{tables_fit, change_counts_fit}
use Rattle.panel_changes.specs.SetChangesLaws.{fit_lengths, table_lengths_fit, stored_lengths, stored_counts, fit_arguments, opened_short}
use Rattle.patch_walk.proofs.StepsLaws.{opened_at, never_unopened}
use Rattle.std.proofs.lemmas.Result.{err_from_is_err_and}
use borrow.Author.Rules.{rules}
use Rattle.panel_changes.proofs.apply_set_with_plan.Goals as goal

pub returns-then-to_lengths-ne-LENGTH_BYTES : goal.returns-then-to_lengths-ne-LENGTH_BYTES
returns-then-to_lengths-ne-LENGTH_BYTES c = record { changed = λ p ps st readable ready. absurd (c.if-to_lengths-ne-LENGTH_BYTES.true ready.collections); kept = (refl, (refl, (refl, refl))); cleared = λ p ps st readable clear. clear }

pub apply_from-requires : goal.apply_from-requires
apply_from-requires c =
    let fit = fit_arguments (tables_fit (length c.args.from_bindings.now) (length c.args.from_availability.now) (length c.args.from_entries.now)) (tables_fit (length c.args.to_bindings.now) (length c.args.to_availability.now) (length c.args.to_entries.now)) (change_counts_fit c.args.counts) (change_counts_fit c.args.used) c.arguments_fit.ensures c.if-not-arguments_fit.false in
    (opened_short (edition_of c.args.edition) c.args.set.now c.in_ok-cursor.cursor (sym c.open_set.ensures ∙ c.in_ok-cursor.was), ((fit_lengths c.args.from_bindings.now c.args.from_availability.now c.args.from_entries.now fit.0).availability, (fit_lengths c.args.to_bindings.now c.args.to_availability.now c.args.to_entries.now fit.1.0, (search rules, (fit.1.1.1, fit.1.1.0)))))

pub returns : goal.returns
returns c =
    let ed = edition_of c.args.edition in
    let all = bytes_of c.args.set.now (λ j. (c.type_inv.set j).fits) in
    let here = sym c.open_set.ensures ∙ c.in_ok-cursor.was in record { changed = λ p ps st readable ready. c.apply_from.ensures.changed p ps st (was_encoded ed c.args.set.now ps all readable).1.patches (opened_at ed c.args.set.now all ps readable refl c.in_ok-cursor.cursor here) ready; kept = c.apply_from.ensures.kept; cleared = λ p ps st readable. c.apply_from.ensures.cleared p ps st (opened_at ed c.args.set.now all ps readable refl c.in_ok-cursor.cursor here) }

pub returns-in_err-cursor : goal.returns-in_err-cursor
returns-in_err-cursor c =
    let all = bytes_of c.args.set.now (λ j. (c.type_inv.set j).fits) in
    let refused = err_from_is_err_and c.from_residual.result c.from_residual.ensures.1 in
    record {
      changed = λ p ps st readable ready. absurd (never_unopened (edition_of c.args.edition) c.args.set.now all ps readable refl _ (sym c.open_set.ensures ∙ c.in_err-cursor.was));
      kept = rw refused.1 (refl, (refl, (refl, refl)));
      cleared = λ p ps st readable clear. clear;
    }

pub returns-then-not-arguments_fit : goal.returns-then-not-arguments_fit
returns-then-not-arguments_fit c =
    record {
      changed = λ p ps st readable ready.
          let whole : (tables_fit (length c.args.from_bindings.now) (length c.args.from_availability.now) (length c.args.from_entries.now) && (tables_fit (length c.args.to_bindings.now) (length c.args.to_availability.now) (length c.args.to_entries.now) && (change_counts_fit c.args.counts && change_counts_fit c.args.used))) ≡ true =
          rw (table_lengths_fit c.args.from_bindings.now c.args.from_availability.now c.args.from_entries.now (stored_lengths st), table_lengths_fit c.args.to_bindings.now c.args.to_availability.now c.args.to_entries.now ready.lengths, stored_counts st, ready.few) in
          absurd (false≢true (sym c.if-not-arguments_fit.true ∙ c.arguments_fit.ensures ∙ whole));
      kept = (refl, (refl, (refl, refl)));
      cleared = λ p ps st readable clear. clear;
    }
