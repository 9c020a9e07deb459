-- `listing_panel::print_listing` meets its contract: what came of the set tells the lines.
use mathlib.Core.Path.{sym, ap, ◌∙◌}
use borrow.Author.Rules.{rules}
use Rattle.spec_projection.specs.Projection.{empty}
use Rattle.spec_listing.specs.Listing.{refusal_line}
use Rattle.bytes_printer.proofs.PrintsLaws.{prints_same}
use Rattle.projection_patch.specs.Meaning.{edition_of}
use Rattle.listing_panel.specs.SetLines.{set_applied, set_refused}
use Rattle.listing_panel.proofs.print_listing.Goals as goal

pub returns-then-number-eq0 : goal.returns-then-number-eq0
returns-then-number-eq0 c =
    let shows = set_applied (edition_of c.args.edition) c.args.set.now c.apply_projection_patch_set-application.result.state c.apply_projection_patch_set-application.result.outcome (c.apply_projection_patch_set-application.ensures.applied empty c.empty-empty.ensures) (sym c.outcome_number-number.ensures ∙ c.if-number-eq0.true) in
    prints_same (sym shows.lines) (c.print_projection.ensures shows.projection shows.stores)

pub returns : goal.returns
unfolding refusal_line
returns c =
    let lines = set_refused (edition_of c.args.edition) c.args.set.now c.apply_projection_patch_set-application.result.state c.apply_projection_patch_set-application.result.outcome (c.apply_projection_patch_set-application.ensures.applied empty c.empty-empty.ensures) (λ e. c.if-number-eq0.false (c.outcome_number-number.ensures ∙ e)) in
    prints_same (ap refusal_line c.outcome_number-number.ensures ∙ sym lines) c.print_number_line.ensures
