-- `session_explain::operations::first_refused` meets its contract: the plan of what is stored, and then the run.
use Prim.Native.Nat.{ℕ, ◌*◌}
use mathlib.Core.Path.{◌≡◌, sym, ◌∙◌}
use mathlib.Core.List.{List, []}
use lib.ListN.{length, length-replicate}
use Rattle.spec_lists.specs.Bytes.{Bytes}
use Rattle.spec_lists.proofs.BytesLaws.{bytes_of}
use Rattle.spec_patch.specs.Sizes.{projection_bindings, projection_entries}
use Rattle.spec_patch.specs.Edition.{Edition}
use Rattle.projection_patch.specs.Meaning.{edition_of}
use Rattle.patch_walk.proofs.StepsLaws.{opened_at, never_unopened}
use Rattle.bytes_records.specs.Moves.{zeros}
use Rattle.panel_rows.specs.Rows.{availability_bytes}
use Rattle.panel_plan.specs.PlanRows.{planned_binding_row, planned_binding_width, planned_entry_row, planned_entry_width, PlannedBindings, PlannedEntries}
use Rattle.panel_writing.specs.WritingLaws.{overwrite_all}
use Rattle.panel_changes.specs.SetChangesLaws.{none_stored, plan_starts, opened_short}
use borrow.Author.Rules.{rules}
use Rattle.session_explain.proofs.operations.first_refused.Goals as goal
use Rattle.session_explain.proofs.operations.first_refused.Goals.{After-open_set}

-- tables without rows
no_bindings : PlannedBindings 0 (zeros (projection_bindings * planned_binding_width)) []
no_bindings = none_stored planned_binding_row planned_binding_width projection_bindings

no_entries : PlannedEntries 0 (zeros (projection_entries * planned_entry_width)) []
no_entries = none_stored planned_entry_row planned_entry_width projection_entries

abbrev set : After-open_set → List ℕ
set o = o.args.set.now

abbrev edition : After-open_set → Edition
edition o = edition_of o.args.edition

all_bytes : (o : After-open_set) → Bytes (set o)
all_bytes o = bytes_of (set o) (λ j. (o.type_inv.set j).fits)

-- a table of just these bytes takes a whole one
room : (a : List ℕ) → length a ≡ availability_bytes → length a ≡ length (zeros availability_bytes)
room a is = is ∙ sym (length-replicate {A = ℕ} availability_bytes 0)

pub returns-then-availability-ne-AVAILABILITY_BYTES : goal.returns-then-availability-ne-AVAILABILITY_BYTES
returns-then-availability-ne-AVAILABILITY_BYTES c = λ p ps st e. absurd (c.if-availability-ne-AVAILABILITY_BYTES.true st.availabilities.size)

-- what was opened is not too long
pub refused_from-requires : goal.refused_from-requires
refused_from-requires c =
    let o = (goal.at.refused_from-requires c).After-open_set in
    opened_short (edition o) (set o) _ (sym c.open_set.ensures ∙ c.in_ok-start.was)

pub returns-in_err-start : goal.returns-in_err-start
returns-in_err-start c =
    let o = (goal.at.returns-in_err-start c).After-open_set in
    λ p ps st e. absurd (never_unopened (edition o) (set o) (all_bytes o) ps e c.open_set.ensures _ c.in_err-start.was)

pub returns : goal.returns
returns c =
    let o = (goal.at.returns c).After-open_set in
    let copied = c.copy.ensures ∙ overwrite_all c.args.availability.now (zeros availability_bytes) (room c.args.availability.now c.if-availability-ne-AVAILABILITY_BYTES.false) in
    λ p ps st e. c.refused_from.ensures p ps st.valid
    (plan_starts st copied (c.plan_bindings.ensures p.bindings st.bindings no_bindings) (c.plan_entries.ensures p.entries st.entries no_entries))
    (opened_at (edition o) (set o) (all_bytes o) ps e c.open_set.ensures _ c.in_ok-start.was)
