-- `panel_changes::plan_set` meets its contract: the plan of what the tables store, and then the operations on it.
use Prim.Native.Nat.{◌-◌, ◌*◌, ◌≤◌}
use mathlib.Core.Path.{◌≡◌, ◌∙◌}
use native.Mathlib.Nat.{mul-le-mul_right}
use native.Mathlib.Omega.{arith}
use lib.ListN.{length, take}
use lib.Seq.{length-take-le}
use Rattle.spec_patch.specs.Sizes.{projection_availabilities}
use Rattle.panel_rows.specs.Rows.{availability_width, availability_bytes}
use Rattle.panel_changes.specs.SetChangesLaws.{fit_few, rows_copy, plan_starts}
use Rattle.panel_changes.specs.PlanMemoryLaws.{no_bindings, no_entries}
use borrow.Author.Rules.{rules}
use Rattle.panel_changes.proofs.plan_set.Goals as goal
use Rattle.panel_changes.proofs.plan_set.Goals.{Start}

-- the rows that are copied stand in the table
inside : (start : Start) → start.args.counts.availabilities * availability_width ≤ availability_bytes
inside start = mul-le-mul_right {m = start.args.counts.availabilities} {n = projection_availabilities} availability_width (fit_few start.args.counts start.requires.1.1).2

pub overflow_mul-held : goal.overflow_mul-held
overflow_mul-held c = omega (arith, inside (goal.at.overflow_mul-held c).Start)

pub slice_bounds-copy-end : goal.slice_bounds-copy-end
slice_bounds-copy-end c = omega (arith, inside (goal.at.slice_bounds-copy-end c).Start, c.requires.1.0)

pub copy-requires : goal.copy-requires
copy-requires c =
    let held = c.args.counts.availabilities * availability_width - 0 in
    let long : length (take held c.args.from_availability.now) ≡ held = length-take-le held c.args.from_availability.now (omega (arith, inside (goal.at.copy-requires c).Start, c.requires.1.0)) in
    let full : length c.args.availability.now ≡ availability_bytes = search rules in
    omega (arith, long, inside (goal.at.copy-requires c).Start, full)

pub returns : goal.returns
returns c =
    λ p ps st clear at.
    let kept = c.copy.ensures ∙ rows_copy p.availabilities st.availabilities (fit_few c.args.counts c.requires.1.1).2 clear.availability in
    c.plan_steps.ensures p ps st.valid
    (plan_starts st kept (c.plan_bindings.ensures p.bindings st.bindings (no_bindings clear)) (c.plan_entries.ensures p.entries st.entries (no_entries clear)))
    at
