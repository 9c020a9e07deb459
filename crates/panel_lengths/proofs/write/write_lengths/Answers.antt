-- `write_lengths` meets its contract: its tests are those of `can_write_lengths`, and the runs of a plan's rows are the lengths of its collections.
use Prim.Native.Nat.{ℕ, ◌-◌, ◌*◌, ◌≤◌, max}
use mathlib.Core.Path.{◌≡◌, refl, sym, ap, subst, ◌∙◌}
use mathlib.Core.Bool.{false≢true}
use mathlib.Core.List.{List, [], ◌++◌, map}
use native.Mathlib.Nat.{mul-le-mul_right, le-max_left, max-le}
use native.Mathlib.Omega.{arith}
use borrow.Author.Rules.{rules}
use lib.ListN.{length, take, drop, take-append-drop}
use lib.Seq.{length-take-le}
use Rattle.spec_patch.specs.Sizes.{projection_entries}
use Rattle.bytes_records.proofs.Parts.{lent}
use Rattle.bytes_records.specs.Table.{table_bytes}
use Rattle.panel_rows.specs.Rows.{length_width, length_row}
use Rattle.spec_lengths.specs.Lengths.{collection_lengths}
use Rattle.local_projection_state.specs.Stores.{StoredLengths}
use Rattle.panel_lengths.specs.Runs.{runs, collections_from}
use Rattle.panel_lengths.specs.WrittenLaws.{lengths_can_write, many_rows, many_used, other_lengths_table, written, written_lengths_stored, left, plan_lengths}
use Rattle.panel_lengths.proofs.write.write_lengths.Goals as goal
use Rattle.panel_lengths.proofs.write.write_lengths.Goals.{After-max-size}

-- the places of so many rows, and of those that were used, stand in the table
fits : (g : After-max-size) → (max g.args.count g.args.used * length_width ≤ length g.args.to.now) × (g.max-size.result * length_width ≡ max g.args.count g.args.used * length_width)
fits g =
    (omega (arith, mul-le-mul_right {m = max g.args.count g.args.used} {n = projection_entries} length_width (max-le g.if-count-gt-ENTRIES.false g.if-used-gt-ENTRIES.false), g.if-to-ne-LENGTH_BYTES.false), ap (λ (k : ℕ). k * length_width) g.max-size.ensures)

pub overflow_mul-size : goal.overflow_mul-size
overflow_mul-size c = omega (arith, (fits c).0, (fits c).1)

pub slice_bounds-write_runs-count : goal.slice_bounds-write_runs-count
slice_bounds-write_runs-count c = omega (arith, (fits c).0, (fits c).1)

pub slice_bounds-write_runs-start : goal.slice_bounds-write_runs-start
slice_bounds-write_runs-start c = omega (arith, (fits c).0, (fits c).1)

pub slice_bounds-write_runs-end : goal.slice_bounds-write_runs-end
slice_bounds-write_runs-end c = omega (arith, (fits c).0, (fits c).1)

pub returns-then-count-gt-ENTRIES : goal.returns-then-count-gt-ENTRIES
returns-then-count-gt-ENTRIES c =
    let refused = many_rows c.args.count c.args.used c.args.to.now c.if-count-gt-ENTRIES.true in
    record { told = sym refused; made = sym (left c.args.count c.args.used c.args.plan.now c.args.to.now refused); stores = λ e. absurd (false≢true e) }

pub returns-then-used-gt-ENTRIES : goal.returns-then-used-gt-ENTRIES
returns-then-used-gt-ENTRIES c =
    let refused = many_used c.args.count c.args.used c.args.to.now c.if-count-gt-ENTRIES.false c.if-used-gt-ENTRIES.true in
    record { told = sym refused; made = sym (left c.args.count c.args.used c.args.plan.now c.args.to.now refused); stores = λ e. absurd (false≢true e) }

pub returns-then-to-ne-LENGTH_BYTES : goal.returns-then-to-ne-LENGTH_BYTES
returns-then-to-ne-LENGTH_BYTES c =
    let refused = other_lengths_table c.args.count c.args.used c.args.to.now c.if-count-gt-ENTRIES.false c.if-used-gt-ENTRIES.false c.if-to-ne-LENGTH_BYTES.true in
    record { told = sym refused; made = sym (left c.args.count c.args.used c.args.plan.now c.args.to.now refused); stores = λ e. absurd (false≢true e) }

pub write_runs-requires : goal.write_runs-requires
write_runs-requires c =
    let size = c.max-size.result * length_width - 0 in
    let long : length (take size c.args.to.now) ≡ size = length-take-le size c.args.to.now (omega (arith, (fits (goal.at.write_runs-requires c).After-max-size).0, (fits (goal.at.write_runs-requires c).After-max-size).1)) in
    (c.if-count-gt-ENTRIES.false, omega (arith, long, (fits (goal.at.write_runs-requires c).After-max-size).1, mul-le-mul_right {m = c.args.count} {n = max c.args.count c.args.used} length_width (le-max_left c.args.count c.args.used)))

pub returns : goal.returns
returns c =
    let n = max c.args.count c.args.used * length_width in
    let may = lengths_can_write c.args.count c.args.used c.args.to.now c.if-count-gt-ENTRIES.false c.if-used-gt-ENTRIES.false c.if-to-ne-LENGTH_BYTES.false in
    let rows : List (List ℕ) = map length_row (runs (collections_from 0 c.args.count c.args.plan.now)) in
    let size = c.max-size.result * length_width - 0 in
    let part-long : length (take n c.args.to.now) ≡ n = length-take-le n c.args.to.now (fits (goal.at.returns c).After-max-size).0 in
    let lent-long : length (take size c.args.to.now) ≡ n = length-take-le size c.args.to.now (omega (arith, (fits (goal.at.returns c).After-max-size).0, (fits (goal.at.returns c).After-max-size).1)) ∙ omega (arith, (fits (goal.at.returns c).After-max-size).1) in
    let same = c.write_runs.ensures.long ∙ lent-long in
    let put = lent c.args.to.now [] (take n c.args.to.now) (drop n c.args.to.now) 0 size (sym (take-append-drop n c.args.to.now)) refl (omega (arith, (fits (goal.at.returns c).After-max-size).1)) (λ (l : List ℕ). table_bytes (length l) rows) _ (c.write_runs.ensures.held.bytes ∙ ap (λ (k : ℕ). table_bytes k rows) c.write_runs.ensures.long) in
    let is = put ∙ ap (λ (k : ℕ). table_bytes k rows ++ drop n c.args.to.now) part-long ∙ sym (written c.args.count c.args.used c.args.plan.now c.args.to.now may) in
    record { told = sym may; made = is; stores = λ told clear p s v. subst (λ (t : List ℕ). StoredLengths t (collection_lengths p)) (sym is) (subst (StoredLengths _) (plan_lengths c.args.count c.args.plan.now p s v) (written_lengths_stored c.args.count c.args.used c.args.plan.now c.args.to.now may (fits (goal.at.returns c).After-max-size).0 c.if-to-ne-LENGTH_BYTES.false clear same c.write_runs.ensures.held)) }
