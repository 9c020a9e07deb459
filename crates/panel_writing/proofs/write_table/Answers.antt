-- `write_table` meets its contract: its tests are those of `can_write`, and the rows are written into the places that are used, or were.
use Prim.Native.Nat.{ℕ, ◌+◌, ◌-◌, ◌*◌, ◌≤◌, max}
use mathlib.Core.Path.{◌≡◌, refl, sym, ap, ◌∙◌}
use mathlib.Core.List.{List, [], ◌++◌}
use native.Mathlib.Nat.{mul-le-mul, mul-le-mul_right, le-max_left, max-le}
use native.Mathlib.Omega.{arith}
use lib.ListN.{length, take, drop, take-append-drop}
use lib.Seq.{length-take-le}
use borrow.Author.Rules.{rules}
use Rattle.spec_patch.specs.Sizes.{projection_entries}
use Rattle.bytes_records.proofs.Parts.{lent}
use Rattle.bytes_records.specs.Table.{table_bytes}
use Rattle.projection_patch.specs.Meaning.{edition_of}
use Rattle.panel_rows.specs.Rows.{value_width, entry_width}
use Rattle.panel_writing.specs.Writing.{new_row, rows_to}
use Rattle.panel_writing.specs.WritingLaws.{can_write_lem, too_many, too_many_used, other_table, table_written, table_left}
use Rattle.panel_writing.proofs.write_table.Goals as goal
use Rattle.panel_writing.proofs.write_table.Goals.{After-greater}

-- the places that are used, or were, stand in the table
fits : (c : After-greater) → max c.args.count c.args.used * (c.args.key + value_width) ≤ length c.args.to.now
fits c =
    omega (arith, mul-le-mul_right {m = max c.args.count c.args.used} {n = c.args.capacity} (c.args.key + value_width) (max-le c.if-capacity-count.false c.if-capacity-used.false), c.if-to-capacity.false)

size_is : (c : After-greater) → c.greater.result * (c.args.key + value_width) ≡ max c.args.count c.args.used * (c.args.key + value_width)
size_is c = ap (λ n. n * (c.args.key + value_width)) c.greater.ensures

-- the part that is lent
part-long : (c : After-greater) → length (take (max c.args.count c.args.used * (c.args.key + value_width)) c.args.to.now) ≡ max c.args.count c.args.used * (c.args.key + value_width)
part-long c = length-take-le _ _ (fits c)

pub returns-then-capacity-count : goal.returns-then-capacity-count
returns-then-capacity-count c =
    let ed = edition_of c.args.edition in
    let not_written = too_many c.args.key c.args.capacity c.args.count c.args.used c.args.to.now c.if-capacity-count.true in
    record { value = sym not_written; to_after = sym (table_left c.args.key c.args.capacity c.args.count c.args.used c.args.to.now ed c.args.plan.now c.args.from.now c.args.set.now not_written) }

pub returns-then-capacity-used : goal.returns-then-capacity-used
returns-then-capacity-used c =
    let ed = edition_of c.args.edition in
    let not_written = too_many_used c.args.key c.args.capacity c.args.count c.args.used c.args.to.now c.if-capacity-count.false c.if-capacity-used.true in
    record { value = sym not_written; to_after = sym (table_left c.args.key c.args.capacity c.args.count c.args.used c.args.to.now ed c.args.plan.now c.args.from.now c.args.set.now not_written) }

pub overflow_mul-capacity : goal.overflow_mul-capacity
overflow_mul-capacity c =
    let few : c.args.capacity * (c.args.key + value_width) ≤ projection_entries * entry_width = mul-le-mul {m₂ = entry_width} c.requires.1 (omega arith) in
    omega arith

pub returns-then-to-capacity : goal.returns-then-to-capacity
returns-then-to-capacity c =
    let ed = edition_of c.args.edition in
    let not_written = other_table c.args.key c.args.capacity c.args.count c.args.used c.args.to.now c.if-capacity-count.false c.if-capacity-used.false c.if-to-capacity.true in
    record { value = sym not_written; to_after = sym (table_left c.args.key c.args.capacity c.args.count c.args.used c.args.to.now ed c.args.plan.now c.args.from.now c.args.set.now not_written) }

pub overflow_mul-size : goal.overflow_mul-size
overflow_mul-size c = omega (arith, size_is c, fits c)

pub slice_bounds-write_rows-end : goal.slice_bounds-write_rows-end
slice_bounds-write_rows-end c = omega (arith, size_is c, fits c)

pub write_rows-requires : goal.write_rows-requires
write_rows-requires c =
    let lent-size = c.greater.result * (c.args.key + value_width) - 0 in
    let long : length (take lent-size c.args.to.now) ≡ lent-size = length-take-le lent-size c.args.to.now (omega (arith, size_is (goal.at.write_rows-requires c).After-greater, fits (goal.at.write_rows-requires c).After-greater)) in
    (c.requires.0, omega (arith, c.if-capacity-count.false, c.requires.1), omega (arith, long, size_is (goal.at.write_rows-requires c).After-greater, mul-le-mul_right {m = c.args.count} {n = max c.args.count c.args.used} (c.args.key + value_width) (le-max_left c.args.count c.args.used)))

pub returns : goal.returns
returns c =
    let ed = edition_of c.args.edition in
    let n = max c.args.count c.args.used * (c.args.key + value_width) in
    let may = can_write_lem c.args.key c.args.capacity c.args.count c.args.used c.args.to.now c.if-capacity-count.false c.if-capacity-used.false c.if-to-capacity.false in
    let rows : List ℕ → List (List ℕ) = λ l. rows_to (new_row ed c.args.key c.args.plan.now c.args.from.now c.args.set.now l) c.args.count in
    let lent-size = c.greater.result * (c.args.key + value_width) - 0 in
    let long : length (take n c.args.to.now) ≡ lent-size = omega (arith, part-long (goal.at.returns c).After-greater, size_is (goal.at.returns c).After-greater) in
    let put = lent c.args.to.now [] (take n c.args.to.now) (drop n c.args.to.now) 0 lent-size (sym (take-append-drop n c.args.to.now)) refl long (λ (l : List ℕ). table_bytes (length l) (rows l)) _ c.write_rows.ensures in
    record { value = sym may; to_after = put ∙ ap (λ (k : ℕ). table_bytes k (rows (take n c.args.to.now)) ++ drop n c.args.to.now) (part-long (goal.at.returns c).After-greater) ∙ sym (table_written c.args.key c.args.capacity c.args.count c.args.used c.args.to.now ed c.args.plan.now c.args.from.now c.args.set.now may) }
