-- `write_planned` meets its contract: the rows from the source on, or the value of the set behind the plan's ids and mark.
use Prim.Native.Nat.{◌+◌, ◌*◌, ◌≤◌}
use mathlib.Core.Path.{◌≡◌, sym, ap, ap₂, ◌∙◌}
use native.Mathlib.Nat.{mul-le-mul, min-le_left}
use native.Mathlib.Omega.{arith}
use borrow.Author.Rules.{rules}
use lib.ListN.{length, take, drop, length-take}
use Rattle.spec_patch.specs.Sizes.{projection_entries}
use Rattle.bytes_records.specs.Moves.{overwrite_rows}
use Rattle.projection_patch.specs.Meaning.{edition_of}
use Rattle.panel_rows.specs.Rows.{value_width, entry_width, written_row}
use Rattle.panel_writing.specs.WritingLaws.{source_old, source_new}
use Rattle.panel_writing.proofs.Bytes.{planned_written}
use Rattle.panel_writing.proofs.write_planned.Goals as goal
use Rattle.panel_writing.proofs.write_planned.Goals.{After-key_part-old, Then-source-lt-ENTRIES}

-- the old rows are those of the first tables
place : (c : Then-source-lt-ENTRIES) → c.args.source * (c.args.key + value_width) ≤ projection_entries * entry_width
place c = mul-le-mul {n₂ = projection_entries} {m₂ = entry_width} (omega (arith, c.if-source-lt-ENTRIES.true)) (omega (arith, c.requires.0))

-- no more bytes than there is room for
copied : (c : After-key_part-old) → c.key_part-old.result.now ≡ take (length c.args.to.now) (drop (c.args.source * (c.args.key + value_width)) c.args.from.now)
copied c = c.key_part-old.ensures ∙ ap (take (length c.args.to.now)) c.value_part.ensures

pub overflow_mul-start : goal.overflow_mul-start
overflow_mul-start c = omega (arith, place c)

pub copy_rows-requires : goal.copy_rows-requires
copy_rows-requires c =
    let rows = drop (c.args.source * (c.args.key + value_width)) c.args.from.now in
    let few : length (take (length c.args.to.now) rows) ≤ length c.args.to.now = rw (length-take (length c.args.to.now) rows) (min-le_left (length c.args.to.now) (length rows)) in
    omega (arith, few, ap length (copied (goal.at.copy_rows-requires c).After-key_part-old))

pub returns-then-source-lt-ENTRIES : goal.returns-then-source-lt-ENTRIES
returns-then-source-lt-ENTRIES c =
    let ed = edition_of c.args.edition in
    planned_written ed c.args.key c.args.row.now c.args.from.now c.args.set.now c.args.to.now c.requires.1
    (c.copy_rows.ensures ∙ ap (λ rows. overwrite_rows rows c.args.to.now) (copied (goal.at.returns-then-source-lt-ENTRIES c).After-key_part-old) ∙ sym (source_old ed c.args.key (take c.args.key c.args.row.now) c.args.from.now c.args.set.now _ c.args.to.now c.if-source-lt-ENTRIES.true))

pub returns-else-source-lt-ENTRIES : goal.returns-else-source-lt-ENTRIES
returns-else-source-lt-ENTRIES c =
    let ed = edition_of c.args.edition in
    planned_written ed c.args.key c.args.row.now c.args.from.now c.args.set.now c.args.to.now c.requires.1
    (c.write_row.ensures.made ∙ ap₂ (λ ids bytes. written_row ids bytes c.args.to.now) c.key_part-front.ensures c.value_bytes.ensures
    ∙ sym (source_new ed c.args.key (take c.args.key c.args.row.now) c.args.from.now c.args.set.now _ c.args.to.now c.if-source-lt-ENTRIES.false))
