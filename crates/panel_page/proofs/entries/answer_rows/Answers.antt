-- `entries::answer_rows` meets its contract. The invariant: the answers are those of the first i entries. The measure is the rows left.
use Prim.Native.Nat.{ℕ, ◌+◌, ◌-◌, ◌≤◌, ◌<◌}
use mathlib.Core.Path.{◌≡◌, refl, sym, ap, ◌∙◌, subst}
use mathlib.Core.List.{List, [], ◌∷◌, ◌++◌, map}
use native.Mathlib.Numerals.{add-one}
use native.Mathlib.Omega.{arith}
use borrow.Author.Rules.{rules}
use lib.ListN.{length, take, get_or}
use lib.Seq.{take-suc, take_all}
use Rattle.spec_lists.specs.Lists.{All}
use Rattle.spec_projection.specs.Projection.{Entry}
use Rattle.spec_projection.specs.Lookups.{entries_in}
use Rattle.spec_projection.specs.Valid.{FitsEntry, Grouped}
use Rattle.bytes_records.specs.Table.{HoldsRows}
use Rattle.panel_rows.specs.Rows.{entry_width, entry_row}
use Rattle.panel_rows.specs.RowsLaws.{no_entry}
use Rattle.panel_lookups.specs.NthLaws.{fits_at, row_at_entry}
use Rattle.bytes_records.specs.TableLaws.{holds_length}
use Rattle.panel_page.specs.Answering.{answers_in}
use Rattle.panel_page.proofs.AnsweringLaws.{absent_before}
use Rattle.panel_page.specs.Shown.{Shows}
use Rattle.panel_page.proofs.entries.answer_rows.Goals as goal

pub loop-i-init : goal.loop-i-init
unfolding entries_in
loop-i-init c = (omega arith, (omega arith, (refl, λ es fit g t h. (h, refl))))

pub loop-i-preserved : goal.loop-i-preserved
loop-i-preserved c = (
  search rules,
  (
    search rules,
    (
      search rules,
      λ es fit g t h.
          let inside : c.loop-i.i < length es = omega (arith, holds_length entry_row es t) in
          let before = c.loop-i.invariant.1.1.1 es fit g t h in
          let e = get_or es c.loop-i.i no_entry in
          let step = c.answer_row-position.ensures.filled (take c.loop-i.i es) e (fits_at es c.loop-i.i no_entry inside fit) (c.record_at-row.ensures.row (map entry_row es) t ∙ row_at_entry es c.loop-i.i no_entry inside)
          before.1 (λ own. absent_before c.args.collection es c.loop-i.i no_entry g inside own 0) before.0 in
          let more : take c.loop-i.i es ++ e ∷ [] ≡ take (c.loop-i.i + 1) es = sym (ap (λ (n : ℕ). take n es) (add-one c.loop-i.i) ∙ take-suc es c.loop-i.i no_entry inside) in (
            subst (Shows (length c.args.keys.now) _) (ap (λ (l : List Entry). map (answers_in c.args.collection l) c.args.keys.now) more) step.0,
            step.1 ∙ ap (λ (l : List Entry). length (entries_in c.args.collection l)) more,
          ),
    ),
  ),
)

pub returns : goal.returns
returns c =
    λ es fit g t h.
    let all : take c.loop-i.i es ≡ es = take_all c.loop-i.i es (omega (arith, holds_length entry_row es t)) in
    subst (λ (l : List Entry). Shows (length c.args.keys.now) c.loop-i.answers (map (answers_in c.args.collection l) c.args.keys.now)) all (c.loop-i.invariant.1.1.1 es fit g t h).0
