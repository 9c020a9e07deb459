-- `bytes_records::find_pair` meets its contract. The invariant: the search began where the id's rows begin, and no row before position `at`
-- begins with the two numbers.
use mathlib.Core.Path.{◌≡◌, sym, ap, ◌∙◌}
use mathlib.Core.Bool.{true, false}
use mathlib.Core.List.{List, []}
use Prim.Native.Nat.{ℕ, ◌+◌, ◌*◌, ◌≤◌}
use native.Mathlib.Omega.{arith}
use lib.ListN.{length, get_or}
use borrow.Author.Rules.{rules}
use borrow.Author.Tests.{eq-eqb, ne_eqb}
use Rattle.spec_lists.specs.Bytes.{number_of}
use Rattle.bytes_records.specs.PositionsLaws.{first_index_le, first_here, first_more}
use Rattle.bytes_records.specs.Table.{HoldsRows}
use Rattle.bytes_records.specs.TableLaws.{rows_fit}
use Rattle.bytes_records.specs.Search.{first_row_number, second_number, is_pair, WithinRows}
use Rattle.bytes_records.specs.SearchLaws.{find_stopped, find_ended}
use Rattle.bytes_records.proofs.Offsets.{end_le, fits, fits_not}
use Rattle.bytes_records.proofs.Searches.{row_head_is, second_is, pair_start, pair_gone}
use Rattle.bytes_records.proofs.find_pair.Goals as goal
use Rattle.bytes_records.proofs.find_pair.Goals.{After-number_of, After-number_of-in-loop-at, In-loop-at}

-- the row at position `at` is within the table
placed : (c : In-loop-at) → (c.loop-at.at * c.args.width + c.args.width ≤ c.args.count * c.args.width) × (c.args.count * c.args.width ≤ length c.args.table.now)
placed c =
    (end_le c.args.width c.loop-at.at c.args.count (search rules), fits (length c.args.table.now) c.args.width c.args.count (search rules) (search rules))

-- the number that was read first is the row's first
read_first : (c : After-number_of) (m : List (List ℕ)) → HoldsRows c.args.width c.args.count c.args.table.now m → c.number_of.result ≡ first_row_number (get_or m c.loop-at.at [])
read_first c m t =
    c.number_of.ensures ∙ ap number_of (row_head_is m t c.loop-at.at (search rules) (search rules))

-- the row's two numbers: the first is the id, and the second was read
read-both : (c : After-number_of-in-loop-at) (m : List (List ℕ)) → HoldsRows c.args.width c.args.count c.args.table.now m
    → (first_row_number (get_or m c.loop-at.at []) ≡ c.args.id) × (c.number_of-in-loop-at.result ≡ second_number (get_or m c.loop-at.at []))
read-both c m t = (
  sym (c.number_of.ensures ∙ ap number_of (row_head_is m t c.loop-at.at (search rules) (search rules))) ∙ c.if-number_of-id.false,
  c.number_of-in-loop-at.ensures ∙ ap number_of (second_is m t c.loop-at.at (search rules) (search rules)),
)

pub returns-then-table-width : goal.returns-then-table-width
unfolding WithinRows
returns-then-table-width c =
    record { first = (λ m t rising. absurd (omega (arith, rows_fit t, fits_not _ _ _ (search rules) c.if-table-width.true))); within = search rules }

pub loop-at-init : goal.loop-at-init
loop-at-init c = (
  search rules,
  search rules,
  λ m t rising. (
    c.find_start-start.ensures.start m t rising,
    pair_start m rising c.args.id c.args.second c.find_start-start.result (c.find_start-start.ensures.start m t rising) (omega (arith, t.counted, c.find_start-start.ensures.within)),
  ),
)

pub overflow_mul-from : goal.overflow_mul-from
overflow_mul-from c = omega (arith, placed c)

pub overflow_add-middle : goal.overflow_add-middle
overflow_add-middle c = omega (arith, placed c)

pub overflow_add-end : goal.overflow_add-end
overflow_add-end c = omega (arith, placed c)

pub slice_bounds-number_of-end : goal.slice_bounds-number_of-end
slice_bounds-number_of-end c = omega (arith, placed c)

pub returns-then-number_of-id : goal.returns-then-number_of-id
unfolding WithinRows
returns-then-number_of-id c =
    record {
      first = (λ m t rising.
          let inv = c.loop-at.invariant.2 m t rising in
          sym (find_ended (is_pair c.args.id c.args.second) m
          (pair_gone m rising c.args.id c.args.second _ inv.0 c.loop-at.at (search rules) (omega (arith, t.counted)) inv.1 (λ e. c.if-number_of-id.true (read_first (goal.at.returns-then-number_of-id c).After-number_of m t ∙ e)))));
      within = search rules;
    }

pub slice_bounds-number_of-end-in-loop-at : goal.slice_bounds-number_of-end-in-loop-at
slice_bounds-number_of-end-in-loop-at c = omega (arith, placed (goal.at.slice_bounds-number_of-end-in-loop-at c).In-loop-at)

pub returns-then-number_of-second : goal.returns-then-number_of-second
unfolding WithinRows
returns-then-number_of-second c =
    record {
      first = (λ m t rising.
          let both = read-both (goal.at.returns-then-number_of-second c).After-number_of-in-loop-at m t in
          let here : is_pair c.args.id c.args.second (get_or m c.loop-at.at []) ≡ true = rw (eq-eqb _ c.args.id both.0, eq-eqb _ c.args.second (sym both.1 ∙ c.if-number_of-second.true)) in
          sym (find_stopped (is_pair c.args.id c.args.second) m c.loop-at.at
          (first_here (is_pair c.args.id c.args.second) m c.loop-at.at [] (omega (arith, t.counted)) (c.loop-at.invariant.2 m t rising).1 here) (omega (arith, t.counted))));
      within = search rules;
    }

pub loop-at-preserved : goal.loop-at-preserved
loop-at-preserved c = (
  search rules,
  search rules,
  λ m t rising.
      let both = read-both (goal.at.loop-at-preserved c).After-number_of-in-loop-at m t in
      let other : is_pair c.args.id c.args.second (get_or m c.loop-at.at []) ≡ false = rw (eq-eqb _ c.args.id both.0, ne_eqb _ c.args.second (λ e. c.if-number_of-second.false (both.1 ∙ e))) in (
        (c.loop-at.invariant.2 m t rising).0,
        first_more (is_pair c.args.id c.args.second) m c.loop-at.at [] (omega (arith, t.counted)) (c.loop-at.invariant.2 m t rising).1 other,
      ),
)

pub returns : goal.returns
unfolding WithinRows
returns c =
    record {
      first = (λ m t rising. sym (find_ended (is_pair c.args.id c.args.second) m
          (omega (arith, first_index_le (is_pair c.args.id c.args.second) m, (c.loop-at.invariant.2 m t rising).1, t.counted))));
      within = search rules;
    }
