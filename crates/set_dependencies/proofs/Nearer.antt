-- A row inserted before the first rows, which move down, or behind them, where the last rows move up.
use Rattle.std.specs.Prelude as code
use Prim.Native.Nat.{ℕ, ◌+◌, ◌-◌, ◌*◌, ◌≤◌, ◌<◌}
use mathlib.Core.Path.{◌≡◌, sym, ap, ◌∙◌, subst}
use mathlib.Core.Bool.{Bool, true, false}
use mathlib.Core.List.{List, [], ◌∷◌, ◌++◌, flatten, append_assoc, append-nil, map}
use mathlib.Core.Option.{Option, none, some}
use native.Mathlib.Omega.{arith}
use lib.ListN.{length, take, drop, length-take, length-drop, take-append-drop, drop_of_length-le}
use lib.Seq.{drop_at, drop-drop}
use borrow.Rule.Slice.PartMut.{mid_of, put_mid}
use Rattle.spec_lists.proofs.ListLaws.{lent_from_lem}
use Rattle.bytes_records.specs.Moves.{zeros}
use Rattle.bytes_records.specs.Positions.{insert_at, move_at}
use Rattle.bytes_records.specs.Table.{HoldsRows, Changed, can_insert, can_move}
use Rattle.bytes_records.specs.TableLaws.{holds, rows_padded, can_insert_lem, can_move_lem}
use Rattle.spec_dependencies.specs.Settled.{Settled}
use Rattle.set_dependencies.specs.SettledRows.{settled_row, row_width, row_capacity, SettledTable, RowsIn, SettledIn}
use Rattle.set_dependencies.specs.SettledRowsLaws.{start_within, settled_rows_lem}
use Rattle.set_dependencies.specs.Settling.{SettlesAgain, SettlesTo}
use Rattle.set_dependencies.specs.declared.settled_rows.SettledPlaces.{SettledPlaces}

-- ---- a part that is lent, from a position to the end

module _ (from : ℕ) (xs : List ℕ) (within : from ≤ length xs) where
  pub rest_back : (ys : List ℕ) → drop from (put_mid from (length xs - from) xs ys) ≡ ys
  rest_back ys =
      let gone : length (drop from xs) ≤ length xs - from = omega (arith, length-drop from xs) in
      let none : drop (length xs - from) (drop from xs) ≡ [] = drop_of_length-le (drop from xs) gone in
      drop_at (take from xs) (ys ++ drop (length xs - from) (drop from xs)) from (length-take from xs ∙ omega arith) ∙ ap (λ (l : List ℕ). ys ++ l) none ∙ append-nil ys

-- ---- a row before the rows

-- the bytes before the rows are one row more
one_more : {count : ℕ} {part : List ℕ} (x rest : List ℕ) {rows : List (List ℕ)} → HoldsRows row_width count rest rows → length x ≡ row_width → part ≡ x ++ rest → HoldsRows row_width (count + 1) part (x ∷ rows)
unfolding flatten
one_more {count} {part} x rest {rows} h wide is =
    holds row_width (count + 1) part (x ∷ rows) (length rest - count * row_width) (wide, h.wide) (omega (arith, h.counted))
    (is ∙ ap (λ (l : List ℕ). x ++ l) (rows_padded h) ∙ sym (append_assoc x (flatten rows) (zeros (length rest - count * row_width))))

module _ {p : SettledPlaces} {table : List ℕ} {rows : List (List ℕ)} (h : RowsIn p table rows) (room : p.count < row_capacity) (at : ℕ) (within : at ≤ p.count) (row : List ℕ) (wide : length row ≡ row_width) where
  -- ---- the last rows move up

  pub inserted_behind : (from : ℕ) → from ≡ p.start * row_width → (part exit : List ℕ) {answer : Bool} → part ≡ mid_of from (length table - from) table
      → Changed row_width p.count (p.count + 1) (insert_at at row) (can_insert (length part) row_width p.count at row) part exit answer
      → length (put_mid from (length table - from) table exit) ≡ length table
      → RowsIn (record { start = p.start; count = p.count + 1 }) (put_mid from (length table - from) table exit) (insert_at at row rows)
  inserted_behind from is part exit lent c same =
      let inside : from ≤ length table = omega (arith, is, h.size, h.low) in
      let part_is : part ≡ drop (p.start * row_width) table = lent ∙ lent_from_lem table from ∙ ap (λ (n : ℕ). drop n table) is in
      let held : HoldsRows row_width p.count part rows = subst (λ (l : List ℕ). HoldsRows row_width p.count l rows) (sym part_is) h.held in
      let long : length part ≡ length table - from = ap length part_is ∙ length-drop (p.start * row_width) table ∙ omega (arith, is) in
      let put = c.made (c.told ∙ can_insert_lem held at row within wide (omega (arith, long, is, h.size, h.low, room))) rows held in
      record {
        size = same ∙ h.size;
        low = h.low;
        high = omega (arith, h.high);
        held = subst (λ (l : List ℕ). HoldsRows row_width (p.count + 1) l (insert_at at row rows)) (sym (ap (λ (n : ℕ). drop n (put_mid from (length table - from) table exit)) (sym is) ∙ rest_back from table inside exit)) put;
      }

  -- ---- the first rows move down

  pub inserted_before : (from : ℕ) → from ≡ (p.start - 1) * row_width → (part exit : List ℕ) {answer : Bool} → part ≡ mid_of from (length table - from) table
      → Changed row_width (p.count + 1) (p.count + 1) (move_at 0 at row) (can_move (length part) row_width (p.count + 1) 0 at row) part exit answer
      → length (put_mid from (length table - from) table exit) ≡ length table
      → RowsIn (record { start = p.start - 1; count = p.count + 1 }) (put_mid from (length table - from) table exit) (insert_at at row rows)
  inserted_before from is part exit lent c same =
      let inside : from ≤ length table = omega (arith, is, h.size, h.low) in
      let part_is : part ≡ drop from table = lent ∙ lent_from_lem table from in
      let next : from + row_width ≡ p.start * row_width = omega (arith, is, h.high, room) in
      let rest_is : drop row_width part ≡ drop (p.start * row_width) table = ap (drop row_width) part_is ∙ drop-drop row_width from table ∙ ap (λ (n : ℕ). drop n table) next in
      let rest : HoldsRows row_width p.count (drop row_width part) rows = subst (λ (l : List ℕ). HoldsRows row_width p.count l rows) (sym rest_is) h.held in
      let long : length part ≡ length table - from = ap length part_is ∙ length-drop from table in
      let held = one_more (take row_width part) (drop row_width part) rest (length-take row_width part ∙ omega (arith, long, is, h.size, h.low)) (sym (take-append-drop row_width part)) in
      let put = c.made (c.told ∙ can_move_lem held 0 at row (omega arith) (omega (arith, within)) wide) (take row_width part ∷ rows) held in
      record {
        size = same ∙ h.size;
        low = omega (arith, h.low);
        high = omega (arith, h.high, room);
        held = subst (λ (l : List ℕ). HoldsRows row_width (p.count + 1) l (insert_at at row rows)) (sym (ap (λ (n : ℕ). drop n (put_mid from (length table - from) table exit)) (sym is) ∙ rest_back from table inside exit)) put;
      }

-- ---- rows that stay as many

module _ {p : SettledPlaces} {table : List ℕ} {t : List Settled} (s : SettledIn p table t) where
  abbrev start : ℕ
  start = p.start * row_width

  pub rows_lent : SettledTable p.count (mid_of start (length table - start) table) t
  rows_lent = subst (λ (l : List ℕ). SettledTable p.count l t) (sym (lent_from_lem table start)) (settled_rows_lem s)

  pub settles_in : (x : Option (List Settled)) (exit : List ℕ) → length (put_mid start (length table - start) table exit) ≡ length table
      → SettlesAgain x p.count true exit → SettlesTo x (code.Some p) (put_mid start (length table - start) table exit)
  settles_in none exit same h = absurd h
  settles_in (some u) exit same h = record {
    rows = record {
      size = same ∙ s.rows.size;
      low = s.rows.low;
      high = s.rows.high;
      held = subst (λ (l : List ℕ). HoldsRows row_width p.count l (map settled_row u)) (sym (rest_back start table (start_within s.rows) exit)) h.rows;
    };
    fit = h.fit;
    ascending = h.ascending;
  }

pub contradicts_in : (x : Option (List Settled)) (n : ℕ) (exit table : List ℕ) → SettlesAgain x n false exit → SettlesTo x code.None table
contradicts_in none n exit table h = tt
contradicts_in (some u) n exit table h = absurd h
