-- A row that is taken out of a table and inserted again at another position.
use Prim.Native.Nat.{ℕ, ◌-◌, ◌≤◌, ◌<◌}
use mathlib.Core.Path.{◌≡◌, sym, ap, ap₂, ◌∙◌, subst}
use mathlib.Core.Bool.{Bool}
use mathlib.Core.List.{List, [], append-nil, ◌++◌}
use native.Mathlib.Omega.{arith}
use borrow.Author.Tests.{lt-ltb, le-ltb}
use lib.ListN.{length, get_or, drop_of_length-le}
use Rattle.bytes_records.specs.Moves.{zeros, overwrite_rows}
use Rattle.bytes_records.specs.MovesLaws.{length_zeros}
use Rattle.bytes_records.specs.Positions.{insert_at, remove_at, move_at}
use Rattle.bytes_records.specs.Table.{HoldsRows, Changed, can_move}
use Rattle.bytes_records.specs.TableLaws.{row_width, can_move_lem}
use Rattle.panel_entries.specs.Places.{without_at}

pub without_before : (from to : ℕ) → from < to → without_at from to ≡ to - 1
unfolding without_at
without_before from to h = rw (lt-ltb from to h)

pub without_behind : (from to : ℕ) → to ≤ from → without_at from to ≡ to
unfolding without_at
without_behind from to h = rw (le-ltb from to h)

-- a part that fills what it is copied over
copied : (w : ℕ) (part : List ℕ) → length part ≡ w → overwrite_rows part (zeros w) ≡ part
copied w part e =
    let none : length (zeros w) ≤ length part = omega (arith, length_zeros w) in
    ap (λ (l : List ℕ). part ++ l) (drop_of_length-le (zeros w) none) ∙ append-nil part

module _ {w n from : ℕ} (to place : ℕ) {table exit part row : List ℕ} {b : Bool} (below : from < n) (is : without_at from to ≡ place) (inside : place < n)
    (told : (rows : List (List ℕ)) → HoldsRows w n table rows → part ≡ get_or rows from []) (copy : row ≡ overwrite_rows part (zeros w))
    (change : Changed w n n (move_at from place row) (can_move (length table) w n from place row) table exit b) where
  pub moved_row : (rows : List (List ℕ)) → HoldsRows w n table rows → HoldsRows w n exit (insert_at (without_at from to) (get_or rows from []) (remove_at from rows))
  moved_row rows t =
      let wide = row_width t from below in
      let own : row ≡ get_or rows from [] = copy ∙ ap (λ (l : List ℕ). overwrite_rows l (zeros w)) (told rows t) ∙ copied w (get_or rows from []) wide in
      let can = can_move_lem t from place row below inside (ap length own ∙ wide) in
      subst (HoldsRows w n exit) (ap₂ (λ (i : ℕ) (r : List ℕ). insert_at i r (remove_at from rows)) (sym is) own) (change.made (change.told ∙ can) rows t)
