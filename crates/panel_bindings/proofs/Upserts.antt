-- A row at its place: replaced, inserted, or refused because the table is full.
use Prim.Native.Nat.{ℕ, ◌+◌, ◌*◌, ◌<◌}
use mathlib.Core.Path.{◌≡◌, refl, sym, ◌∙◌, subst}
use mathlib.Core.Bool.{Bool, true, false}
use mathlib.Core.List.{List}
use native.Mathlib.Omega.{arith}
use lib.ListN.{length}
use Rattle.bytes_records.specs.Positions.{insert_at, replace_at}
use Rattle.bytes_records.specs.Table.{Wide, HoldsRows, Changed, can_insert, can_replace}
use Rattle.bytes_records.specs.Search.{upsert_at, PlaceWithin}
use Rattle.panel_bindings.specs.Change.{RowsBecame}
use Rattle.bytes_records.specs.PositionsLaws.{length_insert_at}
use Rattle.panel_bindings.specs.RowChanges.{rows_few, rows_replaced, rows_inserted, rows_full}
use Rattle.local_projection_state.specs.declared.LocalProjectionApplicationError.TheVariants.{ProjectionFull}
use Rattle.std.specs.Prelude.{Result, Ok, Err}
use Rattle.local_projection_state.specs.declared.LocalProjectionApplicationError.{LocalProjectionApplicationError}

-- what the contract says of a place and an answer
abbrev pub Made : ℕ → ℕ → List ℕ → List ℕ → List ℕ → Result ℕ LocalProjectionApplicationError → Result ℕ ℕ → Type 0
Made w n l exit row r place = (capacity : ℕ) (rows : List (List ℕ)) → length l ≡ capacity * w → HoldsRows w n l rows → Wide w row → PlaceWithin n place → RowsBecame w capacity (upsert_at place row rows) exit r

module _ {w n : ℕ} {l exit : List ℕ} {answer : Bool} (some : 0 < w) (same : length exit ≡ length l) (at : ℕ) (row : List ℕ) where
  taken_made : Changed w n n (replace_at at row) (can_replace (length l) w n at row) l exit answer → Made w n l exit row (Ok n) (Ok at)
  unfolding upsert_at PlaceWithin
  taken_made c capacity rows size t wide h =
      let after = rows_replaced t at row h wide c in
      (omega (arith, rows_few after capacity some (same ∙ size), after.counted), after)

  inserted_made : answer ≡ true → Changed w n (n + 1) (insert_at at row) (can_insert (length l) w n at row) l exit answer → Made w n l exit row (Ok (n + 1)) (Err at)
  unfolding upsert_at PlaceWithin
  inserted_made e c capacity rows size t wide h =
      let after = rows_inserted t at row e c in
      (omega (arith, rows_few after capacity some (same ∙ size), after.counted), after)

  full_made : answer ≡ false → Changed w n (n + 1) (insert_at at row) (can_insert (length l) w n at row) l exit answer → Made w n l exit row (Err ProjectionFull) (Err at)
  unfolding upsert_at PlaceWithin
  full_made e c capacity rows size t wide h =
      (omega (arith, rows_full t at capacity size row h wide e c, length_insert_at at row rows, t.counted), refl)

  module _ (place : Result ℕ ℕ) where
    pub upsert_taken : place ≡ Ok at → Changed w n n (replace_at at row) (can_replace (length l) w n at row) l exit answer → Made w n l exit row (Ok n) place
    upsert_taken e c = subst (Made w n l exit row (Ok n)) (sym e) (taken_made c)

    pub upsert_inserted : place ≡ Err at → answer ≡ true → Changed w n (n + 1) (insert_at at row) (can_insert (length l) w n at row) l exit answer → Made w n l exit row (Ok (n + 1)) place
    upsert_inserted e a c = subst (Made w n l exit row (Ok (n + 1))) (sym e) (inserted_made a c)

    pub upsert_full : place ≡ Err at → answer ≡ false → Changed w n (n + 1) (insert_at at row) (can_insert (length l) w n at row) l exit answer → Made w n l exit row (Err ProjectionFull) place
    upsert_full e a c = subst (Made w n l exit row (Err ProjectionFull)) (sym e) (full_made a c)
