-- An expectation judged in a table: the row of its key is replaced, inserted, or contradicts.
use Rattle.std.specs.Prelude as code
use Rattle.std.specs.Prelude.{ℕ, ◌+◌, ◌≤◌, ◌<◌, ◌≡◌, refl, Bool, true, false, List, [], ◌∷◌, map, get_or}
use Rattle.std.proofs.Math.Path.{sym, ap, subst}
use Rattle.std.proofs.Common.{◌∙◌, arith}
use Rattle.std.specs.Bool.{beq}
use Rattle.std.proofs.Math.Option.{Option, none, some}
use Rattle.std.proofs.Math.ListN.{length}
use Rattle.std.proofs.lemmas.List.{length-map}
use Rattle.spec_lists.specs.Lists.{All}
use Rattle.spec_lists.specs.Order.{Ascending, upsert}
use Rattle.spec_lists.proofs.OrderLaws.{upsert_all, upsert_ascending}
use Rattle.spec_patch.specs.Fits.{U64}
use Rattle.spec_dependencies.specs.Expectations.{Expectation}
use Rattle.spec_dependencies.specs.Settled.{Settled, settled_key, settled_by, judge_by, judge, further_settled, judge_all}
use Rattle.spec_dependencies.proofs.CountLaws.{judge_all_length}
use Rattle.bytes_records.specs.Positions.{insert_at, replace_at}
use Rattle.bytes_records.specs.Table.{HoldsRows, Changed, can_replace}
use Rattle.bytes_records.specs.TableLaws.{can_replace_lem}
use Rattle.bytes_records.specs.Search.{place_of, upsert_at}
use Rattle.bytes_records.specs.SearchLaws.{upsert_place, map_upsert_at}
use Rattle.set_dependencies.specs.SettledRows.{settled_row, row_width, FitsSettled, SettledTable, RowsIn, SettledIn}
use Rattle.set_dependencies.specs.SettledRowsLaws.{row_wide, no_key, settled_rows_lem}
use Rattle.set_dependencies.specs.PlaceLaws.{PlaceTells, place_tells}
use Rattle.set_dependencies.specs.Settling.{SettlesAgain, SettlesTo}
use Rattle.set_dependencies.specs.declared.settled_rows.SettledPlaces.{SettledPlaces}
use Rattle.std.specs.Prelude.{Result, Ok, Err}

pub table_length : {count : ℕ} {table : List ℕ} (t : List Settled) → SettledTable count table t → length t ≡ count
table_length t s = sym (length-map t settled_row) ∙ s.rows.counted

pub places_length : {p : SettledPlaces} {table : List ℕ} (t : List Settled) → SettledIn p table t → length t ≡ p.count
places_length t s = table_length t (settled_rows_lem s)

module _ (e : Expectation) (fits : U64 e.collection × U64 e.key) (t : List Settled) (fit : All FitsSettled t) (ascending : Ascending settled_key t) where
  abbrev place : Result ℕ ℕ
  place = place_of settled_key (e.collection ∷ e.key ∷ []) t

  tells : (p : Result ℕ ℕ) → place ≡ p → PlaceTells settled_key (e.collection ∷ e.key ∷ []) no_key p t
  tells p is = subst (λ q. PlaceTells settled_key (e.collection ∷ e.key ∷ []) no_key q t) is (place_tells settled_key (e.collection ∷ e.key ∷ []) no_key t ascending)

  module _ (b : Bool) where
    -- the keys with that of the expectation
    abbrev more : List Settled
    more = upsert settled_key (settled_by b e) t

    -- their rows are the rows with its row at its place
    more_rows : (p : Result ℕ ℕ) → place ≡ p → upsert_at p (settled_row (settled_by b e)) (map settled_row t) ≡ map settled_row more
    unfolding settled_by settled_key
    more_rows p is = ap (λ q. upsert_at q (settled_row (settled_by b e)) (map settled_row t)) (sym is) ∙ sym (map_upsert_at settled_row place (settled_by b e) t) ∙ ap (map settled_row) (sym (upsert_place settled_key (settled_by b e) t))

    more_fit : All FitsSettled more
    unfolding settled_by
    more_fit = upsert_all settled_key FitsSettled (settled_by b e) t (record { collection = fits.0; key = fits.1 }) fit

    more_ascending : Ascending settled_key more
    more_ascending = upsert_ascending settled_key (settled_by b e) t ascending

  -- ---- a key that is settled already

  module _ (at : ℕ) (is : place ≡ Ok at) where
    -- its row
    abbrev old : Settled
    old = get_or t at no_key

    pub old_within : at < length t
    old_within = (tells (Ok at) is).0

    pub contradicts_old : beq old.now e.expected ≡ false → (count : ℕ) (exit : List ℕ) → SettlesAgain (judge e t) count false exit
    unfolding judge judge_by
    contradicts_old a count exit = rw ((tells (Ok at) is).1, a) tt

    pub settles_again : beq old.now e.expected ≡ true → {count : ℕ} {table : List ℕ} → SettledTable count table t → (exit row : List ℕ) → row ≡ settled_row (settled_by old.at_start e) → {answer : Bool}
        → Changed row_width count count (replace_at at row) (can_replace (length table) row_width count at row) table exit answer → SettlesAgain (judge e t) count answer exit
    unfolding judge judge_by upsert_at
    settles_again a {count} s exit row r c =
        let wide : length row ≡ row_width = ap length r ∙ row_wide (settled_by old.at_start e) in
        let done = c.told ∙ can_replace_lem s.rows at row (omega (arith, old_within, table_length t s)) wide in
        let h = c.made done (map settled_row t) s.rows in
        let kept : SettledTable count exit (more old.at_start) = record {
          rows = subst (HoldsRows row_width count exit) (ap (λ x. replace_at at x (map settled_row t)) r ∙ more_rows old.at_start (Ok at) is) h;
          fit = more_fit old.at_start;
          ascending = more_ascending old.at_start;
        } in
        rw (done, (tells (Ok at) is).1, a) kept

  -- ---- a key that is not settled yet

  module _ (at : ℕ) (is : place ≡ Err at) where
    pub first_within : at ≤ length t
    first_within = (tells (Err at) is).0

    pub settles_first : (p : SettledPlaces) (exit row : List ℕ) → row ≡ settled_row (settled_by e.expected e) → RowsIn p exit (insert_at at row (map settled_row t)) → SettlesTo (judge e t) (code.Some p) exit
    unfolding judge judge_by upsert_at
    settles_first p exit row r h =
        let kept : SettledIn p exit (more e.expected) = record {
          rows = subst (RowsIn p exit) (ap (λ x. insert_at at x (map settled_row t)) r ∙ more_rows e.expected (Err at) is) h;
          fit = more_fit e.expected;
          ascending = more_ascending e.expected;
        } in
        rw (tells (Err at) is).1 kept

-- ---- one expectation after another

-- a table has at most one row more
pub judged_count : (e : Expectation) {p : SettledPlaces} (more : SettledPlaces) {table : List ℕ} (t : List Settled) → SettledIn p table t → (exit : List ℕ) → SettlesTo (judge e t) (code.Some more) exit → more.count ≤ p.count + 1
unfolding judge_all
judged_count e {p} more {table} t s exit h = go (judge e t) refl h
  where
    go : (x : Option (List Settled)) → judge e t ≡ x → SettlesTo x (code.Some more) exit → more.count ≤ p.count + 1
    go none is h = absurd h
    go (some u) is h = omega (arith, judge_all_length (e ∷ []) t u (rw is), places_length t s, places_length u h)

-- the others go on from what the first settled
pub judged_on : (e : Expectation) (es : List Expectation) {more : SettledPlaces} {middle : List ℕ} (t : List Settled) → SettlesTo (judge e t) (code.Some more) middle
    → (r : code.Option SettledPlaces) (exit : List ℕ) → ((u : List Settled) → SettledIn more middle u → SettlesTo (judge_all es u) r exit) → SettlesTo (judge_all (e ∷ es) t) r exit
unfolding judge_all
judged_on e es {more} {middle} t h r exit later = go (judge e t) h
  where
    go : (x : Option (List Settled)) → SettlesTo x (code.Some more) middle → SettlesTo (further_settled x (λ u. judge_all es u)) r exit
    go none h = absurd h
    go (some u) h = later u h

-- where the first contradicts, all do
pub judged_none : (e : Expectation) (es : List Expectation) (t : List Settled) (middle : List ℕ) → SettlesTo (judge e t) code.None middle
    → (exit : List ℕ) → SettlesTo (judge_all (e ∷ es) t) code.None exit
unfolding judge_all
judged_none e es t middle h exit = go (judge e t) h
  where
    go : (x : Option (List Settled)) → SettlesTo x code.None middle → SettlesTo (further_settled x (λ u. judge_all es u)) code.None exit
    go none h = tt
    go (some u) h = absurd h

pub judged_one : (e : Expectation) (t : List Settled) (r : code.Option SettledPlaces) (exit : List ℕ) → SettlesTo (judge e t) r exit → SettlesTo (judge_all (e ∷ []) t) r exit
unfolding judge_all
judged_one e t (code.Some n) exit h = judged_on e [] t h (code.Some n) exit (λ u k. k)
judged_one e t code.None exit h = judged_none e [] t exit h exit
