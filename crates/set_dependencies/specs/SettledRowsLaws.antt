-- Laws of settled rows: their width, that they ascend as their keys do, and what stands at a position.
use Rattle.std.specs.Prelude.{ℕ, zero, suc, ◌*◌, ◌≤◌, ◌<◌, ◌≡◌, refl, Bool, true, false, not, List, [], ◌∷◌, map, eqb, length, drop, get_or}
use Rattle.std.proofs.Common.{sym, ap, ◌∙◌, subst, arith, length-append, drop_at}
use Rattle.std.proofs.lemmas.List.{length-replicate}
use Rattle.spec_lists.specs.Lists.{All}
use Rattle.spec_lists.proofs.ListLaws.{all_map, all_member, get_or_member}
use Rattle.spec_lists.proofs.BytesLaws.{length_little_endian}
use Rattle.spec_lists.specs.Order.{lex_less, Ascending}
use Rattle.spec_dependencies.specs.Settled.{Settled, settled_key}
use Rattle.bytes_records.specs.Keys.{leading_numbers}
use Rattle.bytes_records.specs.KeysLaws.{leading_number}
use Rattle.bytes_records.specs.Search.{place_of}
use Rattle.bytes_records.specs.SearchLaws.{place_map}
use Rattle.bytes_records.specs.Moves.{zeros}
use Rattle.bytes_records.specs.Table.{Wide, HoldsRows}
use Rattle.bytes_records.specs.TableLaws.{zeros_split, holds_none}
use Rattle.set_dependencies.specs.SettledRows.{row_fields, flag, settled_row, row_width, row_capacity, FitsSettled, SettledTable, RowsIn, SettledIn, no_places}
use Rattle.set_dependencies.specs.declared.settled_rows.SettledPlaces.{SettledPlaces}

pub row_wide : (s : Settled) → Wide row_width (settled_row s)
unfolding settled_row
row_wide s = simp (length-append, length_little_endian) (omega arith)

pub row_key : (s : Settled) → FitsSettled s → leading_numbers row_fields (settled_row s) ≡ settled_key s
unfolding settled_row settled_key leading_numbers
row_key s h = leading_number 8 s.collection (8 ∷ []) _ h.collection ∙ ap (λ l. s.collection ∷ l) (leading_number 8 s.key [] _ h.key)

module _ (t : List Settled) (fit : All FitsSettled t) where
  row_keys : All (λ s. leading_numbers row_fields (settled_row s) ≡ settled_key s) t
  row_keys = all_map FitsSettled (λ s. leading_numbers row_fields (settled_row s) ≡ settled_key s) row_key t fit

  -- the place among the rows is that among the keys
  pub rows_place : (k : List ℕ) → place_of (leading_numbers row_fields) k (map settled_row t) ≡ place_of settled_key k t
  rows_place k = place_map settled_row (leading_numbers row_fields) settled_key k t row_keys

-- ---- rows ascend

module _ {A B : Type 0} (f : A → B) (key : B → List ℕ) (own : A → List ℕ) where
  above_map : (x : A) (l : List A) → key (f x) ≡ own x → All (λ y. key (f y) ≡ own y) l → All (λ y. lex_less (own x) (own y) ≡ true) l → All (λ y. lex_less (key (f x)) (key y) ≡ true) (map f l)
  above_map x [] e h a = tt
  above_map x (y ∷ l) e h a = (rw (e, h.0) a.0, above_map x l e h.1 a.1)

  ascending_map : (l : List A) → All (λ y. key (f y) ≡ own y) l → Ascending own l → Ascending key (map f l)
  ascending_map [] h a = tt
  ascending_map (x ∷ l) h a = (above_map x l h.0 h.1 a.0, ascending_map l h.1 a.1)

pub rows_ascending : (t : List Settled) → All FitsSettled t → Ascending settled_key t → Ascending (leading_numbers row_fields) (map settled_row t)
rows_ascending t fit a = ascending_map settled_row (leading_numbers row_fields) settled_key t (row_keys t fit) a

-- ---- a position

-- what stands past the last
abbrev pub no_key : Settled
no_key = record { collection = 0; key = 0; at_start = false; now = false }

pub row_of : (t : List Settled) (i : ℕ) → i < length t → get_or (map settled_row t) i [] ≡ settled_row (get_or t i no_key)
row_of [] i h = absurd (omega arith)
row_of (s ∷ t) zero h = refl
row_of (s ∷ t) (suc i) h = row_of t i (omega arith)

pub row_fits : (t : List Settled) (i : ℕ) → All FitsSettled t → i < length t → FitsSettled (get_or t i no_key)
row_fits t i fit h = all_member FitsSettled t fit (get_or_member t i no_key h)

-- ---- flags

pub flag_told : (b : Bool) → eqb (flag b) 1 ≡ b
flag_told true = refl
flag_told false = refl

pub not_true : (a : Bool) → not a ≡ true → a ≡ false
not_true true h = sym h
not_true false h = refl

pub not_false : (a : Bool) → not a ≡ false → a ≡ true
not_false true h = refl
not_false false h = sym h

-- ---- places

module _ {p : SettledPlaces} {table : List ℕ} where
  -- the table reaches to the place of the first row
  pub start_within : {rows : List (List ℕ)} → RowsIn p table rows → p.start * row_width ≤ length table
  start_within h = omega (arith, h.size, h.low)

  -- the rows from that place on
  pub settled_rows_lem : {t : List Settled} → SettledIn p table t → SettledTable p.count (drop (p.start * row_width) table) t
  settled_rows_lem s = record { rows = s.rows.held; fit = s.fit; ascending = s.ascending }

-- ---- no rows

pub none_settled : SettledIn no_places (zeros (2 * (row_capacity * row_width))) []
none_settled = record {
  rows = record {
    size = length-replicate {A = ℕ} (2 * (row_capacity * row_width)) 0;
    low = omega arith;
    high = omega arith;
    held = subst (λ (l : List ℕ). HoldsRows row_width 0 l []) (sym half) (holds_none row_width (row_capacity * row_width));
  };
  fit = tt;
  ascending = tt;
}
  where
    half : drop (row_capacity * row_width) (zeros (2 * (row_capacity * row_width))) ≡ zeros (row_capacity * row_width)
    half = ap (drop (row_capacity * row_width)) (zeros_split (row_capacity * row_width) (2 * (row_capacity * row_width)) (omega arith)) ∙ drop_at (zeros (row_capacity * row_width)) (zeros (row_capacity * row_width)) (row_capacity * row_width) (length-replicate {A = ℕ} (row_capacity * row_width) 0)
