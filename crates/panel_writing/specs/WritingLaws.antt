-- A plan whose sources stand for values is written as the rows of what it resolves to.
use Rattle.std.specs.Prelude.{ℕ, zero, suc, ◌+◌, ◌-◌, ◌*◌, ◌≤◌, ◌<◌, max, ◌≡◌, refl, ◌≢◌, true, leb}
use Rattle.std.proofs.Math.Path.{sym, ap, ap₂}
use Rattle.std.proofs.Common.{◌∙◌, subst, mul-le-mul_right, take-append-drop, drop_of_length-le, take_at, drop-drop, take-suc, take_all}
use Rattle.std.proofs.Math.Bool.{false}
use mathlib.Core.List.{List, [], ◌∷◌, ◌++◌, map, flatten, append-nil, append_assoc}
use Rattle.std.proofs.Math.Nat.{suc-mul, le-max_left, le-max_right, max-le}
use native.Mathlib.Omega.{arith}
use borrow.Author.Tests.{lt-ltb, le-ltb, le-leb, lt-leb, eq-eqb, ne_eqb, eqb-true, leb-true}
use Rattle.std.proofs.Math.ListN.{length, take, drop, get_or, length-append, length-drop, length-map}
use Rattle.std.proofs.Math.Seq.{drop_at, length-take-le}
use Rattle.spec_lists.specs.Lists.{All}
use Rattle.spec_lists.proofs.ListLaws.{and_left, and_right, all_map}
use Rattle.spec_lists.proofs.BytesLaws.{length_little_endian, number_of_little_endian}
use Rattle.spec_patch.specs.Sizes.{projection_entries}
use Rattle.spec_patch.specs.Patch.{Value, N, quad, signed, text, unsigned, score}
use Rattle.spec_patch.specs.Edition.{Edition}
use Rattle.spec_patch.specs.Encode.{u64, encode_value}
use Rattle.spec_patch.specs.Fits.{U64, Storable, StorableBy, FitsValue}
use Rattle.spec_patch.specs.Read.{read_value_by, read_value}
use Rattle.spec_patch.proofs.ReadLaws.{value_codec, value_codec_by, value_any}
use Rattle.spec_projection.proofs.MapLaws.{all_image}
use Rattle.bytes_records.specs.Moves.{zeros, overwrite_rows}
use Rattle.bytes_records.specs.MovesLaws.{drop_zeros}
use Rattle.bytes_records.specs.Table.{Wide, HoldsRows, table_bytes}
use Rattle.bytes_records.specs.TableLaws.{row_at_lem, length_flatten, zeros_split, rows_used as used-rows, rows_padded as padded-rows}
use Rattle.panel_rows.specs.Rows.{value_width, padded, field_at, written_row}
use Rattle.panel_rows.specs.RowsLaws.{length_padded, written_encoded}
use Rattle.local_projection_state.specs.Stores.{Stored}
use Rattle.local_projection_state.specs.StoresLaws.{table_stored}
use Rattle.panel_plan.specs.Plan.{old, new, value_from}
use Rattle.panel_plan.proofs.PlanLaws.{old_value, new_value}
use Rattle.panel_plan.specs.PlanRows.{source_number, source_width}
use Rattle.panel_plan.specs.SetValues.{value_read, value_in}
use Rattle.panel_plan.specs.Sources.{Sourced, from_row, from_set}
use Rattle.panel_writing.specs.Writing.{row_at, bytes_read, value_bytes, source_row, planned_row, new_row, rows_to, can_write, used_bytes, written_table, ClearBehind}

-- ---- whether a table is written

module _ (key capacity count used : ℕ) (to : List ℕ) where
  pub can_write_lem : count ≤ capacity → used ≤ capacity → length to ≡ capacity * (key + value_width) → can_write key capacity count used to ≡ true
  unfolding can_write
  can_write_lem h u e = rw (le-leb count capacity h, le-leb used capacity u, eq-eqb (length to) (capacity * (key + value_width)) e)

  pub too_many : capacity < count → can_write key capacity count used to ≡ false
  unfolding can_write
  too_many h = rw (lt-leb count capacity h)

  pub too_many_used : count ≤ capacity → capacity < used → can_write key capacity count used to ≡ false
  unfolding can_write
  too_many_used h u = rw (le-leb count capacity h, lt-leb used capacity u)

  pub other_table : count ≤ capacity → used ≤ capacity → length to ≢ capacity * (key + value_width) → can_write key capacity count used to ≡ false
  unfolding can_write
  other_table h u n = rw (le-leb count capacity h, le-leb used capacity u, ne_eqb (length to) (capacity * (key + value_width)) n)

  pub right_size : can_write key capacity count used to ≡ true → (count ≤ capacity) × (used ≤ capacity) × (length to ≡ capacity * (key + value_width))
  unfolding can_write
  right_size e =
      let rest = and_right (leb count capacity) _ e in
      (leb-true count capacity (and_left (leb count capacity) _ e), leb-true used capacity (and_left (leb used capacity) _ rest), eqb-true (length to) (capacity * (key + value_width)) (and_right (leb used capacity) _ rest))

  module _ (ed : Edition) (plan from set : List ℕ) where
    pub table_written : can_write key capacity count used to ≡ true → written_table ed key capacity count used plan from set to
        ≡ table_bytes (used_bytes key count used) (rows_to (new_row ed key plan from set (take (used_bytes key count used) to)) count) ++ drop (used_bytes key count used) to
    unfolding written_table
    table_written e = rw e

    pub table_left : can_write key capacity count used to ≡ false → written_table ed key capacity count used plan from set to ≡ to
    unfolding written_table
    table_left e = rw e

-- rows and zeros, and zeros behind them
pub zeros_behind : (rows : List (List ℕ)) (k : ℕ) (to : List ℕ) → length (flatten rows) ≤ k → k ≤ length to → drop k to ≡ zeros (length to - k) → table_bytes k rows ++ drop k to ≡ table_bytes (length to) rows
unfolding table_bytes
zeros_behind rows k to used room rest =
    let n = length (flatten rows) in
    let left : length to - n - (k - n) ≡ length to - k = omega arith in
    ap (λ (l : List ℕ). (flatten rows ++ zeros (k - n)) ++ l) (rest ∙ ap zeros (sym left))
    ∙ append_assoc (flatten rows) (zeros (k - n)) (zeros (length to - n - (k - n)))
    ∙ ap (λ (l : List ℕ). flatten rows ++ l) (sym (zeros_split (k - n) (length to - n) (omega arith)))

-- what is clear behind some rows is clear behind more
pub clear_behind_more : (used most width : ℕ) (to : List ℕ) → used ≤ most → most * width ≤ length to → ClearBehind used width to → ClearBehind most width to
clear_behind_more used most width to few room clear =
    let more : used * width ≤ most * width = mul-le-mul_right {m = used} {n = most} width few in
    let step = most * width - used * width in
    let sum : used * width + step ≡ most * width = omega arith in
    let left : length to - used * width - step ≡ length to - most * width = omega arith in
    ap (λ (k : ℕ). drop k to) (sym sum) ∙ sym (drop-drop step (used * width) to) ∙ ap (drop step) clear ∙ drop_zeros step (length to - used * width) (omega arith) ∙ ap zeros left

-- rows have nothing behind them
pub rows_clear : {w n : ℕ} {l : List ℕ} {rows : List (List ℕ)} → HoldsRows w n l rows → ClearBehind n w l
rows_clear {w} {n} {l} {rows} h = ap (drop (n * w)) (padded-rows h) ∙ drop_at (flatten rows) _ (n * w) (used-rows h)

-- ---- a source

module _ (ed : Edition) (key : ℕ) (front from set : List ℕ) (n : ℕ) (old : List ℕ) where
  pub source_old : n < projection_entries → source_row ed key front from set n old ≡ overwrite_rows (take (length old) (drop (n * (key + value_width)) from)) old
  unfolding source_row
  source_old h = rw (lt-ltb n projection_entries h)

  pub source_new : projection_entries ≤ n → source_row ed key front from set n old ≡ written_row front (value_bytes ed set (n - projection_entries)) old
  unfolding source_row
  source_new h = rw (le-ltb n projection_entries h)

-- a copy over as many bytes leaves none of them
pub overwrite_all : (s t : List ℕ) → length s ≡ length t → overwrite_rows s t ≡ s
overwrite_all s t e = ap (λ (l : List ℕ). s ++ l) (drop_of_length-le t {i = length s} (omega arith)) ∙ append-nil s

value_long : (v : Value) → 1 ≤ length (encode_value v)
unfolding encode_value
value_long v = omega arith

-- a value whose bytes stand in the set
module _ (ed : Edition) (set : List ℕ) (at : ℕ) (v : Value) (rest : List ℕ) (fits : FitsValue ed v) (e : drop at set ≡ encode_value v ++ rest) where
  set_value : value_in ed set at ≡ v
  unfolding value_in
  set_value = ap (λ (bs : List ℕ). value_read (read_value ed bs)) e ∙ ap value_read ((value_codec ed).back v fits rest)

  set_bytes : value_bytes ed set at ≡ encode_value v
  unfolding value_bytes
  set_bytes =
      let some : 1 ≤ length (encode_value v) = value_long v in
      let whole : length (drop at set) ≡ length (encode_value v) + length rest = ap length e ∙ length-append (encode_value v) rest in
      let front : length (take at set) ≡ at = length-take-le at set (omega (arith, length-drop at set)) in
      let split : set ≡ take at set ++ encode_value v ++ rest = sym (take-append-drop at set) ∙ ap (λ (l : List ℕ). take at set ++ l) e ∙ sym (append_assoc (take at set) (encode_value v) rest) in
      let end : length (take at set ++ encode_value v) ≡ length set - length rest = length-append (take at set) (encode_value v) ∙ omega (arith, length-drop at set) in
      ap (λ (bs : List ℕ). bytes_read set at (read_value_by false ed bs)) e ∙ ap (bytes_read set at) ((value_codec_by false ed).back v (value_any false ed v fits) rest)
      ∙ ap (λ (l : List ℕ). drop at (take (length set - length rest) l)) split
      ∙ ap (drop at) (take_at (take at set ++ encode_value v) rest (length set - length rest) end)
      ∙ drop_at (take at set) (encode_value v) at front

number_fits : (x : Value) → Storable x → U64 (source_number x)
unfolding StorableBy
number_fits (quad q) h = omega arith
number_fits (signed z) h = omega arith
number_fits (text t) h = omega arith
number_fits (unsigned n) h = h
number_fits (score n) h = omega arith

-- ---- lists

all_pair : {A : Type 0} (P Q : A → Type 0) (l : List A) → All P l → All Q l → All (λ a. P a × Q a) l
all_pair P Q [] h k = tt
all_pair P Q (x ∷ l) h k = ((h.0, k.0), all_pair P Q l h.1 k.1)

-- the first rows are those of a list that has them one by one
rows_to_lem : (f : ℕ → List ℕ) (l : List (List ℕ)) → ((i : ℕ) → i < length l → f i ≡ get_or l i []) → (n : ℕ) → n ≤ length l → rows_to f n ≡ take n l
unfolding rows_to
rows_to_lem f l same zero h = refl
rows_to_lem f l same (suc n) h = ap₂ (λ (a : List (List ℕ)) (b : List ℕ). a ++ (b ∷ [])) (rows_to_lem f l same n (omega arith)) (same n (omega arith)) ∙ sym (take-suc l n [] (omega arith))

-- ---- records that are stored by their ids, with the mark, and a value

module _ {A : Type 0} (ids : A → List ℕ) (value : A → Value) (planRow row : A → List ℕ) (key : ℕ) (long : (a : A) → length (ids a) ≡ key)
    (plan-is : (a : A) → planRow a ≡ ids a ++ u64 (source_number (value a))) (row_is : (a : A) → row a ≡ ids a ++ padded (value a)) where
  row_of : (l : List A) (i : ℕ) → i < length l → get_or (map row l) i [] ≡ get_or (map ids l) i [] ++ padded (get_or (map value l) i (quad N))
  row_of [] i h = absurd (omega arith)
  row_of (a ∷ l) zero h = row_is a
  row_of (a ∷ l) (suc i) h = row_of l i (omega arith)

  stored_value : (l : List A) → All (λ a. Storable (value a)) l → (i : ℕ) → i < length l → Storable (get_or (map value l) i (quad N))
  stored_value [] h i below = absurd (omega arith)
  stored_value (a ∷ l) h zero below = h.0
  stored_value (a ∷ l) h (suc i) below = stored_value l h.1 i (omega arith)

  -- a record of a plan, and what it resolves to, at a position
  record PlannedAt (P : A → Type 0) (resolve : A → A) (m : List A) (i : ℕ) : Type 0 where
    element : A
    has : P element
    planned : get_or (map planRow m) i [] ≡ planRow element
    resolved : get_or (map row (map resolve m)) i [] ≡ row (resolve element)

  planned_at : (P : A → Type 0) (resolve : A → A) (m : List A) (i : ℕ) → i < length m → All P m → PlannedAt P resolve m i
  planned_at P resolve [] i h ps = absurd (omega arith)
  planned_at P resolve (x ∷ m) zero h ps = record { element = x; has = ps.0; planned = refl; resolved = refl }
  planned_at P resolve (x ∷ m) (suc i) h ps =
      let r = planned_at P resolve m i (omega arith) ps.1 in
      record { element = r.element; has = r.has; planned = r.planned; resolved = r.resolved }

  -- the source behind the mark of a plan's row
  source_field : (a : A) → U64 (source_number (value a)) → field_at key source_width (ids a ++ u64 (source_number (value a))) ≡ source_number (value a)
  source_field a small =
      let n = source_number (value a) in
      rw (drop_at (ids a) (u64 n) key (long a), take_all source_width (u64 n) (omega (arith, length_little_endian source_width n)), number_of_little_endian source_width n small)

  module _ (ed : Edition) (set : List ℕ) (l : List A) (storable : All (λ a. Storable (value a)) l) (few : length l ≤ projection_entries)
      {capacity n : ℕ} {from : List ℕ} (s : Stored row (key + value_width) capacity n from l) where
    abbrev meaning : Value → Value
    meaning = value_from (map value l) (value_in ed set)

    meaning_storable : (front : List ℕ) (x : Value) → Sourced ed (map ids l) set front x → Storable (meaning x)
    meaning_storable _ _ (from_row i h) =
        let below : i < length l = omega (arith, length-map l ids) in
        subst Storable (sym (old_value (map value l) (value_in ed set) i (omega arith))) (stored_value l storable i below)
    meaning_storable _ _ (from_set front at v rest fits e) = subst Storable (sym (new_value (map value l) (value_in ed set) at ∙ set_value ed set at v rest fits e)) fits.storable

    source_written : (front : List ℕ) (x : Value) → Sourced ed (map ids l) set front x → (to : List ℕ) → length front ≡ key → length to ≡ key + value_width
        → source_row ed key front from set (source_number x) to ≡ front ++ padded (meaning x)
    unfolding old new
    source_written front _ (from_row i h) to size room =
        let below : i < length l = omega (arith, length-map l ids) in
        let counted : i < n = omega (arith, s.rows.counted, length-map l row) in
        let w = key + value_width in
        let v = get_or (map value l) i (quad N) in
        let long : length (front ++ padded v) ≡ length to = length-append front (padded v) ∙ omega (arith, length_padded v (stored_value l storable i below)) in
        source_old ed key front from set i to (omega arith) ∙ ap (λ (k : ℕ). overwrite_rows (take k (drop (i * w) from)) to) room
        ∙ ap (λ (r : List ℕ). overwrite_rows r to) (row_at_lem s.rows i counted ∙ row_of l i below) ∙ overwrite_all (front ++ padded v) to long
        ∙ ap (λ (y : Value). front ++ padded y) (sym (old_value (map value l) (value_in ed set) i (omega arith)))
    source_written _ _ (from_set front at v rest fits e) to size room =
        let there : projection_entries + at - projection_entries ≡ at = omega arith in
        source_new ed key front from set (projection_entries + at) to (omega arith) ∙ ap (λ (bs : List ℕ). written_row front bs to) (ap (value_bytes ed set) there ∙ set_bytes ed set at v rest fits e)
        ∙ written_encoded front to (omega arith) v fits.storable
        ∙ ap (λ (w : Value). front ++ padded w) (sym (new_value (map value l) (value_in ed set) at ∙ set_value ed set at v rest fits e))

    module _ (resolve : A → A) (same-ids : (a : A) → ids (resolve a) ≡ ids a) (same-value : (a : A) → value (resolve a) ≡ meaning (value a))
        (m : List A) {places count : ℕ} {plan : List ℕ} (t : Stored planRow (key + source_width) places count plan m)
        (sourced : All (λ a. U64 (source_number (value a)) × Sourced ed (map ids l) set (ids a) (value a)) m) (to : List ℕ) (room : count * (key + value_width) ≤ length to) where
      row_resolved : (i : ℕ) → i < length (map row (map resolve m)) → new_row ed key plan from set to i ≡ get_or (map row (map resolve m)) i []
      unfolding new_row planned_row
      row_resolved i h =
          let below : i < length m = omega (arith, length-map (map resolve m) row, length-map m resolve) in
          let counted : i < count = omega (arith, t.rows.counted, length-map m planRow) in
          let x = planned_at (λ a. U64 (source_number (value a)) × Sourced ed (map ids l) set (ids a) (value a)) resolve m i below sourced in
          let a = x.element in
          let w = key + value_width in
          let inside : i * w + w ≤ length to = omega (arith, rw suc-mul at (mul-le-mul_right w counted)) in
          let old = row_at w i to in
          let wide : length old ≡ w = length-take-le w (drop (i * w) to) (omega (arith, length-drop (i * w) to)) in
          ap (λ (r : List ℕ). planned_row ed key r from set old) (row_at_lem t.rows i counted ∙ x.planned ∙ plan-is a)
          ∙ ap₂ (λ (front : List ℕ) (number : ℕ). source_row ed key front from set number old) (take_at (ids a) (u64 (source_number (value a))) key (long a)) (source_field a x.has.0)
          ∙ source_written (ids a) (value a) x.has.1 old (long a) wide
          ∙ ap₂ (λ (front : List ℕ) (v : Value). front ++ padded v) (sym (same-ids a)) (sym (same-value a)) ∙ sym (x.resolved ∙ row_is (resolve a))

      rows_resolved : rows_to (new_row ed key plan from set to) count ≡ map row (map resolve m)
      rows_resolved =
          let all : length (map row (map resolve m)) ≡ count = length-map (map resolve m) row ∙ length-map m resolve ∙ sym (length-map m planRow) ∙ t.rows.counted in
          rows_to_lem (new_row ed key plan from set to) (map row (map resolve m)) row_resolved count (omega arith) ∙ take_all count (map row (map resolve m)) (omega arith)

-- ---- the table that a plan is written as

-- the stored rows of a list, told by their bytes and their number
stored_as : {A : Type 0} (row : A → List ℕ) (width capacity size count : ℕ) (l : List A) {rows : List (List ℕ)} → size ≡ capacity * width → rows ≡ map row l → length l ≡ count
    → Stored row width capacity (length l) (table_bytes (capacity * width) (map row l)) l → Stored row width capacity count (table_bytes size rows) l
stored_as row width capacity size count l s r c h =
    subst (λ (t : List ℕ). Stored row width capacity count t l) (ap₂ table_bytes (sym s) (sym r)) (subst (λ (n : ℕ). Stored row width capacity n (table_bytes (capacity * width) (map row l)) l) c h)

module _ {A : Type 0} (ids : A → List ℕ) (value : A → Value) (planRow row : A → List ℕ) (key : ℕ) (long : (a : A) → length (ids a) ≡ key)
    (plan-is : (a : A) → planRow a ≡ ids a ++ u64 (source_number (value a))) (row_is : (a : A) → row a ≡ ids a ++ padded (value a))
    (Fits : A → Type 0) (wide : (a : A) → Fits a → Wide (key + value_width) (row a)) (tells : (a b : A) → Fits a → Fits b → row a ≡ row b → a ≡ b) (fits-value : (a : A) → Fits a → Storable (value a))
    (resolve : A → A) (same-ids : (a : A) → ids (resolve a) ≡ ids a) (fits-resolved : (a : A) → Fits a → Storable (value (resolve a)) → Fits (resolve a)) where
  pub table_resolved : (ed : Edition) (set : List ℕ) (l m : List A) → All Fits l → All Fits m → length l ≤ projection_entries → ((a : A) → value (resolve a) ≡ value_from (map value l) (value_in ed set) (value a))
      → {capacity n count : ℕ} {plan from : List ℕ} → length m ≤ capacity → Stored row (key + value_width) capacity n from l → Stored planRow (key + source_width) capacity count plan m
      → All (λ a. Sourced ed (map ids l) set (ids a) (value a)) m → (used : ℕ) (to : List ℕ) → used ≤ capacity → length to ≡ capacity * (key + value_width) → ClearBehind used (key + value_width) to
      → Stored row (key + value_width) capacity count (table_bytes (used_bytes key count used) (rows_to (new_row ed key plan from set (take (used_bytes key count used) to)) count) ++ drop (used_bytes key count used) to) (map resolve m)
  table_resolved ed set l m fl fm few same-value {capacity} {n} {count} small s t sourced used to fewer size clear =
      let storable = all_map Fits (λ a. Storable (value a)) fits-value l fl in
      let both = all_pair Fits (λ a. Sourced ed (map ids l) set (ids a) (value a)) m fm sourced in
      let numbers = all_map (λ a. Fits a × Sourced ed (map ids l) set (ids a) (value a)) (λ a. U64 (source_number (value a)) × Sourced ed (map ids l) set (ids a) (value a)) (λ a h. (number_fits (value a) (fits-value a h.0), h.1)) m both in
      let fits = all_image resolve (λ a. Fits a × Sourced ed (map ids l) set (ids a) (value a)) Fits (λ a h. fits-resolved a h.0
      (subst Storable (sym (same-value a)) (meaning_storable ids value planRow row key long plan-is row_is ed set l storable few s (ids a) (value a) h.1))) m both in
      let counted : length (map resolve m) ≡ count = length-map m resolve ∙ sym (length-map m planRow) ∙ t.rows.counted in
      let w = key + value_width in
      let places = max count used * w in
      let rows : count * w ≤ places = mul-le-mul_right {m = count} {n = max count used} w (le-max_left count used) in
      let inside : places ≤ length to = omega (arith, mul-le-mul_right {m = max count used} {n = capacity} w (max-le (omega (arith, length-map m resolve)) fewer)) in
      let part : length (take places to) ≡ places = length-take-le places to inside in
      let are = rows_resolved ids value planRow row key long plan-is row_is ed set l storable few s resolve same-ids same-value m t numbers (take places to) (omega arith) in
      let whole = table_stored row Fits w wide tells capacity (map resolve m) fits (omega (arith, length-map m resolve)) in
      let flat : length (flatten (map row (map resolve m))) ≡ count * w = length_flatten w (map row (map resolve m)) whole.rows.wide ∙ ap (λ (k : ℕ). k * w) (length-map (map resolve m) row ∙ counted) in
      let bytes = ap (λ (r : List (List ℕ)). table_bytes places r ++ drop places to) are ∙ zeros_behind (map row (map resolve m)) places to (omega arith) inside (clear_behind_more used (max count used) w to (le-max_right count used) inside clear) in
      subst (λ (x : List ℕ). Stored row w capacity count x (map resolve m)) (sym bytes)
      (stored_as row w capacity (length to) count (map resolve m) size refl counted whole)
