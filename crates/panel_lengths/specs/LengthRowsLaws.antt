-- What the rows of a table of lengths tell: those that are used the collection and its length, the first behind them a length of 0.
use Prim.Native.Nat.{ℕ, zero, suc, ◌+◌, ◌-◌, ◌*◌, ◌≤◌, ◌<◌}
use Rattle.std.specs.Prelude.{◌≡◌, refl, ◌≢◌, ltb, take}
use Rattle.std.proofs.Math.Path.{sym, ap}
use Rattle.std.proofs.Common.{ap₂, ◌∙◌, add-one, ltb-true, ltb-false, length-append, drop_of_length-le, drop-cons, drop-drop, take_at}
use mathlib.Core.List.{List, [], ◌∷◌, ◌++◌, map, flatten, append_assoc}
use Rattle.std.proofs.Math.Nat.{mul-le-mul_right, suc-mul}
use native.Mathlib.Omega.{arith}
use Rattle.std.proofs.Math.ListN.{length, drop, get_or}
use Rattle.std.proofs.lemmas.List.{length-map}
use Rattle.std.proofs.Math.Seq.{drop_at}
use Rattle.spec_lists.specs.Lists.{All, or_zero}
use Rattle.spec_lists.specs.Bytes.{number_of}
use Rattle.spec_lists.proofs.ListLaws.{all_member, get_or_member, test_cases}
use Rattle.spec_lists.specs.Order.{lookup}
use Rattle.spec_lists.proofs.BytesLaws.{length_little_endian}
use Rattle.spec_patch.specs.Sizes.{projection_entries}
use Rattle.spec_patch.specs.Encode.{u64}
use Rattle.spec_projection.specs.Projection.{Entry}
use Rattle.spec_projection.specs.Valid.{FitsEntry}
use Rattle.spec_lengths.specs.Lengths.{CollectionLength, FitsLength, length_of, length_found}
use Rattle.spec_lengths.proofs.LengthsLaws.{found_here, found_past}
use Rattle.bytes_records.specs.Moves.{zeros}
use Rattle.bytes_records.specs.MovesLaws.{length_zeros, drop_zeros}
use Rattle.bytes_records.specs.TableLaws.{zeros_split, rows_used, rows_padded, rows_fit, before_length, row_split}
use Rattle.panel_rows.specs.Rows.{id_width, count_width, length_at, length_width, length_row, field_at}
use Rattle.panel_rows.specs.RowsLaws.{field_behind}
use Rattle.panel_rows.specs.RowsLaws.{no_entry}
use Rattle.local_projection_state.specs.Stores.{Stored, StoredLengths}
use Rattle.panel_plan.specs.PlanRows.{source_number, planned_entry_row, planned_entry_width, PlannedEntries}
use Rattle.panel_lengths.specs.Runs.{collections_from}
use Rattle.panel_lengths.specs.LengthRows.{collection_at, entries_at, no_length}

-- ---- a row that is used

-- the image of an element by its position
get_or_image : {A B : Type 0} (f : A → B) (l : List A) (i : ℕ) (d : A) (e : B) → i < length l → get_or (map f l) i e ≡ f (get_or l i d)
get_or_image f [] i d e h = absurd (omega arith)
get_or_image f (x ∷ l) zero d e h = refl
get_or_image f (x ∷ l) (suc i) d e h = get_or_image f l i d e (omega arith)

module _ (table : List ℕ) (l : List CollectionLength) (s : StoredLengths table l) (fit : All FitsLength l) where
  abbrev at : ℕ → CollectionLength
  at i = get_or l i no_length

  pub few_rows : length l ≤ projection_entries
  few_rows = omega (arith, rows_fit s.rows, s.size)

  module _ (i : ℕ) (below : i < length l) where
    fits : FitsLength (at i)
    fits = all_member FitsLength l fit (get_or_member l i no_length below)

    -- what stands before the row's bytes, and behind them
    abbrev front : List ℕ
    front = flatten (take i (map length_row l))

    abbrev rest : List ℕ
    rest = flatten (drop (i + 1) (map length_row l)) ++ zeros (length table - length l * length_width)

    front_long : length front ≡ i * length_width
    front_long = before_length s.rows i (omega arith)

    split : table ≡ front ++ (u64 (at i).collection ++ (u64 (at i).length ++ rest))
    unfolding length_row
    split = row_split s.rows i below ∙ ap (λ (r : List ℕ). front ++ (r ++ rest)) (get_or_image length_row l i no_length [] below) ∙ ap (λ (r : List ℕ). front ++ r) (append_assoc (u64 (at i).collection) (u64 (at i).length) rest)

    pub collection_told : collection_at i table ≡ (at i).collection
    collection_told = ap (collection_at i) split ∙ field_behind front (u64 (at i).length ++ rest) (i * length_width) id_width (at i).collection front_long fits.collection

    pub entries_told : entries_at i table ≡ (at i).length
    entries_told =
        ap (entries_at i) (split ∙ sym (append_assoc front (u64 (at i).collection) (u64 (at i).length ++ rest)))
        ∙ field_behind (front ++ u64 (at i).collection) rest (i * length_width + length_at) count_width (at i).length (length-append front (u64 (at i).collection) ∙ omega (arith, front_long, length_little_endian id_width (at i).collection)) fits.length

    pub some_entries : 1 ≤ entries_at i table
    some_entries = omega (arith, entries_told, fits.some)

  -- a row behind the last is all zeros
  pub none_told : (i : ℕ) → length l ≤ i → i < projection_entries → entries_at i table ≡ 0
  unfolding number_of
  none_told i past below =
      let n = length l * length_width in
      let k = length table - n in
      let j = i * length_width + length_at - n in
      let places : n ≤ i * length_width = mul-le-mul_right length_width past in
      let inside : suc i * length_width ≤ projection_entries * length_width = mul-le-mul_right length_width below in
      let room : j + count_width ≤ k = omega (arith, s.size, suc-mul i length_width) in
      let there : i * length_width + length_at ≡ n + j = omega arith in
      let behind : drop n table ≡ zeros k = ap (drop n) (rows_padded s.rows) ∙ drop_at (flatten (map length_row l)) (zeros k) n (rows_used s.rows) in
      let row : drop (i * length_width + length_at) table ≡ zeros (k - j) = ap (λ (a : ℕ). drop a table) there ∙ sym (drop-drop j n table) ∙ ap (drop j) behind ∙ drop_zeros j k (omega arith) in
      ap (λ (r : List ℕ). number_of (take count_width r)) (row ∙ zeros_split count_width (k - j) (omega arith)) ∙ ap number_of (take_at (zeros count_width) (zeros (k - j - count_width)) count_width (length_zeros count_width))

  -- ---- a collection's length, one row after the other: those that were passed are others'

  module _ (c i : ℕ) (same : length_of c (drop i l) ≡ length_of c l) where
    pub lengths_past : length l ≤ i → length_of c l ≡ 0
    unfolding length_of length_found lookup
    lengths_past past = sym same ∙ ap (length_of c) (drop_of_length-le l past)

    module _ (below : i < projection_entries) where
      -- a length of 0 ends the table
      pub lengths_ended : entries_at i table ≡ 0 → length_of c l ≡ 0
      lengths_ended e = test_cases (ltb i (length l)) (λ t. absurd (omega (arith, some_entries i (ltb-true i (length l) t)))) (λ t. lengths_past (ltb-false i (length l) t))

      module _ (some : entries_at i table ≡ 0 → ⊥) where
        within : i < length l
        within = test_cases (ltb i (length l)) (λ t. ltb-true i (length l) t) (λ t. absurd (some (none_told i (ltb-false i (length l) t) below)))

        next : drop i l ≡ at i ∷ drop (i + 1) l
        next = rw add-one (drop-cons l i no_length within)

        pub own_row : collection_at i table ≡ c → length_of c l ≡ entries_at i table
        unfolding length_of
        own_row e =
            sym same ∙ ap (λ (b : ℕ). length_of b (drop i l)) (sym e ∙ collection_told i within) ∙ ap (length_of (at i).collection) next ∙ ap or_zero (found_here (at i) (drop (i + 1) l)) ∙ sym (entries_told i within)

        pub other_row : (collection_at i table ≡ c → ⊥) → length_of c (drop (i + 1) l) ≡ length_of c l
        unfolding length_of
        other_row n = sym (ap (length_of c) next ∙ ap or_zero (found_past c (at i) (drop (i + 1) l) (λ e. n (collection_told i within ∙ e)))) ∙ same

-- ---- the collections of a plan's rows

collections_are : (plan cs : List ℕ) → ((j : ℕ) → j < length cs → field_at (j * planned_entry_width) id_width plan ≡ get_or cs j 0) → (n i : ℕ) → i + n ≡ length cs → collections_from i n plan ≡ drop i cs
unfolding collections_from
collections_are plan cs h zero i e = let none : length cs ≤ i = omega arith in sym (drop_of_length-le cs none)
collections_are plan cs h (suc n) i e =
    let below : i < length cs = omega arith in
    ap₂ (λ (a : ℕ) (b : List ℕ). a ∷ b) (h i below) (collections_are plan cs h n (suc i) (omega arith)) ∙ sym (drop-cons cs i 0 below)

module _ (count : ℕ) (plan : List ℕ) (es : List Entry) (s : PlannedEntries count plan es) (fit : All FitsEntry es) where
  planned_count : length es ≡ count
  planned_count = sym (length-map es planned_entry_row) ∙ s.rows.counted

  -- a row begins with its entry's collection
  planned_collection : (j : ℕ) → j < length es → field_at (j * planned_entry_width) id_width plan ≡ get_or (map (λ (e : Entry). e.collection) es) j 0
  unfolding planned_entry_row
  planned_collection j below =
      let e = get_or es j no_entry in
      let inside : j < count = omega (arith, planned_count) in
      let front = flatten (take j (map planned_entry_row es)) in
      let rest = flatten (drop (j + 1) (map planned_entry_row es)) ++ zeros (length plan - count * planned_entry_width) in
      let fields = u64 e.key ++ (u64 e.mark ++ u64 (source_number e.value)) in
      let split = row_split s.rows j inside ∙ ap (λ (r : List ℕ). front ++ (r ++ rest)) (get_or_image planned_entry_row es j no_entry [] below) ∙ ap (λ (r : List ℕ). front ++ r) (append_assoc (u64 e.collection) fields rest) in
      ap (field_at (j * planned_entry_width) id_width) split
      ∙ field_behind front (fields ++ rest) (j * planned_entry_width) id_width e.collection (before_length s.rows j (omega arith)) (all_member FitsEntry es fit (get_or_member es j no_entry below)).collection
      ∙ sym (get_or_image (λ (x : Entry). x.collection) es j no_entry 0 below)

  pub planned_collections : collections_from 0 count plan ≡ map (λ (e : Entry). e.collection) es
  planned_collections =
      let cs = map (λ (e : Entry). e.collection) es in
      let long = length-map es (λ (e : Entry). e.collection) in
      collections_are plan cs (λ j below. planned_collection j (omega (arith, long))) count 0 (omega (arith, long, planned_count))
