-- Places of an answer table that are lent and come back: what the table holds then.
use Prim.Native.Nat.{ℕ, ◌+◌, ◌-◌, ◌*◌, ◌≤◌, ◌<◌}
use mathlib.Core.Path.{◌≡◌, sym, ap, ap₂, ◌∙◌, subst}
use mathlib.Core.List.{List, [], ◌∷◌, ◌++◌, map, map-append, append-nil}
use native.Mathlib.Numerals.{add-one}
use native.Mathlib.Omega.{arith}
use borrow.Rule.Slice.PartMut.{mid_of, put_mid}
use lib.ListN.{length, take, drop, get_or, length-append, length-map, length-replicate, drop_of_length-le}
use lib.Seq.{take-suc, drop-cons, take_all, take_at, drop_at, get_or_at, append_snoc, length-take-le}
use Rattle.bytes_records.specs.Moves.{overwrite_rows}
use Rattle.bytes_records.specs.Positions.{replace_at}
use Rattle.bytes_records.specs.PositionsLaws.{map_replace_at}
use Rattle.bytes_records.specs.Table.{HoldsRows}
use Rattle.bytes_records.specs.TableLaws.{row_width}
use Rattle.bytes_records.proofs.Changes.{row_is, replace_holds}
use Rattle.panel_rows.specs.Rows.{filled_row, written_row}
use Rattle.panel_rows.specs.RowsLaws.{written_filled}
use Rattle.panel_page.specs.PageTable.{page_width}
use Rattle.panel_page.specs.Shown.{shown, Shows}
use Rattle.panel_page.specs.ShownLaws.{shown_itself}

-- a row in place of another of its width
over : (r old : List ℕ) → length old ≡ length r → r ≡ overwrite_rows r old
over r old same =
    let all : length old ≤ length r = omega arith in
    sym (ap (λ (l : List ℕ). r ++ l) (drop_of_length-le old all) ∙ append-nil r)

module _ {w n : ℕ} {l : List ℕ} (m : List (List ℕ)) (t : HoldsRows w n l m) (i : ℕ) (below : i < n) where
  -- a place is lent, and comes back as what f makes of it
  pub place_changed : (f : List ℕ → List ℕ) → ((row : List ℕ) → length (f row) ≡ length row) → (s : List ℕ) → s ≡ f (mid_of (i * w) (i * w + w - i * w) l)
      → HoldsRows w n (put_mid (i * w) (i * w + w - i * w) l s) (replace_at i (f (get_or m i [])) m)
  place_changed f keeps s e =
      let row = get_or m i [] in
      let part = row_is m t i below in
      let width = keeps row ∙ row_width t i below in
      replace_holds m t i below (f row) width s (e ∙ ap f part ∙ over (f row) _ (ap length part ∙ sym (keeps row)))

-- ---- the places of a table, changed one after the other

-- the first i by f
abbrev pub changed_to : (List ℕ → List ℕ) → ℕ → List (List ℕ) → List (List ℕ)
changed_to f i m = map f (take i m) ++ drop i m

module _ (f : List ℕ → List ℕ) (m : List (List ℕ)) (i : ℕ) (below : i < length m) where
  front : length (map f (take i m)) ≡ i
  front = length-map (take i m) f ∙ length-take-le i m (omega arith)

  rest_is : drop i m ≡ get_or m i [] ∷ drop (i + 1) m
  rest_is = drop-cons m i [] below ∙ ap (λ (k : ℕ). get_or m i [] ∷ drop k m) (sym (add-one i))

  next_place : get_or (changed_to f i m) i [] ≡ get_or m i []
  next_place = ap (λ (l : List (List ℕ)). get_or (map f (take i m) ++ l) i []) rest_is ∙ get_or_at (map f (take i m)) (get_or m i []) (drop (i + 1) m) [] i front

  changed_more : replace_at i (f (get_or m i [])) (changed_to f i m) ≡ changed_to f (i + 1) m
  changed_more =
      let row = get_or m i [] in
      let more = drop (i + 1) m in
      let one : length (map f (take i m) ++ row ∷ []) ≡ i + 1 = length-append (map f (take i m)) (row ∷ []) ∙ omega (arith, front) in
      let behind : drop (i + 1) (map f (take i m) ++ row ∷ more) ≡ more = ap (drop (i + 1)) (sym (append_snoc (map f (take i m)) row more)) ∙ drop_at (map f (take i m) ++ row ∷ []) more (i + 1) one in
      let taken : map f (take (i + 1) m) ≡ map f (take i m) ++ f row ∷ [] = ap (λ (k : ℕ). map f (take k m)) (add-one i) ∙ ap (map f) (take-suc m i [] below) ∙ map-append f (take i m) (row ∷ []) in
      ap (λ (l : List (List ℕ)). replace_at i (f row) (map f (take i m) ++ l)) rest_is
      ∙ ap₂ (λ (a b : List (List ℕ)). a ++ f row ∷ b) (take_at (map f (take i m)) (row ∷ more) i front) behind
      ∙ sym (append_snoc (map f (take i m)) (f row) more) ∙ ap (λ (a : List (List ℕ)). a ++ more) (sym taken)

-- one place more
pub changed_turn : {w n : ℕ} {l : List ℕ} (f : List ℕ → List ℕ) → ((row : List ℕ) → length (f row) ≡ length row) → (m : List (List ℕ)) (i : ℕ) → i < n → length m ≡ n
    → HoldsRows w n l (changed_to f i m) → (s : List ℕ) → s ≡ f (mid_of (i * w) (i * w + w - i * w) l) → HoldsRows w n (put_mid (i * w) (i * w + w - i * w) l s) (changed_to f (i + 1) m)
changed_turn {w} {n} {l} f keeps m i below count t s e =
    let inside : i < length m = omega arith in
    subst (HoldsRows w n _) (ap (λ (row : List ℕ). replace_at i (f row) (changed_to f i m)) (next_place f m i inside) ∙ changed_more f m i inside) (place_changed (changed_to f i m) t i below f keeps s e)

pub changed_all : (f : List ℕ → List ℕ) (m : List (List ℕ)) (i : ℕ) → length m ≤ i → changed_to f i m ≡ map f m
changed_all f m i h = ap₂ (λ (a b : List (List ℕ)). map f a ++ b) (take_all i m h) (drop_of_length-le m h) ∙ append-nil (map f m)

-- ---- a row that is written

length_filled : (w : ℕ) (head rest : List ℕ) → length head + length rest ≤ w → length (filled_row w head rest) ≡ w
unfolding filled_row
length_filled w head rest room = simp (length-append, length-replicate) (omega arith)

-- a row that begins with 1 stands for itself
filled_itself : (w : ℕ) (head rest : List ℕ) → get_or head 0 0 ≡ 1 → shown (filled_row w head rest) ≡ filled_row w head rest
unfolding filled_row
filled_itself w [] rest first = absurd (omega (arith, first))
filled_itself w (x ∷ head) rest first = shown_itself _ (omega (arith, first))

module _ {n : ℕ} {l : List ℕ} {rows : List (List ℕ)} (t : Shows n l rows) (i : ℕ) (below : i < n) (head rest : List ℕ) (first : get_or head 0 0 ≡ 1) (room : length head + length rest ≤ page_width) where
  pub place_shown : (s : List ℕ) → s ≡ written_row head rest (mid_of (i * page_width) (i * page_width + page_width - i * page_width) l)
      → Shows n (put_mid (i * page_width) (i * page_width + page_width - i * page_width) l s) (replace_at i (filled_row page_width head rest) rows)
  place_shown s e =
      let part = mid_of (i * page_width) (i * page_width + page_width - i * page_width) l in
      let row = filled_row page_width head rest in
      let long : length part ≡ page_width = ap length (row_is t.places t.held i below) ∙ row_width t.held i below in
      let width = length_filled page_width head rest room in
      let filled : s ≡ row = e ∙ written_filled head rest part (omega arith) ∙ ap (λ (k : ℕ). filled_row k head rest) long in
      record {
        places = replace_at i row t.places;
        held = replace_holds t.places t.held i below row width s (filled ∙ over row part (long ∙ sym width));
        stand = map_replace_at shown i row t.places ∙ ap₂ (λ (x : List ℕ) (m : List (List ℕ)). replace_at i x m) (filled_itself page_width head rest first) t.stand;
      }
