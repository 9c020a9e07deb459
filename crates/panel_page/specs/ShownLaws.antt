-- Laws of places: what they stand for once they are emptied, and that any bytes of the right number are places.
use Prim.Native.Nat.{ℕ, zero, suc, ◌*◌, ◌≤◌, ◌<◌}
use Rattle.std.specs.Prelude.{◌≡◌, Bool, true, false, eqb, length, drop, get_or}
use Rattle.std.proofs.Math.Path.{refl, ap}
use Rattle.std.proofs.Common.{sym, ap₂, ◌∙◌, arith, eq-eqb, ne_eqb, length-set}
use mathlib.Core.List.{List, [], ◌∷◌, ◌++◌, map, flatten, append-nil}
use Rattle.std.proofs.Math.Nat.{suc-mul}
use Rattle.std.proofs.Math.ListN.{take, length-take, length-drop, take-append-drop}
use Rattle.spec_lists.specs.Lists.{All}
use Rattle.spec_lists.proofs.ListLaws.{if_cases}
use Rattle.bytes_records.specs.Moves.{zeros}
use Rattle.bytes_records.specs.MovesLaws.{length_zeros}
use Rattle.bytes_records.specs.Table.{Wide, HoldsRows}
use Rattle.bytes_records.specs.TableLaws.{holds}
use Rattle.panel_page.specs.PageTable.{page_width}
use Rattle.panel_page.specs.PageTableLaws.{nothing_found}
use Rattle.panel_page.specs.Answering.{answers_in}
use Rattle.panel_page.specs.Shown.{emptied, shown, place_after, Shows}

-- ---- places

pub length_shown : (row : List ℕ) → length (shown row) ≡ length row
unfolding shown
length_shown row = if_cases (λ (l : List ℕ). length l ≡ length row) (eqb (get_or row 0 0) 0) (zeros (length row)) row (λ t. length_zeros (length row)) (λ t. refl)

pub length_after : (ending : Bool) (row : List ℕ) → length (place_after ending row) ≡ length row
length_after true row = length_shown row
length_after false row = length-set row 0 0

-- one whose first byte is not 0 stands for itself
pub shown_itself : (row : List ℕ) → 0 < get_or row 0 0 → shown row ≡ row
unfolding shown
shown_itself row h = rw (ne_eqb (get_or row 0 0) 0 (λ e. omega arith))

pub shown_zeros : (row : List ℕ) → get_or row 0 0 ≡ 0 → shown row ≡ zeros (length row)
unfolding shown
shown_zeros row h = rw (eq-eqb (get_or row 0 0) 0 h)

pub shown_nothing : (row : List ℕ) → length row ≡ 0 → row ≡ shown row
unfolding shown
shown_nothing [] h = refl
shown_nothing (x ∷ row) h = absurd (omega (arith, h))

shown_emptied : (row : List ℕ) → shown (emptied row) ≡ zeros (length row)
unfolding shown
shown_emptied [] = refl
shown_emptied (x ∷ row) = refl

-- ---- any bytes are places

-- the first n rows of so many bytes
unfoldable pub places_of : (w n : ℕ) → List ℕ → List (List ℕ)
places_of w zero l = []
places_of w (suc n) l = take w l ∷ places_of w n (drop w l)

module _ (w : ℕ) where
  places_wide : (n : ℕ) (l : List ℕ) → n * w ≤ length l → All (Wide w) (places_of w n l)
  unfolding places_of
  places_wide zero l h = tt
  places_wide (suc n) l h = (simp length-take (omega (arith, suc-mul n w)), places_wide n (drop w l) (simp length-drop (omega (arith, suc-mul n w))))

  places_count : (n : ℕ) (l : List ℕ) → length (places_of w n l) ≡ n
  unfolding places_of
  places_count zero l = refl
  places_count (suc n) l = ap suc (places_count n (drop w l))

  places_bytes : (n : ℕ) (l : List ℕ) → length l ≡ n * w → flatten (places_of w n l) ≡ l
  unfolding places_of flatten
  places_bytes zero [] e = refl
  places_bytes zero (x ∷ l) e = absurd (omega (arith, e))
  places_bytes (suc n) l e =
      ap (λ (r : List ℕ). take w l ++ r) (places_bytes n (drop w l) (simp length-drop (omega (arith, suc-mul n w)))) ∙ take-append-drop w l

  pub places_held : (n : ℕ) (l : List ℕ) → length l ≡ n * w → HoldsRows w n l (places_of w n l)
  places_held n l e = holds w n l (places_of w n l) 0 (places_wide n l (omega arith)) (places_count n l) (sym (append-nil _ ∙ places_bytes n l e))

-- ---- emptied places are the rows of keys of which none was found

empty_rows : (c : ℕ) (keys : List ℕ) (m : List (List ℕ)) → All (Wide page_width) m → length m ≡ length keys → map shown (map emptied m) ≡ map (answers_in c []) keys
empty_rows c [] [] wide e = refl
empty_rows c [] (r ∷ m) wide e = absurd (omega (arith, e))
empty_rows c (k ∷ keys) [] wide e = absurd (omega (arith, e))
empty_rows c (k ∷ keys) (r ∷ m) wide e =
    ap₂ (λ (x : List ℕ) (l : List (List ℕ)). x ∷ l) (shown_emptied r ∙ ap zeros wide.0 ∙ sym (nothing_found c k)) (empty_rows c keys m wide.1 (omega (arith, e)))

pub shows_nothing : (c : ℕ) (keys l : List ℕ) (m : List (List ℕ)) → All (Wide page_width) m → length m ≡ length keys → HoldsRows page_width (length keys) l (map emptied m)
    → Shows (length keys) l (map (answers_in c []) keys)
shows_nothing c keys l m wide e t = record { places = map emptied m; held = t; stand = empty_rows c keys m wide e }
