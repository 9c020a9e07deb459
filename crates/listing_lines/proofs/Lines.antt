-- A line for each row of a table: the row at a position is that of the list's element there.
use Prim.Native.Nat.{ℕ, zero, suc, ◌+◌, ◌<◌}
use mathlib.Core.Path.{◌≡◌, refl, sym, ap, ◌∙◌, subst}
use mathlib.Core.List.{List, [], ◌∷◌, ◌++◌, append-nil, map, flat_map}
use native.Mathlib.Numerals.{add-one}
use native.Mathlib.Omega.{arith}
use lib.ListN.{length, take, get_or}
use Rattle.std.specs.Prelude.{Option}
use Rattle.spec_lists.specs.Lists.{All}
use Rattle.spec_lists.proofs.ListLaws.{flat_map_append}
use Rattle.bytes_printer.specs.Prints.{Prints}
use Rattle.bytes_printer.proofs.PrintsLaws.{◌⨾◌, prints_same}
use Rattle.listing_lines.specs.declared.RowKind.{RowKind}
use Rattle.listing_lines.specs.RowKinds.{Element, FitsRow as FitsKind, row_of, line_of_row}

-- the element at a position of a list, and its row
pub record ElementAt {A : Type 0} (Fits : A → Type 0) (row : A → List ℕ) (xs : List A) (i : ℕ) : Type 0 where
  pub element : A
  pub fits : Fits element
  pub stored : get_or (map row xs) i [] ≡ row element
  pub more : take (suc i) xs ≡ take i xs ++ (element ∷ [])

module _ {A : Type 0} (Fits : A → Type 0) (row : A → List ℕ) where
  pub element_at : (xs : List A) (i : ℕ) → i < length xs → All Fits xs → ElementAt Fits row xs i
  element_at [] i h fit = absurd (omega arith)
  element_at (x ∷ xs) zero h fit = record { element = x; fits = fit.0; stored = refl; more = refl }
  element_at (x ∷ xs) (suc i) h fit =
      let e = element_at xs i (omega arith) fit.1 in
      record { element = e.element; fits = e.fits; stored = e.stored; more = ap (λ (l : List A). x ∷ l) e.more }

  -- the line of the element at a position, behind those before it
  pub line_more : (line : A → List ℕ) (xs : List A) (i : ℕ) (e : ElementAt Fits row xs i) {l m n : List ℕ} {at r s : Option ℕ} → Prints l at (flat_map line (take i xs)) m r → Prints m r (line e.element) n s
      → Prints l at (flat_map line (take (i + 1) xs)) n s
  unfolding flat_map
  line_more line xs i e p q =
      let lines : flat_map line (take (i + 1) xs) ≡ flat_map line (take i xs) ++ line e.element =
      ap (flat_map line) (ap (λ (k : ℕ). take k xs) (add-one i) ∙ e.more)
      ∙ flat_map_append line (take i xs) (e.element ∷ [])
      ∙ ap (λ (b : List ℕ). flat_map line (take i xs) ++ b) (append-nil (line e.element)) in
      prints_same (sym lines) (p ⨾ q)

-- ---- the kind of a row, as a match told it

pub kind_told : {row l m : List ℕ} {at r : Option ℕ} {kind k : RowKind} → kind ≡ k → ((x : Element k) → FitsKind k x → row ≡ row_of k x → Prints l at (line_of_row k x) m r)
    → (x : Element kind) → FitsKind kind x → row ≡ row_of kind x → Prints l at (line_of_row kind x) m r
kind_told {row} {l} {m} {at} {r} is p = subst (λ (k : RowKind). (x : Element k) → FitsKind k x → row ≡ row_of k x → Prints l at (line_of_row k x) m r) (sym is) p
