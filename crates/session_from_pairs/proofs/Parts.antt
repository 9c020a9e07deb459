-- The elements of an array in memory: the first i and the rest, apart and together again. Assumes `Logic`.
use mathlib.Core.Path.{◌≡◌, refl, sym}
use Prim.Native.Nat.{ℕ}
use mathlib.Core.List.{List, [], ◌∷◌, ◌++◌}
use lib.ListN.{length, take, drop as drop-list, take-append-drop}
use seplogic.Ra.Ura.{Ura}
use base.Logic.{ent, sep}
use base.Fml.{Fml, Share}
use types.Logic.{Logic, sem}
use types.Kit.{‵, ◌⊛◌, ◌$◌, !, qed, move, drop as toss, use1, use2, split, rewrite, fsplit, fjoin, feq_i, done}
use types.SemTy.{cells}
use types.Share.{arr_parts}
use denote.RattleType.{RattleType}
use denote.Memory.{mem, shares}
use borrow.Table.Elements.{at, cut_app, join_app}
use borrow.Rule.Slice.Shared.{Sh, parts-cells}

-- the share s of n elements from the offset o on
abbrev pub PairRow : (R : RattleType) → ℕ → Share → List R.Denot → ℕ → ℕ → Fml
PairRow R n s xs b o = (arr_parts (shares R) n).part s xs b o

-- where the elements after the first i begin
abbrev pub past : (R : RattleType) → ℕ → ℕ → List R.Denot → ℕ
past R o i xs = at o (mem R).size (length (take i xs))

module _ {M : Type 1} {𝓤 : Ura M} (𝓛 : Logic 𝓤) (R : RattleType) (s : Share) (n i : ℕ) (xs : List R.Denot) (b o : ℕ) where
  abbrev pub Front : Fml
  Front = PairRow R (length (take i xs)) s (take i xs) b o

  abbrev pub Back : Fml
  Back = PairRow R (length (drop-list i xs)) s (drop-list i xs) b (past R o i xs)

  pub cut_row : ent 𝓤 (sem 𝓛 (PairRow R n s xs b o)) (sep 𝓤 (sem 𝓛 Front) (sem 𝓛 Back))
  cut_row = qed 𝓛 (‵ (PairRow R n s xs b o) ∷ []) {P = sep 𝓤 (sem 𝓛 Front) (sem 𝓛 Back)} (
      fsplit ! $ toss ! $ rewrite ! 0 (λ (F : Fml). ‵ F) (parts-cells R s xs b o) refl $ rewrite ! 0 (λ (ys : List R.Denot). ‵ (cells (Sh R s) ys b o)) (sym (take-append-drop i xs)) refl $
      use1 𝓛 (‵ (cells (Sh R s) (take i xs) b o) ⊛ ‵ (cells (Sh R s) (drop-list i xs) b (past R o i xs))) (cut_app 𝓛 (Sh R s) (take i xs) (drop-list i xs) b o) $ split ! $
      rewrite ! 0 (λ (F : Fml). ‵ F) (sym (parts-cells R s (take i xs) b o)) refl $ feq_i ! ℕ (length (take i xs)) (length (take i xs)) refl $ fjoin ! $ move ! (1 ∷ []) $
      rewrite ! 0 (λ (F : Fml). ‵ F) (sym (parts-cells R s (drop-list i xs) b (past R o i xs))) refl $ feq_i ! ℕ (length (drop-list i xs)) (length (drop-list i xs)) refl $ fjoin ! $ move ! (1 ∷ 0 ∷ []) $ done !)

  pub join_row : length xs ≡ n → ent 𝓤 (sep 𝓤 (sem 𝓛 Front) (sem 𝓛 Back)) (sem 𝓛 (PairRow R n s xs b o))
  join_row e = qed 𝓛 (‵ Front ∷ ‵ Back ∷ []) {P = sem 𝓛 (PairRow R n s xs b o)} (
      fsplit ! $ toss ! $ rewrite ! 0 (λ (F : Fml). ‵ F) (parts-cells R s (take i xs) b o) refl $ move ! (1 ∷ []) $ fsplit ! $ toss ! $ rewrite ! 0 (λ (F : Fml). ‵ F) (parts-cells R s (drop-list i xs) b (past R o i xs)) refl $ move ! (1 ∷ 0 ∷ []) $
      use2 𝓛 (‵ (cells (Sh R s) (take i xs ++ drop-list i xs) b o)) (join_app 𝓛 (Sh R s) (take i xs) (drop-list i xs) b o) $
      rewrite ! 0 (λ (ys : List R.Denot). ‵ (cells (Sh R s) ys b o)) (take-append-drop i xs) refl $ rewrite ! 0 (λ (F : Fml). ‵ F) (sym (parts-cells R s xs b o)) refl $
      feq_i ! ℕ (length xs) n e $ fjoin ! $ done !)
