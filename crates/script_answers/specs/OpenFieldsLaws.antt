-- The first fields of a line and those behind them make the line.
use Rattle.std.specs.Prelude.{ℕ, ◌≡◌, refl, List, [], ◌∷◌, ◌++◌, Option}
use Rattle.std.proofs.Common.{sym, ap, ◌∙◌, append_assoc, append-nil}
use Rattle.spec_listing.specs.Listing.{fields}
use Rattle.bytes_printer.specs.Prints.{spaced_field, Prints}
use Rattle.bytes_printer.proofs.PrintsLaws.{◌⨾◌, prints_same}
use Rattle.script_answers.specs.OpenFields.{open_fields}

open_fields_lem : (fs gs : List (List ℕ)) → open_fields fs ++ fields gs ≡ fields (fs ++ gs)
unfolding open_fields fields
open_fields_lem [] gs = refl
open_fields_lem (f ∷ fs) gs = append_assoc (spaced_field f) (open_fields fs) (fields gs) ∙ ap (λ (bs : List ℕ). spaced_field f ++ bs) (open_fields_lem fs gs)

module _ {l m : List ℕ} {at r : Option ℕ} where
  -- the last of the first fields
  pub last_open : {f : List ℕ} → Prints l at (spaced_field f) m r → Prints l at (open_fields (f ∷ [])) m r
  unfolding open_fields
  last_open {f} p = prints_same (sym (append-nil (spaced_field f))) p

  -- the line goes on behind its first fields
  pub line : {n : List ℕ} {s : Option ℕ} (fs gs : List (List ℕ)) → Prints l at (open_fields fs) m r → Prints m r (fields gs) n s → Prints l at (fields (fs ++ gs)) n s
  line fs gs p q = prints_same (open_fields_lem fs gs) (p ⨾ q)
