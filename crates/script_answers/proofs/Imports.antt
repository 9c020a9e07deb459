-- The line of a term list that was brought in, by what the call answered.
use Prim.Native.Nat.{ℕ}
use mathlib.Core.Path.{◌≡◌, refl, ap, ◌∙◌}
use mathlib.Core.List.{List, [], ◌∷◌}
use native.Mathlib.Omega.{arith}
use lib.ListN.{length, drop}
use Rattle.std.specs.Prelude.{Option, Result, Ok, Err}
use Rattle.spec_import.specs.Import as model
use Rattle.spec_import.specs.Import.{import_number}
use Rattle.spec_decimal.specs.Decimal.{decimal}
use Rattle.spec_listing.specs.Listing.{fields}
use Rattle.spec_replay.specs.Answers.{import_line}
use Rattle.patch_import.specs.Answers.{import_refusal_of, import_refusal_to}
use Rattle.patch_import.specs.declared.answer.ImportRefusal.{ImportRefusal}
use Rattle.bytes_printer.specs.Prints.{Prints}
use Rattle.script_answers.specs.ImportOf.{ImportOf}
use Rattle.script_answers.specs.SetPrints.{PrintsSet}

-- the set stands in the output from its start on
pub imported_line : (c : model.Imported) (answer : Result ℕ ImportRefusal) (written : List ℕ) → ImportOf c answer written → (n : ℕ) → answer ≡ Ok n → {out after : List ℕ} {at r : Option ℕ}
    → PrintsSet 73 n written out at after r → Prints out at (import_line c) after r
unfolding import_line
imported_line (model.imported bs) answer written h n is prints = prints bs (drop (length bs) h.lent) (cc (is, h.answered)) h.written
imported_line (model.refused f) answer written h n is prints = absurd (let z : ◌≡◌ {A = ℕ} 0 1 = cc (is, h.answered) in omega arith)

refusal_back : (f : model.ImportRefusal) → import_refusal_of (import_refusal_to f) ≡ f
refusal_back model.other_form = refl
refusal_back model.over_capacity = refl
refusal_back model.patch_invalid = refl
refusal_back model.output_too_short = refl

pub import_refused : (c : model.Imported) (answer : Result ℕ ImportRefusal) (written : List ℕ) → ImportOf c answer written → (f : ImportRefusal) → answer ≡ Err f
    → 73 ∷ fields (decimal (import_number (import_refusal_of f)) ∷ []) ≡ import_line c
unfolding import_line
import_refused (model.imported bs) answer written h f is = absurd (let z : ◌≡◌ {A = ℕ} 0 1 = cc (is, h.answered) in omega arith)
import_refused (model.refused g) answer written h f is =
    let same : f ≡ import_refusal_to g = cc (is, h.answered) in
    ap (λ (r : model.ImportRefusal). 73 ∷ fields (decimal (import_number r) ∷ [])) (ap import_refusal_of same ∙ refusal_back g)
