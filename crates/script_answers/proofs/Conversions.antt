-- The line of a conversion, by what it answered.
use Prim.Native.Nat.{ℕ}
use mathlib.Core.Path.{◌≡◌, refl, ap, ◌∙◌}
use mathlib.Core.List.{List, [], ◌∷◌}
use native.Mathlib.Omega.{arith}
use lib.ListN.{length, drop}
use Rattle.std.specs.Prelude.{Option, Result, Ok, Err}
use Rattle.spec_conversion.specs.Conversion as model
use Rattle.spec_conversion.specs.Conversion.{conversion_number}
use Rattle.spec_decimal.specs.Decimal.{decimal}
use Rattle.spec_listing.specs.Listing.{fields}
use Rattle.spec_replay.specs.Answers.{conversion_line}
use Rattle.patch_converter.specs.Answers.{conversion_refusal_of, conversion_refusal_to}
use Rattle.patch_converter.specs.declared.ConversionRefusal.{ConversionRefusal}
use Rattle.bytes_printer.specs.Prints.{Prints}
use Rattle.script_answers.specs.ConversionOf.{ConversionOf}
use Rattle.script_answers.specs.SetPrints.{PrintsSet}

-- the set stands in the output from its start on
pub converted_line : (c : model.Converted) (answer : Result ℕ ConversionRefusal) (written : List ℕ) → ConversionOf c answer written → (n : ℕ) → answer ≡ Ok n → {out after : List ℕ} {at r : Option ℕ}
    → PrintsSet 84 n written out at after r → Prints out at (conversion_line c) after r
unfolding conversion_line
converted_line (model.converted bs) answer written h n is prints = prints bs (drop (length bs) h.lent) (cc (is, h.answered)) h.written
converted_line (model.refused f) answer written h n is prints = absurd (let z : ◌≡◌ {A = ℕ} 0 1 = cc (is, h.answered) in omega arith)

refusal_back : (f : model.ConversionRefusal) → conversion_refusal_of (conversion_refusal_to f) ≡ f
refusal_back model.over_capacity = refl
refusal_back model.malformed = refl
refusal_back model.kind_missing = refl
refusal_back model.output_too_short = refl

pub conversion_refused : (c : model.Converted) (answer : Result ℕ ConversionRefusal) (written : List ℕ) → ConversionOf c answer written → (f : ConversionRefusal) → answer ≡ Err f
    → 84 ∷ fields (decimal (conversion_number (conversion_refusal_of f)) ∷ []) ≡ conversion_line c
unfolding conversion_line
conversion_refused (model.converted bs) answer written h f is = absurd (let z : ◌≡◌ {A = ℕ} 0 1 = cc (is, h.answered) in omega arith)
conversion_refused (model.refused g) answer written h f is =
    let same : f ≡ conversion_refusal_to g = cc (is, h.answered) in
    ap (λ (r : model.ConversionRefusal). 84 ∷ fields (decimal (conversion_number r) ∷ [])) (ap conversion_refusal_of same ∙ refusal_back g)
