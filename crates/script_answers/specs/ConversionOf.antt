-- What a conversion hands to its printing.
use Rattle.std.specs.Prelude.{ℕ, ◌≡◌, List, Result}
use Rattle.spec_conversion.specs.Conversion.{Converted}
use Rattle.patch_converter.specs.Answers.{conversion_answer, conversion_output}
use Rattle.patch_converter.specs.declared.ConversionRefusal.{ConversionRefusal}

-- the answer of a conversion, and the bytes that it left of its output
pub record ConversionOf (c : Converted) (answer : Result ℕ ConversionRefusal) (output : List ℕ) : Type 0 where
  pub lent : List ℕ
  pub answered : answer ≡ conversion_answer c
  pub written : output ≡ conversion_output lent c
