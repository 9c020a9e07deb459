-- Where the digits of a number stand in their array.
use Rattle.std.specs.Prelude.{ℕ, ◌+◌, ◌-◌, ◌≡◌, List, length, take, drop, replicate}
use Rattle.std.proofs.Common.{ap, ◌∙◌, arith, length-append, take_all, drop_at}
use Rattle.std.proofs.lemmas.List.{length-replicate}
use Rattle.spec_decimal.specs.Decimal.{decimal}
use Rattle.bytes_decimal.specs.Print.{most_digits, HoldsDigits}
use Rattle.bytes_decimal.specs.declared.Digits.{Digits}

module _ (n : ℕ) (d : Digits) (h : HoldsDigits n d) where
  abbrev leading_zeros : List ℕ
  leading_zeros = replicate d.start 0

  pub digits_long : length d.bytes ≡ most_digits
  digits_long = ap length h.bytes ∙ length-append leading_zeros (decimal n) ∙ ap (λ (k : ℕ). k + length (decimal n)) (length-replicate {A = ℕ} d.start 0) ∙ h.place

  -- from their start to the end
  pub digits_behind : take (most_digits - d.start) (drop d.start d.bytes) ≡ decimal n
  digits_behind =
      ap (λ (l : List ℕ). take (most_digits - d.start) (drop d.start l)) h.bytes
      ∙ ap (take (most_digits - d.start)) (drop_at leading_zeros (decimal n) d.start (length-replicate {A = ℕ} d.start 0))
      ∙ take_all (most_digits - d.start) (decimal n) (omega (arith, h.place))
