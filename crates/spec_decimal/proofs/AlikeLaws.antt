-- Two numbers of 64 bits that are printed alike are equal.
use Rattle.std.specs.Prelude.{ℕ, ◌^◌, ◌<◌, ◌≡◌}
use Rattle.std.proofs.Common.{sym, ap, ◌∙◌}
use Rattle.std.proofs.Math.Option.{some}
use Rattle.spec_decimal.specs.Decimal.{decimal, read_decimal}
use Rattle.spec_decimal.proofs.ReadLaws.{read_decimal_decimal}

-- two numbers of 64 bits that are printed alike are equal
pub decimal_injective : (m n : ℕ) → m < 2 ^ 64 → n < 2 ^ 64 → decimal m ≡ decimal n → m ≡ n
decimal_injective m n h g e =
    same_some (sym (read_decimal_decimal m h) ∙ ap read_decimal e ∙ read_decimal_decimal n g)
  where
    same_some : some m ≡ some n → m ≡ n
    same_some p = cc
