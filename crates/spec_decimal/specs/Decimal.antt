-- Numbers in decimal, as the bytes of their digits: printed, and read.
use Rattle.std.specs.Prelude.{ℕ, zero, suc, ◌+◌, ◌-◌, ◌*◌, ◌/◌, ◌%◌, ◌^◌, Bool, false, not, ◌&&◌, ◌||◌, List, [], ◌∷◌, ◌++◌, ltb, eqb, ℤ, pos, negsuc, if◌then◌else◌}
use Rattle.std.proofs.Math.Option.{Option, none, some}
use Rattle.spec_lists.specs.Lists.{between, all, is_empty}

-- the byte of a digit: 48 is the character 0
abbrev pub digit : ℕ → ℕ
digit d = 48 + d

-- at most so many digits, without leading zeros
unfoldable pub digits : ℕ → ℕ → List ℕ
digits zero n = []
digits (suc k) n = if ltb n 10 then digit n ∷ [] else digits k (n / 10) ++ (digit (n % 10) ∷ [])

-- a u64 has at most 20 digits
unfoldable pub decimal : ℕ → List ℕ
decimal n = digits 20 n

-- an i64; 45 is the minus sign, and `negsuc n` is the number −(n + 1)
unfoldable pub signed_decimal : ℤ → List ℕ
signed_decimal (pos n) = decimal n
signed_decimal (negsuc n) = 45 ∷ decimal (suc n)

-- the characters 0 to 9
abbrev pub is_digit : ℕ → Bool
is_digit = between 48 57

-- at least one digit, digits only, and no leading zero: 0 is spelled by one digit
unfoldable pub is_numeral : List ℕ → Bool
is_numeral [] = false
is_numeral (b ∷ bs) = (is_empty bs || not (eqb b 48)) && all is_digit (b ∷ bs)

-- the number n with further digits after its own
unfoldable pub number_with : ℕ → List ℕ → ℕ
number_with n [] = n
number_with n (b ∷ bs) = number_with (10 * n + (b - 48)) bs

-- the u64 that bytes spell
unfoldable pub read_decimal : List ℕ → Option ℕ
read_decimal bs = if is_numeral bs && ltb (number_with 0 bs) (2 ^ 64) then some (number_with 0 bs) else none

-- an i64 that is not negative
unfoldable pub positive : Option ℕ → Option ℤ
positive none = none
positive (some n) = if ltb n (2 ^ 63) then some (pos n) else none

-- a negative i64, of what is spelled after its sign; there is no −0
unfoldable pub negative : Option ℕ → Option ℤ
negative none = none
negative (some zero) = none
negative (some (suc n)) = if ltb n (2 ^ 63) then some (negsuc n) else none

-- the i64 that bytes spell
unfoldable pub read_signed_decimal : List ℕ → Option ℤ
read_signed_decimal [] = none
read_signed_decimal (b ∷ bs) = if eqb b 45 then negative (read_decimal bs) else positive (read_decimal (b ∷ bs))
