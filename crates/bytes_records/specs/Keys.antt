-- The little-endian numbers that a row begins with, and how one key of numbers stands to another.
use Rattle.std.specs.Prelude.{ℕ, List, [], ◌∷◌, take, drop, if◌then◌else◌}
use Rattle.spec_lists.specs.Bytes.{number_of}
use Rattle.spec_lists.specs.Order.{lex_less}
use Rattle.std.specs.declared.cmp.Ordering.{Ordering}
use Rattle.std.specs.declared.cmp.Ordering.TheVariants.{Less, Equal, Greater}

-- the numbers that a row begins with, each of so many bytes
unfoldable pub leading_numbers : List ℕ → List ℕ → List ℕ
leading_numbers [] row = []
leading_numbers (n ∷ sizes) row = number_of (take n row) ∷ leading_numbers sizes (drop n row)

-- how key a stands to key b
unfoldable pub order_of : List ℕ → List ℕ → Ordering
order_of a b = if lex_less b a then Greater else if lex_less a b then Less else Equal
