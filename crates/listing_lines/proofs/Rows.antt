-- The line of a record, and the text of a value.
use Prim.Native.Nat.{ℕ, ◌-◌, min}
use mathlib.Core.Path.{◌≡◌, refl, sym, ap, ◌∙◌}
use mathlib.Core.List.{List, [], ◌∷◌}
use native.Mathlib.Omega.{arith}
use lib.Dec.{leb}
use lib.ListN.{length, take}
use lib.Seq.{take_all}
use borrow.Author.Tests.{leb-true, leb-false}
use Rattle.spec_lists.proofs.ListLaws.{test_cases}
use Rattle.spec_decimal.specs.Decimal.{decimal}
use Rattle.spec_listing.specs.Listing.{fields}

-- ---- the line

-- the same numbers and further fields
pub same_record : (letter : ℕ) {n m a b : ℕ} {k l : List (List ℕ)} → n ≡ a → m ≡ b → k ≡ l → letter ∷ fields (decimal n ∷ decimal m ∷ k) ≡ letter ∷ fields (decimal a ∷ decimal b ∷ l)
same_record letter e f g = λ i. letter ∷ fields (decimal (e i) ∷ decimal (f i) ∷ g i)

pub none_more : ◌≡◌ {A = List (List ℕ)} [] []
none_more = refl

-- ---- a text up to its length

pub front : (text : List ℕ) (n most : ℕ) → length text ≡ most → take (min n most - 0) text ≡ take n text
front text n most size =
    test_cases (leb n most)
    (λ t. let same : min n most - 0 ≡ n = omega (arith, leb-true n most t) in ap (λ (k : ℕ). take k text) same)
    (λ t. let more = leb-false n most t in take_all (min n most - 0) text (omega arith) ∙ sym (take_all n text (omega arith)))
