-- The table is right if a test passes that reads all its entries, and what the syntax says of a byte it says of its class: a test at each byte.
use Prim.Native.Nat.{ℕ, suc, ◌-◌, ◌<◌}
use mathlib.Core.Path.{◌≡◌, refl, ap, ap₂, subst, ◌∙◌}
use mathlib.Core.Bool.{Bool, true, false, ◌&&◌, beq}
use mathlib.Core.List.{List}
use native.Mathlib.Omega.{arith}
use lib.Bits.{bit_and}
use lib.Dec.{eqb, leb, ltb}
use lib.ListN.{get_or}
use borrow.Author.Tests.{eqb-true, eq-eqb, ltb-true}
use Rattle.spec_lists.specs.Lists.{equal_lists}
use Rattle.spec_lists.proofs.ListLaws.{and_left, and_right, equal_lists_equal}
use Rattle.spec_text.specs.Syntax.{Range, ◌⋯◌, inside, sequences, After, expects, refused, lead}
use Rattle.bytes_utf8.specs.Classes.{class_of, after_class, tails, IsTailClass, IsClassTable}
use Rattle.bytes_utf8.proofs.Below.{all_below, pass}

-- ---- the table

abbrev pub classes_right : List ℕ → Bool
classes_right classes = all_below (λ b. eqb (get_or classes b 0) (class_of b)) 256

pub class_table : (classes : List ℕ) → classes_right classes ≡ true → IsClassTable classes
class_table classes e = record { class_at = λ b h. eqb-true (get_or classes b 0) (class_of b) (pass (λ b. eqb (get_or classes b 0) (class_of b)) 256 e b h) }

-- ---- whether two states of the syntax are the same

abbrev same_range : Range → Range → Bool
same_range r s = eqb r.low s.low && eqb r.high s.high

abbrev pub same_class : After → After → Bool
same_class (expects rs) (expects ss) = equal_lists same_range rs ss
same_class (expects rs) refused = false
same_class refused (expects ss) = false
same_class refused refused = true

range_equal : (r s : Range) → same_range r s ≡ true → r ≡ s
range_equal r s e =
    let low : r.low ≡ s.low = eqb-true r.low s.low (and_left (eqb r.low s.low) (eqb r.high s.high) e) in
    let high : r.high ≡ s.high = eqb-true r.high s.high (and_right (eqb r.low s.low) (eqb r.high s.high) e) in
    ap₂ ◌⋯◌ low high

same_equal : (a b : After) → same_class a b ≡ true → a ≡ b
same_equal (expects rs) (expects ss) e = ap expects (equal_lists_equal same_range range_equal rs ss e)
same_equal (expects rs) refused e = cc
same_equal refused (expects ss) e = cc
same_equal refused refused e = refl

beq_equal : (a b : Bool) → beq a b ≡ true → a ≡ b
beq_equal false false e = refl
beq_equal false true e = cc
beq_equal true false e = cc
beq_equal true true e = refl

-- ---- first bytes

leads_right : ℕ → Bool
leads_right b = same_class (lead sequences b) (after_class (class_of b))

-- What a first byte leads to, its class says.
pub lead_class : (b : ℕ) → b < 256 → lead sequences b ≡ after_class (class_of b)
unfolding leads_right class_of after_class
lead_class b h = same_equal (lead sequences b) (after_class (class_of b)) (pass leads_right 256 refl b h)

-- ---- bytes below 0x80

ascii_right : ℕ → Bool
ascii_right b = beq (ltb b 0x80) (eqb (class_of b) 0)

-- They are the bytes of class 0.
pub class_ascii : (b : ℕ) → b < 256 → class_of b ≡ 0 → b < 0x80
unfolding ascii_right class_of
class_ascii b h e = ltb-true b 0x80 (beq_equal _ _ (pass ascii_right 256 refl b h) ∙ eq-eqb (class_of b) 0 e)

-- They are those without the highest bit.
high_right : ℕ → Bool
high_right b = beq (ltb b 0x80) (eqb (bit_and b 0x80) 0)

pub high_ascii : (b : ℕ) → b < 256 → bit_and b 0x80 ≡ 0 → b < 0x80
unfolding high_right
high_ascii b h e = ltb-true b 0x80 (beq_equal _ _ (pass high_right 256 refl b h) ∙ eq-eqb (bit_and b 0x80) 0 e)

-- ---- the bytes that follow

-- from the classes low + 1 to high + 1
tail_right : ℕ → ℕ → ℕ → Bool
tail_right b low high = beq (inside (tails (suc low) (suc high)) b) (leb (suc low) (class_of b) && leb (class_of b) (suc high))

tails_right : ℕ → Bool
tails_right b = all_below (λ low. all_below (tail_right b low) 3) 3

tail_class_suc : (b low high : ℕ) → b < 256 → low < 3 → high < 3
    → inside (tails (suc low) (suc high)) b ≡ (leb (suc low) (class_of b) && leb (class_of b) (suc high))
unfolding tails_right tail_right class_of
tail_class_suc b low high h l g =
    beq_equal _ _ (pass (tail_right b low) 3 (pass (λ low. all_below (tail_right b low) 3) 3 (pass tails_right 256 refl b h) low l) high g)

-- A byte is in the range of such classes exactly if its class is among them.
pub tail_class : (b low high : ℕ) → b < 256 → IsTailClass low → IsTailClass high
    → inside (tails low high) b ≡ (leb low (class_of b) && leb (class_of b) high)
tail_class b low high h l g =
    subst (λ (m : ℕ). inside (tails m high) b ≡ (leb m (class_of b) && leb (class_of b) high)) (omega arith)
    (subst (λ (n : ℕ). inside (tails (suc (low - 1)) n) b ≡ (leb (suc (low - 1)) (class_of b) && leb (class_of b) n)) (omega arith)
    (tail_class_suc b (low - 1) (high - 1) h (omega arith) (omega arith)))
