-- The classes of bytes, the table of them, and what the syntax allows after a byte of each class.
use Rattle.std.specs.Prelude.{ℕ, ◌-◌, ◌≤◌, ◌<◌, ◌≡◌, List, [], ◌∷◌, eqb, ltb, get_or, replicate, if◌then◌else◌}
use Rattle.spec_text.specs.Syntax.{Range, ◌⋯◌, tail, After, expects, refused}

-- The class of a byte. Class 11 is of the bytes that stand in no sequence: 0xc0, 0xc1 and from 0xf5 on.
unfoldable pub class_of : ℕ → ℕ
class_of b =
    if ltb b 0x80 then 0 else
    if ltb b 0x90 then 1 else
    if ltb b 0xa0 then 2 else
    if ltb b 0xc0 then 3 else
    if ltb b 0xc2 then 11 else
    if ltb b 0xe0 then 4 else
    if ltb b 0xe1 then 5 else
    if ltb b 0xed then 6 else
    if ltb b 0xee then 7 else
    if ltb b 0xf0 then 6 else
    if ltb b 0xf1 then 8 else
    if ltb b 0xf4 then 9 else
    if ltb b 0xf5 then 10 else 11

-- a table of the classes of all bytes
pub record IsClassTable (classes : List ℕ) : Type 0 where
  pub class_at : (b : ℕ) → b < 256 → get_or classes b 0 ≡ class_of b

-- a class of the bytes that follow a first byte
abbrev pub IsTailClass : ℕ → Type 0
IsTailClass c = (1 ≤ c) × (c ≤ 3)

-- the bytes of such classes, from one to another
abbrev pub tails : ℕ → ℕ → Range
tails low high = get_or (0 ∷ 0x80 ∷ 0x90 ∷ 0xa0 ∷ []) low 0 ⋯ get_or (0 ∷ 0x8f ∷ 0x9f ∷ 0xbf ∷ []) high 0

-- what follows the first byte of a sequence of n bytes, the next one of such classes
abbrev pub sequence : ℕ → ℕ → ℕ → After
sequence low high n = expects (tails low high ∷ replicate (n - 2) tail)

-- what the syntax allows after a first byte of the class
unfoldable pub after_class : ℕ → After
after_class c =
    if eqb c 0 then expects [] else
    if eqb c 4 then sequence 1 3 2 else
    if eqb c 5 then sequence 3 3 3 else
    if eqb c 6 then sequence 1 3 3 else
    if eqb c 7 then sequence 1 2 3 else
    if eqb c 8 then sequence 2 3 4 else
    if eqb c 9 then sequence 1 3 4 else
    if eqb c 10 then sequence 1 1 4 else refused

-- the bytes of a class begin the sequences of so many bytes, with any tails
abbrev pub Leads : ℕ → ℕ → Type 0
Leads class width = (2 ≤ width) × (width ≤ 4) × (after_class class ≡ sequence 1 3 width)
