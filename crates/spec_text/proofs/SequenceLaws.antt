-- Octets that match a sequence of ranges, and how the syntax reads them.
use Rattle.std.specs.Prelude.{ℕ, zero, suc, ◌+◌, ◌≤◌, ◌<◌, ◌≡◌, refl, ◌⊎◌, true, false, List, [], ◌∷◌, ◌++◌, leb, get_or, if◌then◌else◌}
use Rattle.std.proofs.Common.{◌∙◌, ap, inl, inr, zero-add, arith, le-leb}
use Rattle.std.proofs.Math.Bool.{and-false}
use Rattle.std.proofs.lemmas.Bool.{lt-leb}
use Rattle.spec_text.specs.Syntax.{Range, inside, sequences, After, expects, lead, advance, whole, is_utf8_after, characters_after, is_utf8, characters}

pub inside_of : (r : Range) (b : ℕ) → r.low ≤ b → b ≤ r.high → inside r b ≡ true
inside_of r b l h = rw (le-leb r.low b l, le-leb b r.high h)

above : (r : Range) (b : ℕ) → r.high < b → inside r b ≡ false
above r b h = rw (lt-leb b r.high h) (and-false (leb r.low b))

-- the octets are one for each range, and in it
abbrev pub Matches : List Range → List ℕ → Type 0
Matches [] [] = Unit {0}
Matches [] (x ∷ xs) = ⊥
Matches (r ∷ rs) [] = ⊥
Matches (r ∷ rs) (x ∷ xs) = (r.low ≤ x) × (x ≤ r.high) × Matches rs xs

-- they match one of the sequences
abbrev pub AnyMatches : List (List Range) → List ℕ → Type 0
AnyMatches [] bs = ⊥
AnyMatches (row ∷ rows) bs = Matches row bs ⊎ AnyMatches rows bs

-- octets that match the k-th sequence
pub any_at : (rows : List (List Range)) (k b : ℕ) (xs : List ℕ) → Matches (get_or rows k []) (b ∷ xs) → AnyMatches rows (b ∷ xs)
any_at [] k b xs m = m
any_at (row ∷ rows) zero b xs m = inl m
any_at (row ∷ rows) (suc k) b xs m = inr (any_at rows k b xs m)

-- an octet in the range that is expected
advance_in : (r : Range) (rs : List Range) (x : ℕ) → r.low ≤ x → x ≤ r.high → advance (expects (r ∷ rs)) x ≡ expects rs
advance_in r rs x l h = rw (inside_of r x l h)

-- Octets that match what is expected are read to the end of a character.
utf8_matches : (rs : List Range) (xs rest : List ℕ) → Matches rs xs → is_utf8_after (expects rs) (xs ++ rest) ≡ is_utf8 rest
utf8_matches [] [] rest m = refl
utf8_matches [] (x ∷ xs) rest m = absurd m
utf8_matches (r ∷ rs) [] rest m = absurd m
utf8_matches (r ∷ rs) (x ∷ xs) rest m =
    ap (λ (a : After). is_utf8_after a (xs ++ rest)) (advance_in r rs x m.0 m.1) ∙ utf8_matches rs xs rest m.2

-- the count from an octet on that leads to `a`: one if it ends a character, and what follows
abbrev pub counted_from : After → List ℕ → ℕ
counted_from a bs = (if whole a then 1 else 0) + characters_after a bs

-- The character that they end counts as one.
count_matches : (rs : List Range) (xs rest : List ℕ) → Matches rs xs → counted_from (expects rs) (xs ++ rest) ≡ counted_from (expects []) rest
count_matches [] [] rest m = refl
count_matches [] (x ∷ xs) rest m = absurd m
count_matches (r ∷ rs) [] rest m = absurd m
count_matches (r ∷ rs) (x ∷ xs) rest m =
    zero-add _ ∙ ap (λ (a : After). counted_from a (xs ++ rest)) (advance_in r rs x m.0 m.1) ∙ count_matches rs xs rest m.2

-- The first ranges of the sequences ascend: each starts at n or above, and the next above its end.
abbrev Ascend : ℕ → List (List Range) → Type 0
Ascend n [] = Unit {0}
Ascend n ([] ∷ rows) = ⊥
Ascend n ((r ∷ rs) ∷ rows) = (n ≤ r.low) × (r.low ≤ r.high) × Ascend (suc r.high) rows

ascending : Ascend 0 sequences
ascending = omega arith

-- So an octet begins octets of one sequence only.
from_above : (rows : List (List Range)) (n b : ℕ) (xs : List ℕ) → Ascend n rows → AnyMatches rows (b ∷ xs) → n ≤ b
from_above [] n b xs up m = absurd m
from_above ([] ∷ rows) n b xs up m = absurd up
from_above ((r ∷ rs) ∷ rows) n b xs up (inl m) = omega arith
from_above ((r ∷ rs) ∷ rows) n b xs up (inr m) = omega (arith, from_above rows (suc r.high) b xs up.2 m)

-- What a first octet leads to, and the octets after it match that.
record Led (rows : List (List Range)) (b : ℕ) (xs : List ℕ) : Type 0 where
  expected : List Range
  leads : lead rows b ≡ expects expected
  matches : Matches expected xs

led_later : (r : Range) (rs : List Range) (rows : List (List Range)) (b : ℕ) (xs : List ℕ) → r.high < b → Led rows b xs
    → Led ((r ∷ rs) ∷ rows) b xs
led_later r rs rows b xs h l = record { expected = l.expected; leads = rw (above r b h) l.leads; matches = l.matches }

led : (rows : List (List Range)) (n b : ℕ) (xs : List ℕ) → Ascend n rows → AnyMatches rows (b ∷ xs) → Led rows b xs
led [] n b xs up m = absurd m
led ([] ∷ rows) n b xs up m = absurd up
led ((r ∷ rs) ∷ rows) n b xs up (inl m) = record { expected = rs; leads = rw (inside_of r b m.0 m.1); matches = m.2 }
led ((r ∷ rs) ∷ rows) n b xs up (inr m) =
    led_later r rs rows b xs (from_above rows (suc r.high) b xs up.2 m) (led rows (suc r.high) b xs up.2 m)

none_empty : (rows : List (List Range)) (n : ℕ) → Ascend n rows → AnyMatches rows [] → ⊥
none_empty [] n up m = m
none_empty ([] ∷ rows) n up m = up
none_empty ((r ∷ rs) ∷ rows) n up (inl m) = m
none_empty ((r ∷ rs) ∷ rows) n up (inr m) = none_empty rows (suc r.high) up.2 m

-- One character and then a text: the text decides, and the character counts as one.
pub character_first : (xs rest : List ℕ) → AnyMatches sequences xs
    → (is_utf8 (xs ++ rest) ≡ is_utf8 rest) × (characters (xs ++ rest) ≡ 1 + characters rest)
character_first [] rest m = absurd (none_empty sequences 0 ascending m)
character_first (b ∷ xs) rest m =
    let l = led sequences 0 b xs ascending m in (
      ap (λ (a : After). is_utf8_after a (xs ++ rest)) l.leads ∙ utf8_matches l.expected xs rest l.matches,
      ap (λ (a : After). counted_from a (xs ++ rest)) l.leads ∙ count_matches l.expected xs rest l.matches,
    )
