-- A text in the syntax consists of bytes: every range of the syntax ends below 256. It has no more characters than bytes.
use Rattle.std.specs.Prelude.{ℕ, ◌+◌, ◌≤◌, ◌<◌, ◌≡◌, refl, Bool, true, false, List, [], ◌∷◌, leb, ltb, length, if◌then◌else◌}
use Rattle.std.proofs.Common.{sym, ◌∙◌, arith, leb-true, ltb-true}
use Rattle.std.proofs.lemmas.Bool.{false≢true}
use Rattle.spec_lists.specs.Lists.{all}
use Rattle.spec_lists.proofs.ListLaws.{and_left, and_right}
use Rattle.spec_lists.specs.Bytes.{Bytes}
use Rattle.spec_text.specs.Syntax.{Range, inside, sequences, After, expects, refused, lead, advance, whole, is_utf8_after, characters_after, is_utf8, characters}

pub inside_true : (r : Range) (b : ℕ) → inside r b ≡ true → (r.low ≤ b) × (b ≤ r.high)
inside_true r b e =
    (leb-true r.low b (and_left (leb r.low b) (leb b r.high) e), leb-true b r.high (and_right (leb r.low b) (leb b r.high) e))

-- no octets make good what is refused
pub refused_stays : (text : List ℕ) → is_utf8_after refused text ≡ false
refused_stays [] = refl
refused_stays (b ∷ bs) = refused_stays bs

-- the ranges end below 256
abbrev octets : List Range → Bool
octets = all (λ (r : Range). ltb r.high 256)

abbrev OctetsAfter : After → Type 0
OctetsAfter (expects rs) = octets rs ≡ true
OctetsAfter refused = Unit {0}

-- an octet that begins one of the sequences is a byte
bytes_lead : (rows : List (List Range)) (b : ℕ) (bs : List ℕ) → all octets rows ≡ true
    → ((a : After) → OctetsAfter a → is_utf8_after a bs ≡ true → Bytes bs) → is_utf8_after (lead rows b) bs ≡ true → Bytes (b ∷ bs)
bytes_lead [] b bs o ih e = absurd (false≢true (sym (refused_stays bs) ∙ e))
bytes_lead ([] ∷ rows) b bs o ih e = bytes_lead rows b bs o ih e
bytes_lead ((r ∷ rs) ∷ rows) b bs o ih e = go (inside r b) refl (bytes_lead rows b bs (and_right (octets (r ∷ rs)) (all octets rows) o) ih) e
  where
    first : octets (r ∷ rs) ≡ true
    first = and_left (octets (r ∷ rs)) (all octets rows) o

    go : (t : Bool) → inside r b ≡ t → (is_utf8_after (lead rows b) bs ≡ true → Bytes (b ∷ bs))
        → is_utf8_after (if t then expects rs else lead rows b) bs ≡ true → Bytes (b ∷ bs)
    go true i later e =
        let low : r.high < 256 = ltb-true r.high 256 (and_left (ltb r.high 256) (octets rs) first) in
        (omega (arith, inside_true r b i), ih (expects rs) (and_right (ltb r.high 256) (octets rs) first) e)
    go false i later e = later e

bytes_after : (text : List ℕ) (a : After) → OctetsAfter a → is_utf8_after a text ≡ true → Bytes text
bytes_after [] a o e = tt
bytes_after (b ∷ bs) (expects []) o e = bytes_lead sequences b bs refl (bytes_after bs) e
bytes_after (b ∷ bs) (expects (r ∷ rs)) o e = bytes_lead ((r ∷ rs) ∷ []) b bs (rw o) (bytes_after bs) e
bytes_after (b ∷ bs) refused o e = absurd (false≢true (sym (refused_stays bs) ∙ e))

pub utf8_bytes : (text : List ℕ) → is_utf8 text ≡ true → Bytes text
utf8_bytes text e = bytes_after text (expects []) refl e

-- ---- the number of characters

-- each octet ends one character at the most
few_after : (a : After) (text : List ℕ) → characters_after a text ≤ length text
few_after a [] = omega arith
few_after a (b ∷ bs) = go (whole (advance a b)) (few_after (advance a b) bs)
  where
    go : (t : Bool) → characters_after (advance a b) bs ≤ length bs → (if t then 1 else 0) + characters_after (advance a b) bs ≤ length (b ∷ bs)
    go true h = omega arith
    go false h = omega arith

pub characters_few : (text : List ℕ) → characters text ≤ length text
characters_few text = few_after (expects []) text
