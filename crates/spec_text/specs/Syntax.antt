-- RFC 3629, section 4: the syntax of UTF-8 as octet sequences, and the number of characters.
use Rattle.std.specs.Prelude.{ℕ, ◌+◌, Bool, true, false, List, [], ◌∷◌, if◌then◌else◌}
use Rattle.spec_lists.specs.Lists.{between}

infix 60 ◌⋯◌
-- A range of octets, both ends included: %x80-BF is `0x80 ⋯ 0xbf`.
pub record Range : Type 0 where
  pub low : ℕ
  pub high : ℕ

abbrev pub ◌⋯◌ : ℕ → ℕ → Range
l ⋯ h = record { low = l; high = h }

abbrev pub inside : Range → ℕ → Bool
inside r b = between r.low r.high b

-- UTF8-tail
abbrev pub tail : Range
tail = 0x80 ⋯ 0xbf

-- The alternatives of UTF8-char: UTF8-1, UTF8-2, the four of UTF8-3 and the three of UTF8-4. No two begin with the same octet.
abbrev pub sequences : List (List Range)
sequences =
    ((0x00 ⋯ 0x7f) ∷ [])
    ∷ ((0xc2 ⋯ 0xdf) ∷ tail ∷ [])
    ∷ ((0xe0 ⋯ 0xe0) ∷ (0xa0 ⋯ 0xbf) ∷ tail ∷ [])
    ∷ ((0xe1 ⋯ 0xec) ∷ tail ∷ tail ∷ [])
    ∷ ((0xed ⋯ 0xed) ∷ (0x80 ⋯ 0x9f) ∷ tail ∷ [])
    ∷ ((0xee ⋯ 0xef) ∷ tail ∷ tail ∷ [])
    ∷ ((0xf0 ⋯ 0xf0) ∷ (0x90 ⋯ 0xbf) ∷ tail ∷ tail ∷ [])
    ∷ ((0xf1 ⋯ 0xf3) ∷ tail ∷ tail ∷ tail ∷ [])
    ∷ ((0xf4 ⋯ 0xf4) ∷ (0x80 ⋯ 0x8f) ∷ tail ∷ tail ∷ [])
    ∷ []

-- What the syntax allows after a part of a text: `expects rs`, octets of the ranges rs and then any characters; `refused`, nothing.
pub data After : Type 0 where
  expects : List Range → After
  refused : After

-- after an octet that begins one of the sequences
abbrev pub lead : List (List Range) → ℕ → After
lead [] b = refused
lead ([] ∷ rows) b = lead rows b
lead ((r ∷ rs) ∷ rows) b = if inside r b then expects rs else lead rows b

-- after one octet more
abbrev pub advance : After → ℕ → After
advance (expects []) b = lead sequences b
advance (expects (r ∷ rs)) b = if inside r b then expects rs else refused
advance refused b = refused

-- whether no character is left unfinished
abbrev pub whole : After → Bool
whole (expects []) = true
whole (expects (r ∷ rs)) = false
whole refused = false

-- whether the octets are what the syntax allows
abbrev pub is_utf8_after : After → List ℕ → Bool
is_utf8_after a [] = whole a
is_utf8_after a (b ∷ bs) = is_utf8_after (advance a b) bs

-- how many of the octets end a character
abbrev pub characters_after : After → List ℕ → ℕ
characters_after a [] = 0
characters_after a (b ∷ bs) = (if whole (advance a b) then 1 else 0) + characters_after (advance a b) bs

-- UTF8-octets: any number of UTF8-char
abbrev pub is_utf8 : List ℕ → Bool
is_utf8 text = is_utf8_after (expects []) text

-- the number of characters of a text that is UTF-8
abbrev pub characters : List ℕ → ℕ
characters text = characters_after (expects []) text
