-- The fields of a line behind a place in it, and what the answers of this crate stand for: how reading goes on.
use Rattle.std.specs.Prelude.{ℕ, zero, suc, ◌+◌, ◌-◌, ◌≡◌, List, [], ◌∷◌, ◌++◌, ltb, eqb, length, drop, replicate, if◌then◌else◌, Option, Some, None}
use Rattle.spec_replay.specs.Lines.{space, split}
use Rattle.spec_replay.specs.Hex.{read_hex}
use Rattle.spec_replay.specs.Script.{Command, other, Arguments, end, given, number_field, hex}
use Rattle.script_parser.specs.declared.fields.NumberFields.{NumberFields}

-- the bytes before the first separator
unfoldable pub first_field : ℕ → List ℕ → List ℕ
first_field separator [] = []
first_field separator (b ∷ bs) = if eqb b separator then [] else b ∷ first_field separator bs

-- the fields behind the one that ends at index e
unfoldable pub fields_after : ℕ → List ℕ → ℕ → List (List ℕ)
fields_after separator line e = if ltb e (length line) then split separator (drop (e + 1) line) else []

-- ---- what an answer says of the fields behind a place: how reading goes on, whatever follows

-- a number, and where its field ends
abbrev pub number_then : ℕ → List ℕ → Option (ℕ × ℕ) → (ℕ → Arguments) → Command
number_then separator line (Some r) next = next r.0 (fields_after separator line r.1)
number_then separator line None next = other

abbrev pub NumberAfter : ℕ → List ℕ → ℕ → Option (ℕ × ℕ) → Type 0
NumberAfter separator line at r = (next : ℕ → Arguments) → number_field next (fields_after separator line at) ≡ number_then separator line r next

-- so many numbers, one behind the other
abbrev pub numbers : ℕ → (List ℕ → Arguments) → Arguments
numbers zero next = next []
numbers (suc k) next = number_field (λ n. numbers k (λ ns. next (n ∷ ns)))

-- no command has more
abbrev pub most_numbers : ℕ
most_numbers = 7

-- zeros in the unused places
abbrev pub filled : ℕ → List ℕ → List ℕ
filled count ns = ns ++ replicate (most_numbers - count) 0

abbrev pub numbers_then : ℕ → List ℕ → Option NumberFields → (List ℕ → Arguments) → Command
numbers_then separator line (Some r) next = next r.values (fields_after separator line r.end)
numbers_then separator line None next = other

abbrev pub NumbersAfter : ℕ → List ℕ → ℕ → ℕ → Option NumberFields → Type 0
NumbersAfter separator line at count r = (next : List ℕ → Arguments) → numbers count (λ ns. next (filled count ns)) (fields_after separator line at) ≡ numbers_then separator line r next

-- ---- the same of the last fields of a line

-- hex from an index to the end of the line
abbrev pub hex_then : List ℕ → Option ℕ → (List ℕ → Command) → Command
hex_then line (Some i) next = given (read_hex (drop i line)) next
hex_then line None next = other

abbrev pub HexLast : List ℕ → ℕ → Option ℕ → Type 0
HexLast line at r = (next : List ℕ → Command) → hex (λ set. end (next set)) (fields_after space line at) ≡ hex_then line r next
