-- A collection on paper: 02, Job 10. Every line has three columns: a key, two spaces, a part of the printed value. A character is one scalar
-- value of RFC 3629.
use Rattle.std.specs.Prelude.{ℕ, zero, suc, ◌+◌, ◌-◌, ◌/◌, Bool, false, ◌||◌, ltb, eqb, length, take, drop, replicate, if◌then◌else◌}
use mathlib.Core.List.{List, [], ◌∷◌, ◌++◌, map, flat_map}
use Rattle.std.proofs.Math.Option.{Option}
use Rattle.spec_lists.specs.Lists.{is_empty}
use Rattle.spec_text.specs.Scalars.{encode_scalars}
use Rattle.spec_patch.specs.Patch.{Quad, N, F, T, S, Value, quad, signed, text, unsigned, score}
use Rattle.spec_projection.specs.Projection.{Projection}
use Rattle.spec_projection.specs.Lookups.{KeyedValue, entries_of}
use Rattle.spec_decimal.specs.Decimal.{decimal, signed_decimal, read_decimal}
use Rattle.spec_panel_print.specs.Decode.{scalars_of}

-- ---- the columns

abbrev pub key_width : ℕ
key_width = 20

-- the key and two spaces; a follow-on line has as many spaces
abbrev pub lead_width : ℕ
lead_width = 22

abbrev pub text_width : ℕ
text_width = 58

abbrev pub line_width : ℕ
line_width = 80

-- ---- the printed value, in characters

abbrev pub blank : ℕ
blank = 32

abbrev pub full_stop : ℕ
full_stop = 46

abbrev pub line_end : ℕ
line_end = 10

abbrev pub delete_character : ℕ
delete_character = 127

-- scalar values below 32, and 127
unfoldable pub is_control : ℕ → Bool
is_control c = ltb c 32 || eqb c delete_character

-- a control character prints as one full stop
unfoldable pub printed_character : ℕ → ℕ
printed_character c = if is_control c then full_stop else c

-- the letters N, F, T, S
unfoldable pub quad_letter : Quad → ℕ
quad_letter N = 78
quad_letter F = 70
quad_letter T = 84
quad_letter S = 83

-- a letter, a decimal, or the characters of a text
unfoldable pub printed_value : Value → List ℕ
printed_value (quad q) = quad_letter q ∷ []
printed_value (signed z) = signed_decimal z
printed_value (text t) = map printed_character (scalars_of t)
printed_value (unsigned x) = decimal x
printed_value (score n) = decimal n

-- ---- the lines of an entry

-- as many lines as n characters take; none at all take one
unfoldable pub line_count : ℕ → ℕ
line_count n = if eqb n 0 then 1 else (n + (text_width - 1)) / text_width

-- so many pieces, each broken off after exactly 58 characters
unfoldable pub text_pieces : ℕ → List ℕ → List (List ℕ)
text_pieces zero l = []
text_pieces (suc k) l = take text_width l ∷ text_pieces k (drop text_width l)

-- the text column, with spaces behind a short piece
unfoldable pub column_of : List ℕ → List ℕ
column_of piece = piece ++ replicate (text_width - length piece) blank

-- the key, right-aligned, and two spaces
unfoldable pub key_lead : ℕ → List ℕ
key_lead k = (replicate (key_width - length (decimal k)) blank ++ decimal k) ++ (blank ∷ blank ∷ [])

-- the lead of a follow-on line
abbrev pub blank_lead : List ℕ
blank_lead = replicate lead_width blank

-- a line for each piece; the first has this lead
unfoldable pub laid_out : List ℕ → List (List ℕ) → List (List ℕ)
laid_out lead [] = []
laid_out lead (piece ∷ others) = (lead ++ column_of piece) ∷ laid_out blank_lead others

unfoldable pub printed_lines : ℕ → List ℕ → List (List ℕ)
printed_lines k characters = laid_out (key_lead k) (text_pieces (line_count (length characters)) characters)

unfoldable pub entry_lines : KeyedValue → List (List ℕ)
entry_lines e = printed_lines e.key (printed_value e.value)

-- ---- a collection

-- the lines of its entries in list order
unfoldable pub collection_lines : Projection → ℕ → List (List ℕ)
collection_lines p c = flat_map entry_lines (entries_of p c)

-- the bytes of a line, and the newline
unfoldable pub line_octets : List ℕ → List ℕ
line_octets line = encode_scalars line ++ (line_end ∷ [])

-- the bytes of the print; a collection without entries has none
unfoldable pub collection_print : Projection → ℕ → List ℕ
collection_print p c = flat_map line_octets (collection_lines p c)

-- ---- read back

-- the text columns of lines, joined
unfoldable pub text_columns : List (List ℕ) → List ℕ
text_columns lines = flat_map (drop lead_width) lines

-- the characters without the spaces at their very end
unfoldable pub without_end_spaces : List ℕ → List ℕ
without_end_spaces [] = []
without_end_spaces (c ∷ cs) = if eqb c blank then (if is_empty (without_end_spaces cs) then [] else c ∷ without_end_spaces cs) else c ∷ without_end_spaces cs

unfoldable pub ends_in_space : List ℕ → Bool
ends_in_space [] = false
ends_in_space (c ∷ []) = eqb c blank
ends_in_space (c ∷ d ∷ cs) = ends_in_space (d ∷ cs)

unfoldable pub without_first_spaces : List ℕ → List ℕ
without_first_spaces [] = []
without_first_spaces (c ∷ cs) = if eqb c blank then without_first_spaces cs else c ∷ cs

-- the key that a line begins with, or none
unfoldable pub key_of : List ℕ → Option ℕ
key_of line = read_decimal (without_first_spaces (take key_width line))
