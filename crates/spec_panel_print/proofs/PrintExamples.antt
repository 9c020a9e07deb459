-- Computed examples of the print. 02 names no bytes for it; each row is an entry and its lines, or how many it takes.
use Rattle.std.specs.Prelude.{ℕ, ◌-◌, Bool, T as T', eqb, negsuc, length, replicate}
use Prim.Native.Char.{code}
use Prim.Native.String.{String, [] as noText, ◌∷◌ as ◌before◌}
use mathlib.Core.List.{List, [], ◌∷◌, ◌++◌, flat_map}
use Rattle.spec_lists.specs.Lists.{all, equal_lists}
use Rattle.spec_text.specs.Scalars.{encode_scalar, encode_scalars}
use Rattle.spec_patch.specs.Patch.{Value, N, F, T, S, quad, signed, text, unsigned, score}
use Rattle.spec_projection.specs.Projection.{Projection, Entry}
use Rattle.spec_projection.specs.Lookups.{KeyedValue, entries_in, entries_of}
use Rattle.spec_decimal.specs.Decimal.{digits, decimal, signed_decimal}
use Rattle.spec_panel_print.specs.Decode.{scalars_from, scalars_of}
use Rattle.spec_panel_print.specs.Print.{is_control, printed_character, quad_letter, printed_value, line_count, text_pieces, column_of, key_lead, laid_out, printed_lines, entry_lines, collection_lines, line_octets, collection_print, text_columns, without_end_spaces}
use Rattle.spec_panel_print.specs.PrintSizes.{entry_print_bytes}

-- the characters of a word
abbrev pub codes : String → List ℕ
codes noText = []
codes (c before s) = code c ∷ codes s

equal : List ℕ → List ℕ → Bool
equal = equal_lists eqb

equal_lines : List (List ℕ) → List (List ℕ) → Bool
equal_lines = equal_lists equal

unfoldable pub with_key : ℕ → Value → KeyedValue
with_key k v = record { key = k; mark = 1; value = v }

blanks : ℕ → List ℕ
blanks n = replicate n 32

-- the one line of an entry whose value prints so
one_line : ℕ → String → Value → String → Bool
one_line k lead v printed = equal_lines (entry_lines (with_key k v)) ((codes lead ++ (codes printed ++ blanks (58 - length (codes printed)))) ∷ [])

-- how many lines n letters take, and of the Greek letter lambda, which has two octets
unfoldable pub latin : ℕ → List ℕ
latin n = replicate n 120

greek : ℕ → List ℕ
greek n = encode_scalars (replicate n 0x3bb)

takes : ℕ → ℕ → Bool
takes n lines = eqb (length (entry_lines (with_key 1 (text (latin n))))) lines

takes_greek : ℕ → ℕ → Bool
takes_greek n lines = eqb (length (entry_lines (with_key 1 (text (greek n))))) lines

unfoldable pub in_collection : ℕ → ℕ → Value → Entry
in_collection c k v = record { collection = c; key = k; mark = 1; value = v }

unfoldable pub printed_panel : Projection
printed_panel = record { bindings = []; availabilities = []; entries = in_collection 3 7 (unsigned 5) ∷ in_collection 9 2 (text (codes "b")) ∷ in_collection 9 1 (text (latin 59)) ∷ [] }

pub print_examples : List Bool
print_examples =
    one_line 0 "                   0  " (quad N) "N"
    ∷ one_line 18446744073709551615 "18446744073709551615  " (quad F) "F"
    ∷ one_line 7 "                   7  " (quad T) "T"
    ∷ one_line 7 "                   7  " (quad S) "S"
    ∷ one_line 7 "                   7  " (signed (negsuc 3)) "-4"
    ∷ one_line 42 "                  42  " (unsigned 0) "0"
    ∷ one_line 42 "                  42  " (score 100) "100"
    ∷ one_line 42 "                  42  " (text []) ""
    -- tab, newline, NUL, DEL and unit separator; a backslash prints as it is
    ∷ one_line 42 "                  42  " (text (97 ∷ 9 ∷ 10 ∷ 0 ∷ 127 ∷ 31 ∷ 32 ∷ 92 ∷ 98 ∷ [])) "a..... \\b"
    ∷ takes 0 1 ∷ takes 1 1 ∷ takes 57 1 ∷ takes 58 1 ∷ takes 59 2 ∷ takes 116 2 ∷ takes 117 3 ∷ takes 160 3
    -- 58 characters of two octets fill one line
    ∷ takes_greek 58 1 ∷ takes_greek 59 2 ∷ takes_greek 80 2
    ∷ equal_lines (entry_lines (with_key 1 (text (greek 59))))
    ((codes "                   1  " ++ replicate 58 0x3bb) ∷ (blanks 22 ++ (0x3bb ∷ blanks 57)) ∷ [])
    -- 80 to 9f, e-acute, the euro sign and a character of four octets are one character each
    ∷ equal (printed_value (text (0xc2 ∷ 0x80 ∷ 0xc2 ∷ 0x9f ∷ 0xc3 ∷ 0xa9 ∷ 0xe2 ∷ 0x82 ∷ 0xac ∷ 0xf0 ∷ 0x9f ∷ 0x98 ∷ 0x80 ∷ []))) (0x80 ∷ 0x9f ∷ 0xe9 ∷ 0x20ac ∷ 0x1f600 ∷ [])
    -- 57 letters, a space and a letter: the space ends the first line and is not dropped
    ∷ equal (without_end_spaces (text_columns (entry_lines (with_key 1 (text (latin 57 ++ (32 ∷ 120 ∷ []))))))) (latin 57 ++ (32 ∷ 120 ∷ []))
    -- entries of one collection, in list order
    ∷ equal (collection_print printed_panel 9)
    (codes "                   2  b" ++ (blanks 57 ++ (codes "\n                   1  " ++ (latin 58 ++ (codes "\n" ++ (blanks 22 ++ (codes "x" ++ (blanks 57 ++ codes "\n"))))))))
    ∷ equal (collection_print printed_panel 8) []
    -- the longest print of an entry: 117 characters in all the bytes that a text may have
    ∷ eqb (length (flat_map line_octets (entry_lines (with_key 1 (text (encode_scalars (replicate 6 0x20ac) ++ greek 111)))))) entry_print_bytes
    ∷ []

-- all rows hold
pub print_examples_lem : T' (all (λ (b : Bool). b) print_examples)
unfolding print_examples equal equal_lines with_key blanks one_line latin greek takes takes_greek in_collection printed_panel
    flat_map encode_scalar encode_scalars entries_in entries_of digits decimal signed_decimal scalars_from scalars_of is_control printed_character quad_letter printed_value
    line_count text_pieces column_of key_lead laid_out printed_lines entry_lines collection_lines line_octets collection_print text_columns without_end_spaces
print_examples_lem = tt
