-- The print of a value by its bytes, in one pass: a byte that begins a character takes a column, a further byte of it takes none.
use Rattle.std.specs.Prelude.{ℕ, suc, ◌-◌, Bool, ◌&&◌, ◌||◌, List, [], ◌∷◌, ◌++◌, ltb, leb, eqb, replicate, if◌then◌else◌}
use Rattle.spec_panel_print.specs.Print.{text_width, blank, line_end, blank_lead, printed_character}

-- RFC 3629: every byte but those from 80 to bf
unfoldable pub begins_character : ℕ → Bool
begins_character b = ltb b 0x80 || leb 0xc0 b

-- the columns that are taken behind a byte
unfoldable pub column_after : (column byte : ℕ) → ℕ
column_after column b = if begins_character b then (if eqb column text_width then 1 else suc column) else column

-- a line break before a character that has no column left, and the byte
unfoldable pub broken_byte : (column byte : ℕ) → List ℕ
broken_byte column b = if eqb column text_width && begins_character b then (line_end ∷ blank_lead) ++ (printed_character b ∷ []) else printed_character b ∷ []

-- the bytes that are left, from a column on, with the padding and the newline
unfoldable pub flowed_bytes : (column : ℕ) → List ℕ → List ℕ
flowed_bytes column [] = replicate (text_width - column) blank ++ (line_end ∷ [])
flowed_bytes column (b ∷ bs) = broken_byte column b ++ flowed_bytes (column_after column b) bs
