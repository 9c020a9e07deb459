-- Every line of a print has 80 characters, the print is UTF-8, a line shows whether it is an entry's first, and the text columns of an
-- entry's lines are its printed value.
use Rattle.std.specs.Prelude.{ℕ, zero, suc, ◌+◌, ◌-◌, ◌*◌, ◌/◌, ◌%◌, ◌≤◌, ◌≡◌, refl, true, false, ltb, eqb, pos, negsuc, length, drop, replicate}
use Rattle.std.proofs.Common.{sym, ap, ◌∙◌, suc-mul, arith, length-append, length-take, ltb-false, ne_eqb, le-ltb}
use mathlib.Core.List.{List, [], ◌∷◌, ◌++◌, map, flat_map}
use Rattle.std.proofs.lemmas.List.{length-replicate}
use Rattle.spec_lists.specs.Lists.{All, all}
use Rattle.spec_lists.proofs.ListLaws.{and_left, and_right, or_left, test_cases, if_cases, flat_map_append, all_append, all_take, all_drop, all_map}
use Rattle.spec_text.specs.Scalars.{Scalar, encode_scalar, encode_scalars}
use Rattle.spec_text.specs.Syntax.{is_utf8, characters}
use Rattle.spec_text.proofs.Rfc3629Laws.{encoding_is_utf8}
use Rattle.spec_patch.specs.Patch.{N, F, T, S, Value, quad, signed, text, unsigned, score}
use Rattle.spec_patch.specs.Fits.{Storable, StorableBy}
use Rattle.spec_projection.specs.Projection.{Entry, Projection}
use Rattle.spec_projection.specs.Lookups.{KeyedValue, keyed_value, entries_in, entries_of}
use Rattle.spec_projection.specs.Valid.{FitsEntry, Valid}
use Rattle.spec_decimal.specs.Decimal.{digits, decimal, signed_decimal, is_digit}
use Rattle.spec_decimal.proofs.DecimalLaws.{all_digits}
use Rattle.spec_decimal.proofs.DigitLaws.{is_digit_range}
use Rattle.spec_decimal.proofs.ReadLaws.{length_decimal}
use Rattle.spec_panel_print.specs.Decode.{scalars_of}
use Rattle.spec_panel_print.proofs.DecodeLaws.{utf8_decodes}
use Rattle.spec_panel_print.specs.Print.{key_width, lead_width, text_width, line_width, blank, full_stop, delete_character, is_control, printed_character, quad_letter, printed_value, line_count, text_pieces, column_of, key_lead, blank_lead, laid_out, printed_lines, entry_lines, collection_lines, line_octets, collection_print}

all_flat_map : {A B : Type 0} (P : A → Type 0) (Q : B → Type 0) (f : A → List B) → ((a : A) → P a → All Q (f a)) → (l : List A) → All P l → All Q (flat_map f l)
unfolding flat_map
all_flat_map P Q f h [] k = tt
all_flat_map P Q f h (x ∷ l) k = all_append Q (f x) (flat_map f l) (h x k.0) (all_flat_map P Q f h l k.1)

-- ---- 80 characters

FitsColumn : List ℕ → Type 0
FitsColumn piece = length piece ≤ text_width

column_length : (piece : List ℕ) → FitsColumn piece → length (column_of piece) ≡ text_width
unfolding FitsColumn column_of
column_length piece h = simp (length-append, length-replicate) (omega arith)

text_pieces_short : (k : ℕ) (l : List ℕ) → All FitsColumn (text_pieces k l)
unfolding text_pieces FitsColumn
text_pieces_short zero l = tt
text_pieces_short (suc k) l = (rw (length-take text_width l) (omega arith), text_pieces_short k (drop text_width l))

pub key_lead_length : (k : ℕ) → length (key_lead k) ≡ lead_width
unfolding key_lead
key_lead_length k = let d = length_decimal k in simp (length-append, length-replicate) (omega arith)

-- a line of the width of a page
unfoldable pub WideLine : List ℕ → Type 0
WideLine line = length line ≡ line_width

laid_out_wide : (lead : List ℕ) (ps : List (List ℕ)) → length lead ≡ lead_width → All FitsColumn ps → All WideLine (laid_out lead ps)
unfolding laid_out WideLine
laid_out_wide lead [] h s = tt
laid_out_wide lead (q ∷ ps) h s =
    (omega (arith, length-append lead (column_of q), column_length q s.0), laid_out_wide blank_lead ps refl s.1)

pub entry_lines_wide : (e : KeyedValue) → All WideLine (entry_lines e)
unfolding entry_lines printed_lines
entry_lines_wide e =
    let v = printed_value e.value in
    laid_out_wide (key_lead e.key) (text_pieces (line_count (length v)) v) (key_lead_length e.key) (text_pieces_short (line_count (length v)) v)

-- Every line of a print has 80 characters.
pub collection_lines_wide : (p : Projection) (c : ℕ) → All WideLine (collection_lines p c)
unfolding collection_lines
collection_lines_wide p c = all_flat_map (λ (e : KeyedValue). Unit {0}) WideLine entry_lines (λ e h. entry_lines_wide e) (entries_of p c) (all_unit (entries_of p c))
  where
    all_unit : (l : List KeyedValue) → All (λ (e : KeyedValue). Unit {0}) l
    all_unit [] = tt
    all_unit (x ∷ l) = (tt, all_unit l)

-- ---- scalar values, and no control character

-- a character that may stand in a line
pub record Printable (c : ℕ) : Type 0 where
  pub scalar : Scalar c
  pub plain : is_control c ≡ false

-- ASCII from the space to the tilde
ascii_printable : (c : ℕ) → 32 ≤ c → c ≤ 126 → Printable c
unfolding is_control
ascii_printable c h g =
    record { scalar = (omega arith, λ low high. omega arith); plain = rw (le-ltb c 32 h, ne_eqb c delete_character (λ e. omega arith)) }

space_printable : Printable blank
space_printable = ascii_printable blank (omega arith) (omega arith)

spaces_printable : (n : ℕ) → All Printable (replicate n blank)
spaces_printable zero = tt
spaces_printable (suc n) = (space_printable, spaces_printable n)

digits_printable : (l : List ℕ) → all is_digit l ≡ true → All Printable l
digits_printable [] d = tt
digits_printable (b ∷ l) d =
    let range = is_digit_range b (and_left (is_digit b) (all is_digit l) d) in
    (ascii_printable b (omega arith) (omega arith), digits_printable l (and_right (is_digit b) (all is_digit l) d))

decimal_printable : (n : ℕ) → All Printable (decimal n)
unfolding decimal
decimal_printable n = digits_printable (digits 20 n) (all_digits 20 n)

character_printable : (c : ℕ) → Scalar c → Printable (printed_character c)
unfolding printed_character
character_printable c s =
    test_cases (is_control c)
    (λ t. rw t (ascii_printable full_stop (omega arith) (omega arith)))
    (λ t. rw t (record { scalar = s; plain = t }))

text_printable : (cs : List ℕ) → All Scalar cs → All Printable (map printed_character cs)
text_printable [] s = tt
text_printable (c ∷ cs) s = (character_printable c s.0, text_printable cs s.1)

pub printed_value_printable : (v : Value) → Storable v → All Printable (printed_value v)
unfolding printed_value quad_letter signed_decimal StorableBy
printed_value_printable (quad N) h = (ascii_printable 78 (omega arith) (omega arith), tt)
printed_value_printable (quad F) h = (ascii_printable 70 (omega arith) (omega arith), tt)
printed_value_printable (quad T) h = (ascii_printable 84 (omega arith) (omega arith), tt)
printed_value_printable (quad S) h = (ascii_printable 83 (omega arith) (omega arith), tt)
printed_value_printable (signed (pos n)) h = decimal_printable n
printed_value_printable (signed (negsuc n)) h = (ascii_printable 45 (omega arith) (omega arith), decimal_printable (suc n))
printed_value_printable (text t) h = text_printable (scalars_of t) (utf8_decodes t h.utf8).all_scalar
printed_value_printable (unsigned x) h = decimal_printable x
printed_value_printable (score n) h = decimal_printable n

column_printable : (piece : List ℕ) → All Printable piece → All Printable (column_of piece)
unfolding column_of
column_printable piece h = all_append Printable piece (replicate (text_width - length piece) blank) h (spaces_printable (text_width - length piece))

text_pieces_printable : (k : ℕ) (l : List ℕ) → All Printable l → All (All Printable) (text_pieces k l)
unfolding text_pieces
text_pieces_printable zero l h = tt
text_pieces_printable (suc k) l h = (all_take Printable text_width l h, text_pieces_printable k (drop text_width l) (all_drop Printable text_width l h))

key_lead_printable : (k : ℕ) → All Printable (key_lead k)
unfolding key_lead
key_lead_printable k =
    let blanks = replicate (key_width - length (decimal k)) blank in
    all_append Printable (blanks ++ decimal k) (blank ∷ blank ∷ [])
    (all_append Printable blanks (decimal k) (spaces_printable (key_width - length (decimal k))) (decimal_printable k))
    (space_printable, (space_printable, tt))

laid_out_printable : (lead : List ℕ) (ps : List (List ℕ)) → All Printable lead → All (All Printable) ps → All (All Printable) (laid_out lead ps)
unfolding laid_out
laid_out_printable lead [] h s = tt
laid_out_printable lead (q ∷ ps) h s =
    (all_append Printable lead (column_of q) h (column_printable q s.0), laid_out_printable blank_lead ps (spaces_printable lead_width) s.1)

unfoldable pub StorableValue : KeyedValue → Type 0
StorableValue e = Storable e.value

entry_lines_printable : (e : KeyedValue) → StorableValue e → All (All Printable) (entry_lines e)
unfolding entry_lines printed_lines StorableValue
entry_lines_printable e h =
    let v = printed_value e.value in
    laid_out_printable (key_lead e.key) (text_pieces (line_count (length v)) v) (key_lead_printable e.key)
    (text_pieces_printable (line_count (length v)) v (printed_value_printable e.value h))

pub entries_in_storable : (c : ℕ) (es : List Entry) → All FitsEntry es → All StorableValue (entries_in c es)
unfolding entries_in StorableValue
entries_in_storable c [] h = tt
entries_in_storable c (e ∷ es) h =
    if_cases (All StorableValue) (eqb e.collection c) (keyed_value e ∷ entries_in c es) (entries_in c es)
    (λ t. (h.0.value, entries_in_storable c es h.1)) (λ t. entries_in_storable c es h.1)

-- No line holds a control character.
pub collection_lines_printable : (p : Projection) (c : ℕ) → Valid p → All (All Printable) (collection_lines p c)
unfolding collection_lines entries_of
collection_lines_printable p c v = all_flat_map StorableValue (All Printable) entry_lines entry_lines_printable (entries_in c p.entries) (entries_in_storable c p.entries v.fit_entries)

-- ---- UTF-8

pub printable_scalar : (l : List ℕ) → All Printable l → All Scalar l
printable_scalar = all_map Printable Scalar (λ c h. h.scalar)

-- Each line is UTF-8 of 80 characters.
pub record LineOfCharacters (line : List ℕ) : Type 0 where
  pub utf8 : is_utf8 (encode_scalars line) ≡ true
  pub count : characters (encode_scalars line) ≡ line_width

line_characters : (line : List ℕ) → WideLine line → All Printable line → LineOfCharacters line
unfolding WideLine
line_characters line w h = let u = encoding_is_utf8 line (printable_scalar line h) in record { utf8 = u.0; count = u.1 ∙ w }

pub collection_lines_characters : (p : Projection) (c : ℕ) → Valid p → All LineOfCharacters (collection_lines p c)
collection_lines_characters p c v = both (collection_lines p c) (collection_lines_wide p c) (collection_lines_printable p c v)
  where
    both : (l : List (List ℕ)) → All WideLine l → All (All Printable) l → All LineOfCharacters l
    both [] w h = tt
    both (x ∷ l) w h = (line_characters x w.0 h.0, both l w.1 h.1)

-- no byte of a line is a newline: the lines of the print are those between its newlines
unfoldable pub NoNewline : ℕ → Type 0
NoNewline b = eqb b 10 ≡ false

character_no_newline : (c : ℕ) → Printable c → All NoNewline (encode_scalar c)
unfolding encode_scalar NoNewline is_control
character_no_newline c h =
    let visible : 32 ≤ c = ltb-false c 32 (or_left (ltb c 32) (eqb c delete_character) h.plain) in
    test_cases (ltb c 0x80) (λ t. rw t (other c visible, tt))
    (λ t₁. test_cases (ltb c 0x800) (λ t. rw (t₁, t) (octet 0xc0 (c / 0x40) (omega arith), (octet 0x80 (c % 0x40) (omega arith), tt)))
    (λ t₂. test_cases (ltb c 0x10000)
    (λ t. rw (t₁, t₂, t) (octet 0xe0 (c / 0x1000) (omega arith), (octet 0x80 (c / 0x40 % 0x40) (omega arith), (octet 0x80 (c % 0x40) (omega arith), tt))))
    (λ t. rw (t₁, t₂, t) (octet 0xf0 (c / 0x40000) (omega arith), (octet 0x80 (c / 0x1000 % 0x40) (omega arith), (octet 0x80 (c / 0x40 % 0x40) (omega arith), (octet 0x80 (c % 0x40) (omega arith), tt)))))))
  where
    other : (b : ℕ) → 32 ≤ b → eqb b 10 ≡ false
    other b h = ne_eqb b 10 (λ e. omega arith)

    octet : (mark bits : ℕ) → 32 ≤ mark → eqb (mark + bits) 10 ≡ false
    octet mark bits g = other (mark + bits) (omega arith)

pub line_no_newline : (line : List ℕ) → All Printable line → All NoNewline (encode_scalars line)
unfolding encode_scalars
line_no_newline line h = all_flat_map Printable NoNewline encode_scalar character_no_newline line h

-- the print as characters
with_newlines : List (List ℕ) → List ℕ
with_newlines lines = flat_map (λ (l : List ℕ). l ++ (10 ∷ [])) lines

encode_newlines : (lines : List (List ℕ)) → encode_scalars (with_newlines lines) ≡ flat_map line_octets lines
unfolding encode_scalars encode_scalar line_octets with_newlines flat_map
encode_newlines [] = refl
encode_newlines (l ∷ lines) =
    flat_map_append encode_scalar (l ++ (10 ∷ [])) (with_newlines lines)
    ∙ ap (λ (m : List ℕ). m ++ encode_scalars (with_newlines lines)) (flat_map_append encode_scalar l (10 ∷ []))
    ∙ ap (λ (m : List ℕ). (encode_scalars l ++ (10 ∷ [])) ++ m) (encode_newlines lines)

newlines_scalar : (lines : List (List ℕ)) → All (All Printable) lines → All Scalar (with_newlines lines)
unfolding with_newlines flat_map
newlines_scalar [] h = tt
newlines_scalar (l ∷ lines) h =
    all_append Scalar (l ++ (10 ∷ [])) (with_newlines lines)
    (all_append Scalar l (10 ∷ []) (printable_scalar l h.0) ((omega arith, λ low high. omega arith), tt))
    (newlines_scalar lines h.1)

newlines_length : (lines : List (List ℕ)) → All WideLine lines → length (with_newlines lines) ≡ length lines * 81
unfolding with_newlines flat_map WideLine
newlines_length [] h = refl
newlines_length (l ∷ lines) h = omega (arith, length-append (l ++ (10 ∷ [])) (with_newlines lines), length-append l (10 ∷ []), newlines_length lines h.1, h.0, suc-mul (length lines) 81)

-- The whole print is UTF-8, of 81 characters for each line.
pub collection_print_utf8 : (p : Projection) (c : ℕ) → Valid p → (is_utf8 (collection_print p c) ≡ true) × (characters (collection_print p c) ≡ length (collection_lines p c) * 81)
unfolding collection_print
collection_print_utf8 p c v =
    let lines = collection_lines p c in
    let u = encoding_is_utf8 (with_newlines lines) (newlines_scalar lines (collection_lines_printable p c v)) in
    let same = encode_newlines lines in
    (ap is_utf8 (sym same) ∙ u.0, ap characters (sym same) ∙ u.1 ∙ newlines_length lines (collection_lines_wide p c))
