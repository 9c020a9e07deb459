-- The bytes of characters flow as the characters do.
use Rattle.std.specs.Prelude.{ℕ, zero, suc, ◌+◌, ◌-◌, ◌/◌, ◌%◌, ◌≤◌, ◌<◌, ◌≡◌, refl, true, false, ltb, leb, eqb, length, take, drop, replicate, get_or, if◌then◌else◌}
use Rattle.std.proofs.Common.{sym, ap, ◌∙◌, add-one, arith, drop_of_length-le}
use mathlib.Core.List.{List, [], ◌∷◌, ◌++◌, map, flat_map}
use Rattle.std.proofs.Math.Seq.{drop-cons}
use borrow.Author.Tests.{ltb-true, ltb-false, lt-ltb, le-ltb, le-leb, lt-leb, eq-eqb, ne_eqb}
use Rattle.spec_lists.specs.Lists.{All}
use Rattle.spec_lists.proofs.ListLaws.{test_cases}
use Rattle.spec_text.specs.Scalars.{Scalar, encode_scalar, encode_scalars}
use Rattle.spec_panel_print.specs.Print.{text_width, blank, full_stop, line_end, delete_character, is_control, printed_character, blank_lead}
use Rattle.spec_panel_print.specs.Flow.{flowed}
use Rattle.panel_print.specs.ByteFlow.{begins_character, column_after, broken_byte, flowed_bytes}

-- ---- one byte

-- a byte of a character behind its first
abbrev FurtherByte : ℕ → Type 0
FurtherByte b = (0x80 ≤ b) × (b < 0xc0)

further_begins : (b : ℕ) → FurtherByte b → begins_character b ≡ false
unfolding begins_character
further_begins b h = rw (le-ltb b 0x80 h.0, lt-leb 0xc0 b h.1)

pub ascii_begins : (b : ℕ) → b < 0x80 → begins_character b ≡ true
unfolding begins_character
ascii_begins b h = rw (lt-ltb b 0x80 h)

pub other_begins : (b : ℕ) → 0x80 ≤ b → begins_character b ≡ leb 0xc0 b
unfolding begins_character
other_begins b h = rw (le-ltb b 0x80 h)

first_begins : (b : ℕ) → 0xc0 ≤ b → begins_character b ≡ true
first_begins b h = other_begins b (omega arith) ∙ le-leb 0xc0 b h

-- what is shown of it
pub low_stops : (b : ℕ) → b < 32 → printed_character b ≡ full_stop
unfolding printed_character is_control
low_stops b h = rw (lt-ltb b 32 h)

pub delete_stops : (b : ℕ) → b ≡ delete_character → printed_character b ≡ full_stop
unfolding printed_character is_control
delete_stops b h = rw h

pub other_shown : (b : ℕ) → 32 ≤ b → (b ≡ delete_character → ⊥) → printed_character b ≡ b
unfolding printed_character is_control
other_shown b h n = rw (le-ltb b 32 h, ne_eqb b delete_character n)

high_shown : (b : ℕ) → 0x80 ≤ b → printed_character b ≡ b
high_shown b h = other_shown b (omega arith) (λ e. omega arith)

-- ---- a byte at a column

module _ (column b : ℕ) where
  pub column_first : begins_character b ≡ true → column ≡ text_width → column_after column b ≡ 1
  unfolding column_after
  column_first h e = rw (h, eq-eqb column text_width e)

  pub column_next : begins_character b ≡ true → (column ≡ text_width → ⊥) → column_after column b ≡ column + 1
  unfolding column_after
  column_next h n = rw (h, ne_eqb column text_width n) (sym (add-one column))

  pub column_stays : begins_character b ≡ false → column_after column b ≡ column
  unfolding column_after
  column_stays h = rw h

  pub broken_first : begins_character b ≡ true → column ≡ text_width → broken_byte column b ≡ (line_end ∷ blank_lead) ++ (printed_character b ∷ [])
  unfolding broken_byte
  broken_first h e = rw (h, eq-eqb column text_width e)

  pub broken_next : (column ≡ text_width → ⊥) → broken_byte column b ≡ printed_character b ∷ []
  unfolding broken_byte
  broken_next n = rw (ne_eqb column text_width n)

  pub broken_further : begins_character b ≡ false → broken_byte column b ≡ printed_character b ∷ []
  unfolding broken_byte
  broken_further h = test_cases (eqb column text_width) (λ t. rw (h, t)) (λ t. rw t)

-- what a character is shown as, and what follows it
abbrev shown_from : (column : ℕ) (shown rest : List ℕ) → List ℕ
shown_from column shown rest =
    if eqb column text_width then line_end ∷ blank_lead ++ (shown ++ flowed_bytes 1 rest) else shown ++ flowed_bytes (suc column) rest

flows_begin : (column b : ℕ) (rest : List ℕ) → begins_character b ≡ true → flowed_bytes column (b ∷ rest) ≡ shown_from column (printed_character b ∷ []) rest
unfolding flowed_bytes broken_byte column_after
flows_begin column b rest h = test_cases (eqb column text_width) (λ t. rw (h, t)) (λ t. rw (h, t))

flows_further : (column : ℕ) (bs rest : List ℕ) → All FurtherByte bs → flowed_bytes column (bs ++ rest) ≡ bs ++ flowed_bytes column rest
unfolding flowed_bytes broken_byte column_after
flows_further column [] rest h = refl
flows_further column (b ∷ bs) rest h =
    test_cases (eqb column text_width)
    (λ t. rw (further_begins b h.0, t, high_shown b h.0.0, flows_further column bs rest h.1))
    (λ t. rw (further_begins b h.0, t, high_shown b h.0.0, flows_further column bs rest h.1))

-- ---- one character

-- of more than one byte
flows_bytes : (column b : ℕ) (bs rest : List ℕ) → 0xc0 ≤ b → All FurtherByte bs → flowed_bytes column ((b ∷ bs) ++ rest) ≡ shown_from column (b ∷ bs) rest
flows_bytes column b bs rest h g =
    flows_begin column b (bs ++ rest) (first_begins b h)
    ∙ rw (high_shown b (omega arith), flows_further 1 bs rest g, flows_further (suc column) bs rest g)

one_octet : (b : ℕ) → b < 0x80 → encode_scalar b ≡ b ∷ []
unfolding encode_scalar
one_octet b h = rw (lt-ltb b 0x80 h)

-- a control character's full stop is ASCII too
shown_ascii : (c : ℕ) → c < 0x80 → printed_character c < 0x80
unfolding printed_character
shown_ascii c h = test_cases (is_control c) (λ t. rw t (omega arith)) (λ t. rw t h)

flows_ascii : (column c : ℕ) (rest : List ℕ) → c < 0x80 → flowed_bytes column (encode_scalar c ++ rest) ≡ shown_from column (encode_scalar (printed_character c)) rest
flows_ascii column c rest h =
    rw (one_octet c h, one_octet (printed_character c) (shown_ascii c h)) (flows_begin column c rest (ascii_begins c h))

flows_long : (column c : ℕ) (rest : List ℕ) → 0x80 ≤ c → c ≤ 0x10ffff → flowed_bytes column (encode_scalar c ++ rest) ≡ shown_from column (encode_scalar c) rest
unfolding encode_scalar
flows_long column c rest h g =
    rw (le-ltb c 0x80 h)
    (test_cases (ltb c 0x800)
    (λ t.
    let small = ltb-true c 0x800 t in
    rw t (flows_bytes column (0xc0 + c / 0x40) ((0x80 + c % 0x40) ∷ []) rest (omega arith) (six (c % 0x40) (omega arith), tt)))
    (λ t₁. test_cases (ltb c 0x10000)
    (λ t. rw (t₁, t) (flows_bytes column (0xe0 + c / 0x1000) ((0x80 + c / 0x40 % 0x40) ∷ (0x80 + c % 0x40) ∷ []) rest (omega arith) (six (c / 0x40 % 0x40) (omega arith), (six (c % 0x40) (omega arith), tt))))
    (λ t. rw (t₁, t) (flows_bytes column (0xf0 + c / 0x40000) ((0x80 + c / 0x1000 % 0x40) ∷ (0x80 + c / 0x40 % 0x40) ∷ (0x80 + c % 0x40) ∷ []) rest (omega arith) (six (c / 0x1000 % 0x40) (omega arith), (six (c / 0x40 % 0x40) (omega arith), (six (c % 0x40) (omega arith), tt)))))))
  where
    six : (bits : ℕ) → bits < 0x40 → FurtherByte (0x80 + bits)
    six bits h = (omega arith, omega arith)

flows_character : (column c : ℕ) (rest : List ℕ) → c ≤ 0x10ffff → flowed_bytes column (encode_scalar c ++ rest) ≡ shown_from column (encode_scalar (printed_character c)) rest
flows_character column c rest h =
    test_cases (ltb c 0x80)
    (λ t. flows_ascii column c rest (ltb-true c 0x80 t))
    (λ t. let long = ltb-false c 0x80 t in flows_long column c rest long h ∙ ap (λ (x : ℕ). shown_from column (encode_scalar x) rest) (sym (high_shown c long)))

-- ---- byte by byte

module _ (column : ℕ) (bytes : List ℕ) (i : ℕ) where
  pub flow_turn : i < length bytes → flowed_bytes column (drop i bytes) ≡ broken_byte column (get_or bytes i 0) ++ flowed_bytes (column_after column (get_or bytes i 0)) (drop (i + 1) bytes)
  unfolding flowed_bytes
  flow_turn h = rw (add-one, drop-cons bytes i 0 h)

  pub flow_end : length bytes ≤ i → flowed_bytes column (drop i bytes) ≡ replicate (text_width - column) blank ++ (line_end ∷ [])
  unfolding flowed_bytes
  flow_end h = rw (drop_of_length-le bytes h)

-- as many spaces of a row of them
pub some_blanks : (n m : ℕ) → n ≤ m → take n (replicate m blank) ≡ replicate n blank
some_blanks zero m h = refl
some_blanks (suc n) zero h = absurd (omega arith)
some_blanks (suc n) (suc m) h = ap (λ (l : List ℕ). blank ∷ l) (some_blanks n m (omega arith))

-- ---- all characters

pub flows_encoding : (column : ℕ) (cs : List ℕ) → All Scalar cs → flowed_bytes column (encode_scalars cs) ≡ flowed column (map printed_character cs)
unfolding flowed_bytes flowed encode_scalars flat_map
flows_encoding column [] s = refl
flows_encoding column (c ∷ cs) s =
    flows_character column c (encode_scalars cs) s.0.0
    ∙ rw (flows_encoding 1 cs s.1, flows_encoding (suc column) cs s.1)
