-- The lines of an entry tell its key and its printed value.
use Rattle.std.specs.Prelude.{ℕ, zero, suc, ◌-◌, ◌*◌, ◌/◌, ◌≤◌, ◌<◌, ◌≡◌, refl, true, false, eqb, pos, negsuc, length, take, drop, replicate}
use Rattle.std.proofs.Common.{sym, ap, ◌∙◌, arith, length-append, length-take, length-drop, take-append-drop, take_all, take_at, drop_at, eqb-true, ne_eqb}
use mathlib.Core.List.{List, [], ◌∷◌, ◌++◌, append_assoc, append-nil, flat_map}
use Rattle.std.proofs.Math.Option.{none, some}
use Rattle.std.proofs.lemmas.List.{length-replicate}
use Rattle.std.proofs.lemmas.Bool.{eqb-false}
use Rattle.spec_lists.specs.Lists.{All, all}
use Rattle.spec_lists.proofs.ListLaws.{and_left, and_right, test_cases}
use Rattle.spec_patch.specs.Patch.{Value, quad, signed, text, unsigned, score, N, F, T, S}
use Rattle.spec_patch.specs.Fits.{U64}
use Rattle.spec_projection.specs.Lookups.{KeyedValue}
use Rattle.spec_decimal.specs.Decimal.{digits, decimal, signed_decimal, is_digit, is_numeral, read_decimal}
use Rattle.spec_decimal.proofs.DecimalLaws.{all_digits}
use Rattle.spec_decimal.proofs.DigitLaws.{is_digit_range}
use Rattle.spec_decimal.proofs.ReadLaws.{length_decimal, read_decimal_decimal}
use Rattle.spec_panel_print.specs.Print.{key_width, lead_width, text_width, blank, quad_letter, printed_value, line_count, text_pieces, column_of, key_lead, blank_lead, laid_out, printed_lines, entry_lines, text_columns, without_end_spaces, ends_in_space, without_first_spaces, key_of}
use Rattle.spec_panel_print.proofs.PrintLaws.{key_lead_length}
use Rattle.spec_panel_print.proofs.PaddingLaws.{padding_dropped}

-- ---- how many lines

-- n characters take k lines and one more, which has a character if there is any
pub record LinesTaken (n k : ℕ) : Type 0 where
  pub enough : n ≤ text_width * suc k
  pub needed : text_width * k ≤ n - 1

pub line_count_counts : (n : ℕ) → (k : ℕ) × (line_count n ≡ suc k) × LinesTaken n k
unfolding line_count
line_count_counts n =
    test_cases (eqb n 0)
    (λ t. let e : n ≡ 0 = eqb-true n 0 t in (0, rw t, record { enough = omega arith; needed = omega arith }))
    (λ t. let more : 0 < n = omega (arith, eqb-false n 0 t) in ((n - 1) / text_width, rw t (omega arith), record { enough = omega arith; needed = omega arith }))

-- ---- the text columns joined

text_columns_laid_out : (lead : List ℕ) (ps : List (List ℕ)) → length lead ≡ lead_width → text_columns (laid_out lead ps) ≡ flat_map column_of ps
unfolding text_columns laid_out flat_map
text_columns_laid_out lead [] h = refl
text_columns_laid_out lead (q ∷ ps) h = rw (drop_at lead (column_of q) lead_width h, text_columns_laid_out blank_lead ps refl)

-- a full piece is not padded
column_full : (piece : List ℕ) → length piece ≡ text_width → column_of piece ≡ piece
unfolding column_of
column_full piece h = rw h (append-nil piece)

-- all pieces but the last are full
pub text_pieces_joined : (k : ℕ) (l : List ℕ) → LinesTaken (length l) k → flat_map column_of (text_pieces (suc k) l) ≡ l ++ replicate (text_width * suc k - length l) blank
unfolding text_pieces flat_map column_of
text_pieces_joined zero l c = rw (take_all text_width l c.enough) (append-nil (column_of l))
text_pieces_joined (suc k) l c =
    let long : text_width ≤ length l = omega (arith, c.needed) in
    let front : length (take text_width l) ≡ text_width = rw (length-take text_width l) (omega arith) in
    let rest : length (drop text_width l) ≡ length l - text_width = length-drop text_width l in
    let n = text_width * suc (suc k) - length l in
    let same : text_width * suc k - length (drop text_width l) ≡ n = omega (arith, c.enough) in
    ap (λ (x : List ℕ). x ++ flat_map column_of (text_pieces (suc k) (drop text_width l))) (column_full (take text_width l) front)
    ∙ ap (λ (x : List ℕ). take text_width l ++ x) (text_pieces_joined k (drop text_width l) (record { enough = omega (arith, c.enough); needed = omega (arith, c.needed) }))
    ∙ ap (λ (m : ℕ). take text_width l ++ (drop text_width l ++ replicate m blank)) same
    ∙ sym (append_assoc (take text_width l) (drop text_width l) (replicate n blank))
    ∙ ap (λ (x : List ℕ). x ++ replicate n blank) (take-append-drop text_width l)

-- the text columns are the characters and the padding
columns_joined : (key : ℕ) (l : List ℕ) → (n : ℕ) × (text_columns (printed_lines key l) ≡ l ++ replicate n blank)
unfolding printed_lines
columns_joined key l =
    let (k, count, c) = line_count_counts (length l) in (
      text_width * suc k - length l,
      text_columns_laid_out (key_lead key) (text_pieces (line_count (length l)) l) (key_lead_length key)
          ∙ ap (λ (j : ℕ). flat_map column_of (text_pieces j l)) count
          ∙ text_pieces_joined k l c,
    )

-- ---- without the padding

-- Joining the text columns and dropping the spaces at the end returns the printed value, if that does not end in a space.
pub columns_back : (e : KeyedValue) → ends_in_space (printed_value e.value) ≡ false → without_end_spaces (text_columns (entry_lines e)) ≡ printed_value e.value
unfolding entry_lines
columns_back e h =
    let (n, joined) = columns_joined e.key (printed_value e.value) in
    ap without_end_spaces joined ∙ padding_dropped (printed_value e.value) n h

-- only a text can end in a space
unfoldable pub IsText : Value → Type 0
IsText (quad q) = ⊥
IsText (signed z) = ⊥
IsText (text t) = Unit {0}
IsText (unsigned x) = ⊥
IsText (score n) = ⊥

ends_later : (c : ℕ) (l : List ℕ) → eqb c blank ≡ false → ends_in_space l ≡ false → ends_in_space (c ∷ l) ≡ false
unfolding ends_in_space
ends_later c [] h g = h
ends_later c (d ∷ l) h g = g

digits_end : (l : List ℕ) → all is_digit l ≡ true → ends_in_space l ≡ false
unfolding ends_in_space
digits_end [] d = refl
digits_end (b ∷ l) d =
    let range = is_digit_range b (and_left (is_digit b) (all is_digit l) d) in
    ends_later b l (ne_eqb b blank (λ e. omega arith)) (digits_end l (and_right (is_digit b) (all is_digit l) d))

pub number_ends : (v : Value) → (IsText v → ⊥) → ends_in_space (printed_value v) ≡ false
unfolding IsText printed_value quad_letter signed_decimal decimal ends_in_space
number_ends (quad N) h = refl
number_ends (quad F) h = refl
number_ends (quad T) h = refl
number_ends (quad S) h = refl
number_ends (signed (pos n)) h = digits_end (digits 20 n) (all_digits 20 n)
number_ends (signed (negsuc n)) h = ends_later 45 (digits 20 (suc n)) refl (digits_end (digits 20 (suc n)) (all_digits 20 (suc n)))
number_ends (text t) h = absurd (h tt)
number_ends (unsigned x) h = digits_end (digits 20 x) (all_digits 20 x)
number_ends (score n) h = digits_end (digits 20 n) (all_digits 20 n)

-- ---- the key

spaces_skipped : (n : ℕ) (l : List ℕ) → without_first_spaces (replicate n blank ++ l) ≡ without_first_spaces l
unfolding without_first_spaces
spaces_skipped zero l = refl
spaces_skipped (suc n) l = spaces_skipped n l

digits_first : (l : List ℕ) → all is_digit l ≡ true → without_first_spaces l ≡ l
unfolding without_first_spaces
digits_first [] d = refl
digits_first (b ∷ l) d =
    let range = is_digit_range b (and_left (is_digit b) (all is_digit l) d) in
    rw (ne_eqb b blank (λ e. omega arith))

-- the first 20 characters of a line with a key
key_column : (k : ℕ) (rest : List ℕ) → take key_width (key_lead k ++ rest) ≡ replicate (key_width - length (decimal k)) blank ++ decimal k
unfolding key_lead
key_column k rest =
    let column = replicate (key_width - length (decimal k)) blank ++ decimal k in
    let d = length_decimal k in
    let wide : length column ≡ key_width = simp (length-append, length-replicate) (omega arith) in
    ap (take key_width) (append_assoc column (blank ∷ blank ∷ []) rest) ∙ take_at column ((blank ∷ blank ∷ []) ++ rest) key_width wide

key_of_key_lead : (k : ℕ) (rest : List ℕ) → U64 k → key_of (key_lead k ++ rest) ≡ some k
unfolding key_of decimal
key_of_key_lead k rest h =
    ap (λ (l : List ℕ). read_decimal (without_first_spaces l)) (key_column k rest)
    ∙ ap read_decimal (spaces_skipped (key_width - length (decimal k)) (decimal k) ∙ digits_first (digits 20 k) (all_digits 20 k))
    ∙ read_decimal_decimal k h

key_of_blank_lead : (rest : List ℕ) → key_of (blank_lead ++ rest) ≡ none
unfolding key_of without_first_spaces read_decimal is_numeral
key_of_blank_lead rest = refl

-- a line without a key
unfoldable pub NoKey : List ℕ → Type 0
NoKey line = key_of line ≡ none

follow_on : (ps : List (List ℕ)) → All NoKey (laid_out blank_lead ps)
unfolding laid_out NoKey
follow_on [] = tt
follow_on (q ∷ ps) = (key_of_blank_lead (column_of q), follow_on ps)

-- An entry has a first line, which begins with its key, and its other lines show none.
pub record FirstLine (e : KeyedValue) : Type 0 where
  pub line : List ℕ
  pub others : List (List ℕ)
  pub are : entry_lines e ≡ line ∷ others
  pub key : key_of line ≡ some e.key
  pub keyless : All NoKey others
  pub many : suc (length others) ≡ line_count (length (printed_value e.value))

laid_out_length : (lead : List ℕ) (ps : List (List ℕ)) → length (laid_out lead ps) ≡ length ps
unfolding laid_out
laid_out_length lead [] = refl
laid_out_length lead (q ∷ ps) = ap suc (laid_out_length blank_lead ps)

pub text_pieces_length : (k : ℕ) (l : List ℕ) → length (text_pieces k l) ≡ k
unfolding text_pieces
text_pieces_length zero l = refl
text_pieces_length (suc k) l = ap suc (text_pieces_length k (drop text_width l))

pub first_line : (e : KeyedValue) → U64 e.key → FirstLine e
unfolding entry_lines printed_lines text_pieces laid_out
first_line e h =
    let v = printed_value e.value in
    let (k, count, c) = line_count_counts (length v) in
    let ps = text_pieces k (drop text_width v) in
    record {
      line = key_lead e.key ++ column_of (take text_width v);
      others = laid_out blank_lead ps;
      are = ap (λ (j : ℕ). laid_out (key_lead e.key) (text_pieces j v)) count;
      key = key_of_key_lead e.key (column_of (take text_width v)) h;
      keyless = follow_on ps;
      many = ap suc (laid_out_length blank_lead ps ∙ text_pieces_length k (drop text_width v)) ∙ sym count;
    }
