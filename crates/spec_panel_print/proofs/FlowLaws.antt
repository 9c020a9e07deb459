-- One pass writes the lines of an entry.
use Rattle.std.specs.Prelude.{ℕ, zero, suc, ◌+◌, ◌-◌, ◌≤◌, ◌<◌, ◌≡◌, refl, length, take, drop, replicate}
use Rattle.std.proofs.Common.{sym, ap, ◌∙◌, zero-add, arith, length-take, length-drop, take-append-drop, take_all, eq-eqb, ne_eqb}
use mathlib.Core.List.{List, [], ◌∷◌, ◌++◌, append_assoc, flat_map}
use Rattle.spec_text.specs.Scalars.{encode_scalar, encode_scalars}
use Rattle.spec_projection.specs.Lookups.{KeyedValue}
use Rattle.spec_panel_print.specs.Print.{text_width, lead_width, blank, printed_value, text_pieces, column_of, key_lead, blank_lead, laid_out, printed_lines, entry_lines, line_octets}
use Rattle.spec_panel_print.proofs.JoinLaws.{LinesTaken, line_count_counts}
use Rattle.spec_panel_print.proofs.AsciiLaws.{encode_append, ascii_encode, spaces_ascii, key_lead_ascii}
use Rattle.spec_panel_print.specs.Flow.{flowed}

-- the last line: what is left fits
flowed_last : (column : ℕ) (l : List ℕ) → column + length l ≤ text_width
    → flowed column l ≡ encode_scalars l ++ (replicate (text_width - (column + length l)) blank ++ (10 ∷ []))
unfolding flowed encode_scalars flat_map
flowed_last column [] h = let same : column ≡ column + 0 = omega arith in ap (λ (m : ℕ). replicate (text_width - m) blank ++ (10 ∷ [])) same
flowed_last column (c ∷ l) h =
    let same : suc column + length l ≡ column + length (c ∷ l) = omega arith in
    rw (ne_eqb column text_width (λ e. omega arith))
    (ap (λ (x : List ℕ). encode_scalar c ++ x) (flowed_last (suc column) l (omega arith))
    ∙ ap (λ (m : ℕ). encode_scalar c ++ (encode_scalars l ++ (replicate (text_width - m) blank ++ (10 ∷ [])))) same
    ∙ sym (append_assoc (encode_scalar c) (encode_scalars l) (replicate (text_width - (column + length (c ∷ l))) blank ++ (10 ∷ []))))

-- a full line, and more behind it
flowed_full : (column : ℕ) (a : List ℕ) (d : ℕ) (rest : List ℕ) → column + length a ≡ text_width
    → flowed column (a ++ (d ∷ rest)) ≡ encode_scalars a ++ (10 ∷ blank_lead ++ flowed 0 (d ∷ rest))
unfolding flowed encode_scalars flat_map
flowed_full column [] d rest h = rw (eq-eqb column text_width (omega arith))
flowed_full column (c ∷ a) d rest h =
    rw (ne_eqb column text_width (λ e. omega arith))
    (ap (λ (x : List ℕ). encode_scalar c ++ x) (flowed_full (suc column) a d rest (omega arith))
    ∙ sym (append_assoc (encode_scalar c) (encode_scalars a) (10 ∷ blank_lead ++ flowed 0 (d ∷ rest))))

-- the same, of a list that is long enough
flowed_line : (l : List ℕ) → text_width < length l → flowed 0 l ≡ encode_scalars (take text_width l) ++ (10 ∷ blank_lead ++ flowed 0 (drop text_width l))
flowed_line l h = go (drop text_width l) refl
  where
    front : length (take text_width l) ≡ text_width
    front = rw (length-take text_width l) (omega arith)

    go : (r : List ℕ) → drop text_width l ≡ r → flowed 0 l ≡ encode_scalars (take text_width l) ++ (10 ∷ blank_lead ++ flowed 0 (drop text_width l))
    go [] e = absurd (omega (arith, length-drop text_width l, ap length e))
    go (d ∷ r) e =
        ap (flowed 0) (sym (take-append-drop text_width l) ∙ ap (λ (x : List ℕ). take text_width l ++ x) e)
        ∙ flowed_full 0 (take text_width l) d r (omega (arith, front))
        ∙ ap (λ (x : List ℕ). encode_scalars (take text_width l) ++ (10 ∷ blank_lead ++ flowed 0 x)) (sym e)

blank_encode : encode_scalars blank_lead ≡ blank_lead
blank_encode = ascii_encode blank_lead (spaces_ascii lead_width)

-- the bytes of a line, by its parts
line_parts : (lead piece rest : List ℕ) → encode_scalars lead ≡ lead → line_octets (lead ++ column_of piece) ++ rest
    ≡ lead ++ (encode_scalars piece ++ (replicate (text_width - length piece) blank ++ (10 ∷ rest)))
unfolding line_octets column_of
line_parts lead piece rest h =
    let blanks = replicate (text_width - length piece) blank in
    let parts : encode_scalars (lead ++ (piece ++ blanks)) ≡ lead ++ (encode_scalars piece ++ blanks) =
    encode_append lead (piece ++ blanks) ∙ ap (λ (x : List ℕ). x ++ encode_scalars (piece ++ blanks)) h
    ∙ ap (λ (x : List ℕ). lead ++ x) (encode_append piece blanks ∙ ap (λ (x : List ℕ). encode_scalars piece ++ x) (ascii_encode blanks (spaces_ascii (text_width - length piece)))) in
    ap (λ (x : List ℕ). (x ++ (10 ∷ [])) ++ rest) parts ∙ simp append_assoc

laid_out_flows : (lead : List ℕ) (k : ℕ) (l : List ℕ) → encode_scalars lead ≡ lead → LinesTaken (length l) k
    → flat_map line_octets (laid_out lead (text_pieces (suc k) l)) ≡ lead ++ flowed 0 l
unfolding laid_out text_pieces flat_map
laid_out_flows lead zero l h c =
    line_parts lead (take text_width l) [] h
    ∙ ap (λ (x : List ℕ). lead ++ (encode_scalars x ++ (replicate (text_width - length x) blank ++ (10 ∷ [])))) (take_all text_width l c.enough)
    ∙ ap (λ (n : ℕ). lead ++ (encode_scalars l ++ (replicate (text_width - n) blank ++ (10 ∷ [])))) (sym (zero-add (length l)))
    ∙ ap (λ (x : List ℕ). lead ++ x) (sym (flowed_last 0 l (omega (arith, c.enough))))
laid_out_flows lead (suc k) l h c =
    let long : text_width < length l = omega (arith, c.needed) in
    let front : length (take text_width l) ≡ text_width = rw (length-take text_width l) (omega arith) in
    let rest = flat_map line_octets (laid_out blank_lead (text_pieces (suc k) (drop text_width l))) in
    let left : length (drop text_width l) ≡ length l - text_width = length-drop text_width l in
    line_parts lead (take text_width l) rest h
    ∙ ap (λ (n : ℕ). lead ++ (encode_scalars (take text_width l) ++ (replicate (text_width - n) blank ++ (10 ∷ rest)))) front
    ∙ ap (λ (x : List ℕ). lead ++ (encode_scalars (take text_width l) ++ (10 ∷ x)))
    (laid_out_flows blank_lead k (drop text_width l) blank_encode (record { enough = omega (arith, c.enough); needed = omega (arith, c.needed) }))
    ∙ ap (λ (x : List ℕ). lead ++ x) (sym (flowed_line l long))

-- The bytes of an entry's lines are its key's lead and then the characters in one pass.
pub entry_flows : (e : KeyedValue) → flat_map line_octets (entry_lines e) ≡ key_lead e.key ++ flowed 0 (printed_value e.value)
unfolding entry_lines printed_lines
entry_flows e =
    let l = printed_value e.value in
    let (k, count, c) = line_count_counts (length l) in
    ap (λ (j : ℕ). flat_map line_octets (laid_out (key_lead e.key) (text_pieces j l))) count
    ∙ laid_out_flows (key_lead e.key) k l (ascii_encode (key_lead e.key) (key_lead_ascii e.key)) c
