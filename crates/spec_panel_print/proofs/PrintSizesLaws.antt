-- Every print is within its size.
use Rattle.std.specs.Prelude.{ℕ, suc, ◌+◌, ◌-◌, ◌*◌, ◌≤◌, ◌<◌, ◌≡◌, refl, ltb, eqb, length, replicate}
use Rattle.std.proofs.Common.{ap, ◌∙◌, suc-mul, arith, length-append, leb-true, ltb-true, lt-ltb, eqb-true}
use mathlib.Core.List.{List, [], ◌∷◌, ◌++◌, map, flat_map}
use Rattle.std.proofs.lemmas.List.{length-replicate, length-map}
use Rattle.spec_lists.specs.Lists.{All}
use Rattle.spec_lists.proofs.ListLaws.{test_cases, if_cases, flat_map_append}
use Rattle.spec_text.specs.Scalars.{encode_scalar, encode_scalars}
use Rattle.spec_text.specs.Syntax.{characters}
use Rattle.spec_patch.specs.Patch.{Value, quad, signed, text, unsigned, score}
use Rattle.spec_patch.specs.Fits.{Storable, StorableBy}
use Rattle.spec_patch.specs.Sizes.{text_bytes, text_characters}
use Rattle.spec_projection.specs.Projection.{Entry, Projection}
use Rattle.spec_projection.specs.Lookups.{KeyedValue, keyed_value, entries_in, entries_of}
use Rattle.spec_projection.specs.Valid.{Valid}
use Rattle.spec_decimal.specs.Decimal.{decimal, signed_decimal}
use Rattle.spec_decimal.proofs.ReadLaws.{length_decimal}
use Rattle.spec_decimal.proofs.SignedLaws.{length_signed_decimal}
use Rattle.spec_panel_print.specs.Decode.{scalars_of}
use Rattle.spec_panel_print.proofs.DecodeLaws.{utf8_decodes}
use Rattle.spec_panel_print.specs.Print.{lead_width, text_width, blank, delete_character, is_control, printed_character, quad_letter, printed_value, line_count, text_pieces, column_of, key_lead, blank_lead, laid_out, printed_lines, entry_lines, collection_lines, line_octets, collection_print}
use Rattle.spec_panel_print.proofs.PrintLaws.{StorableValue, entries_in_storable}
use Rattle.spec_panel_print.proofs.JoinLaws.{LinesTaken, line_count_counts, text_pieces_length, text_pieces_joined}
use Rattle.spec_panel_print.specs.PrintSizes.{entry_print_bytes, print_bytes}
use Rattle.spec_panel_print.proofs.AsciiLaws.{Ascii, encode_append, ascii_encode, spaces_ascii, decimal_ascii, signed_ascii, letter_ascii, key_lead_octets}

-- ---- the lines of an entry

-- 22 bytes and the newline for each line, and the bytes of the text columns
laid_out_octets : (lead : List ℕ) (ps : List (List ℕ)) → length (encode_scalars lead) ≡ lead_width
    → length (flat_map line_octets (laid_out lead ps)) ≡ length ps * 23 + length (encode_scalars (flat_map column_of ps))
unfolding laid_out line_octets flat_map encode_scalars
laid_out_octets lead [] h = refl
laid_out_octets lead (q ∷ ps) h =
    let rest = laid_out_octets blank_lead ps (ap length (ascii_encode blank_lead (spaces_ascii lead_width))) in
    let line : length (encode_scalars (lead ++ column_of q) ++ (10 ∷ [])) ≡ 23 + length (encode_scalars (column_of q)) =
    omega (arith, length-append (encode_scalars (lead ++ column_of q)) (10 ∷ []), ap length (encode_append lead (column_of q)), length-append (encode_scalars lead) (encode_scalars (column_of q))) in
    omega (
      arith,
      length-append (encode_scalars (lead ++ column_of q) ++ (10 ∷ [])) (flat_map line_octets (laid_out blank_lead ps)),
      ap length (encode_append (column_of q) (flat_map column_of ps)),
      length-append (encode_scalars (column_of q)) (encode_scalars (flat_map column_of ps)),
      suc-mul (length ps) 23,
    )

-- the exact size, for characters of which so many lines are taken
lines_octets : (key : ℕ) (l : List ℕ) (k : ℕ) → line_count (length l) ≡ suc k → LinesTaken (length l) k
    → length (flat_map line_octets (printed_lines key l)) + length l ≡ suc k * 81 + length (encode_scalars l)
unfolding printed_lines
lines_octets key l k count c =
    let ps = text_pieces (suc k) l in
    let m = text_width * suc k - length l in
    let padding : length (encode_scalars (replicate m blank)) ≡ m = ap length (ascii_encode (replicate m blank) (spaces_ascii m)) ∙ length-replicate m blank in
    let columns : length (encode_scalars (flat_map column_of ps)) ≡ length (encode_scalars l) + m =
    ap (λ (x : List ℕ). length (encode_scalars x)) (text_pieces_joined k l c) ∙ ap length (encode_append l (replicate m blank)) ∙ omega (arith, length-append (encode_scalars l) (encode_scalars (replicate m blank))) in
    let whole : length (flat_map line_octets (laid_out (key_lead key) ps)) ≡ length ps * 23 + length (encode_scalars (flat_map column_of ps)) = laid_out_octets (key_lead key) ps (key_lead_octets key) in
    let same : length (flat_map line_octets (laid_out (key_lead key) (text_pieces (line_count (length l)) l))) ≡ length (flat_map line_octets (laid_out (key_lead key) ps)) =
    ap (λ (j : ℕ). length (flat_map line_octets (laid_out (key_lead key) (text_pieces j l)))) count in
    omega (arith, text_pieces_length (suc k) l, c.enough)

-- ---- the largest

size_bound : (n b k total : ℕ) → total + n ≡ suc k * 81 + b → LinesTaken n k → n ≤ text_characters → b ≤ text_bytes → total ≤ entry_print_bytes
size_bound n b k total e c h g = omega (arith, c.needed)

-- a control character has one octet, as a full stop has
octets_kept : (c : ℕ) → length (encode_scalar (printed_character c)) ≡ length (encode_scalar c)
unfolding printed_character is_control encode_scalar
octets_kept c =
    test_cases (ltb c 32)
    (λ t. let small : c < 0x80 = omega (arith, ltb-true c 32 t) in rw (t, lt-ltb c 0x80 small))
    (λ t₁. test_cases (eqb c delete_character) (λ t. rw (eqb-true c delete_character t)) (λ t. rw (t₁, t)))

text_octets : (cs : List ℕ) → length (encode_scalars (map printed_character cs)) ≡ length (encode_scalars cs)
unfolding encode_scalars flat_map
text_octets [] = refl
text_octets (c ∷ cs) =
    length-append (encode_scalar (printed_character c)) (encode_scalars (map printed_character cs))
    ∙ omega (arith, octets_kept c, text_octets cs, length-append (encode_scalar c) (encode_scalars cs))

-- a printed value has as few characters and as few bytes as a text
pub record SmallValue (l : List ℕ) : Type 0 where
  pub few : length l ≤ text_characters
  pub short : length (encode_scalars l) ≤ text_bytes

ascii_small : (l : List ℕ) → All Ascii l → length l ≤ 20 → SmallValue l
ascii_small l h g = record { few = omega arith; short = omega (arith, ap length (ascii_encode l h)) }

printed_value_small : (v : Value) → Storable v → SmallValue (printed_value v)
unfolding printed_value StorableBy
printed_value_small (quad q) h = ascii_small (quad_letter q ∷ []) (letter_ascii q, tt) (omega arith)
printed_value_small (signed z) h = ascii_small (signed_decimal z) (signed_ascii z) (length_signed_decimal z h).1
printed_value_small (text t) h =
    let d = utf8_decodes t h.utf8 in
    let octets : length (encode_scalars (map printed_character (scalars_of t))) ≡ length t = text_octets (scalars_of t) ∙ ap length d.is_encoding in
    let count : length (map printed_character (scalars_of t)) ≡ length (scalars_of t) = length-map (scalars_of t) printed_character in
    record { few = omega (arith, leb-true (characters t) text_characters h.few, d.count); short = omega (arith, h.short) }
printed_value_small (unsigned x) h = ascii_small (decimal x) (decimal_ascii x) (length_decimal x).1
printed_value_small (score n) h = ascii_small (decimal n) (decimal_ascii n) (length_decimal n).1

pub entry_size : (e : KeyedValue) → StorableValue e → length (flat_map line_octets (entry_lines e)) ≤ entry_print_bytes
unfolding entry_lines StorableValue
entry_size e h =
    let l = printed_value e.value in
    let (k, count, c) = line_count_counts (length l) in
    let small = printed_value_small e.value h in
    size_bound (length l) (length (encode_scalars l)) k (length (flat_map line_octets (printed_lines e.key l))) (lines_octets e.key l k count c) c small.few small.short

-- ---- a collection

entries_size : (es : List KeyedValue) → All StorableValue es → length (flat_map line_octets (flat_map entry_lines es)) ≤ length es * entry_print_bytes
unfolding flat_map
entries_size [] h = omega arith
entries_size (e ∷ es) h =
    omega (
      arith,
      ap length (flat_map_append line_octets (entry_lines e) (flat_map entry_lines es)),
      length-append (flat_map line_octets (entry_lines e)) (flat_map line_octets (flat_map entry_lines es)),
      entry_size e h.0,
      entries_size es h.1,
      suc-mul (length es) entry_print_bytes,
    )

entries_in_few : (c : ℕ) (es : List Entry) → length (entries_in c es) ≤ length es
unfolding entries_in
entries_in_few c [] = omega arith
entries_in_few c (e ∷ es) =
    if_cases (λ (l : List KeyedValue). length l ≤ suc (length es)) (eqb e.collection c) (keyed_value e ∷ entries_in c es) (entries_in c es)
    (λ t. omega (arith, entries_in_few c es)) (λ t. omega (arith, entries_in_few c es))

-- No print of a collection has more bytes.
pub print_fits : (p : Projection) (c : ℕ) → Valid p → length (collection_print p c) ≤ print_bytes
unfolding collection_print collection_lines entries_of
print_fits p c v = omega (arith, entries_size (entries_in c p.entries) (entries_in_storable c p.entries v.fit_entries), entries_in_few c p.entries, v.few_entries)
