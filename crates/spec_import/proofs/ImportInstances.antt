-- Lists brought in and lists refused, 02, 'Job 1': one table of computed tests, and a list that the theorems are about.
use Rattle.std.specs.Prelude.{ℕ, ◌+◌, ◌≡◌, refl, Bool, false, ◌&&◌, T, eqb, replicate}
use mathlib.Core.List.{List, [], ◌∷◌, ◌++◌, flat_map}
use Rattle.std.proofs.Math.Option.{none}
use Rattle.std.proofs.Common.{arith}
use Rattle.spec_patch.specs.Opened.{opened_sets}
use Rattle.spec_checks.specs.Opened.{opened_checks}
use Rattle.spec_lists.specs.Lists.{all, equal_lists, All}
use Rattle.spec_decimal.specs.Decimal
use Rattle.spec_listing.specs.Escapes.{tab, newline, carriage_return}
use Rattle.spec_listing.specs.Split
use Rattle.spec_patch.specs.Patch.{Envelope, insert, text}
use Rattle.spec_patch.specs.Edition.{Edition, v1, v2}
use Rattle.spec_patch.specs.Encode.{encode}
use Rattle.spec_import.specs.Import
use Rattle.spec_import.specs.Import.{Term, import_number, lines, Terms, terms, faulty, read_terms, Imported, imported, refused, import_terms, print_terms}
use Rattle.spec_import.proofs.LineLaws.{PrintableTerm, KeptTerm}
use Rattle.spec_import.proofs.ImportLaws.{Importable, imports_exactly}

-- every definition that the tests compute through
unfoldable pub opened_import : Unit {0}
unfolding opened_sets opened_checks
    Rattle.spec_decimal.specs.Decimal.digits
    Rattle.spec_decimal.specs.Decimal.decimal
    Rattle.spec_decimal.specs.Decimal.is_numeral
    Rattle.spec_decimal.specs.Decimal.number_with
    Rattle.spec_decimal.specs.Decimal.read_decimal
    Rattle.spec_listing.specs.Split.prepend
    Rattle.spec_listing.specs.Split.split
    Rattle.spec_import.specs.Import.import_number
    Rattle.spec_import.specs.Import.lines
    Rattle.spec_import.specs.Import.term_with
    Rattle.spec_import.specs.Import.term_of_fields
    Rattle.spec_import.specs.Import.read_term
    Rattle.spec_import.specs.Import.keeps_text
    Rattle.spec_import.specs.Import.also
    Rattle.spec_import.specs.Import.line_then
    Rattle.spec_import.specs.Import.read_terms
    Rattle.spec_import.specs.Import.insert_of
    Rattle.spec_import.specs.Import.patch_of
    Rattle.spec_import.specs.Import.import_patch
    Rattle.spec_import.specs.Import.after_lines
    Rattle.spec_import.specs.Import.import_terms
    Rattle.spec_import.specs.Import.print_term
    Rattle.spec_import.specs.Import.print_terms
opened_import = tt

-- ---- what the instances are made of

-- stream, document and epoch 1, no surface
pub with_id : ℕ → Envelope
with_id i = record { id = i; stream = 1; document = 1; surface = none; previous = 1; revision = 2; epoch = 1; sequence = 1 }

-- the lines are refused with the number
lines_refuse : ℕ → List ℕ → ℕ → Bool
lines_refuse n list number = told (read_terms n (lines list))
  where
    told : Terms → Bool
    told (terms ts) = false
    told (faulty r) = eqb (import_number r) number

-- the lines hold so many terms
lines_hold : ℕ → List ℕ → ℕ → Bool
lines_hold n list count = told (read_terms n (lines list))
  where
    counted : List Term → ℕ
    counted [] = 0
    counted (t ∷ ts) = counted ts + 1

    told : Terms → Bool
    told (terms ts) = eqb (counted ts) count
    told (faulty r) = false

-- a list brought into collection 9 gives these bytes
gives : Edition → List ℕ → ℕ → List ℕ → Bool
gives ed list room bs = same (import_terms ed 9 (with_id 1) list room)
  where
    same : Imported → Bool
    same (imported out) = equal_lists eqb out bs
    same (refused r) = false

-- a list under a patch id, with so much room, is refused with the number
refuses : ℕ → List ℕ → ℕ → ℕ → Bool
refuses i list room number = told (import_terms v1 9 (with_id i) list room)
  where
    told : Imported → Bool
    told (imported out) = false
    told (refused r) = eqb (import_number r) number

-- a line of key 1 with a text of n bytes
long : ℕ → ℕ → List ℕ
long n b = 49 ∷ tab ∷ replicate n b ++ (newline ∷ [])

-- ---- the instances

-- 7 and a letter, 0 and no text, the last line with its newline or without; a carriage return belongs to the text
pub two_lines : List ℕ
two_lines = 55 ∷ tab ∷ 97 ∷ carriage_return ∷ newline ∷ 48 ∷ tab ∷ []

pub lists_given : Bool
lists_given =
    gives v1 two_lines 1000 (encode v1 (record { envelope = with_id 1; operations = insert 9 7 none (text (97 ∷ carriage_return ∷ [])) ∷ insert 9 0 none (text []) ∷ [] } ∷ []))
    && (gives v2 (two_lines ++ (newline ∷ [])) 1000 (encode v2 (record { envelope = with_id 1; operations = insert 9 7 none (text (97 ∷ carriage_return ∷ [])) ∷ insert 9 0 none (text []) ∷ [] } ∷ []))
    && lines_hold 0 (49 ∷ 56 ∷ 52 ∷ 52 ∷ 54 ∷ 55 ∷ 52 ∷ 52 ∷ 48 ∷ 55 ∷ 51 ∷ 55 ∷ 48 ∷ 57 ∷ 53 ∷ 53 ∷ 49 ∷ 54 ∷ 49 ∷ 53 ∷ tab ∷ []) 1)

-- another form: no bytes, no tab, no key, a second tab, a plus sign, a blank, a leading zero, 2^64, a text that is not UTF-8
pub other_forms : Bool
other_forms =
    all (λ (list : List ℕ). lines_refuse 0 list 15)
    (
    (newline ∷ [])
    ∷ (49 ∷ [])
    ∷ (tab ∷ 97 ∷ [])
    ∷ (49 ∷ tab ∷ 97 ∷ tab ∷ [])
    ∷ (43 ∷ 49 ∷ tab ∷ [])
    ∷ (32 ∷ 49 ∷ tab ∷ [])
    ∷ (48 ∷ 49 ∷ tab ∷ [])
    ∷ (49 ∷ 56 ∷ 52 ∷ 52 ∷ 54 ∷ 55 ∷ 52 ∷ 52 ∷ 48 ∷ 55 ∷ 51 ∷ 55 ∷ 48 ∷ 57 ∷ 53 ∷ 53 ∷ 49 ∷ 54 ∷ 49 ∷ 54 ∷ tab ∷ [])
    ∷ (49 ∷ tab ∷ 0x80 ∷ [])
    ∷ (49 ∷ tab ∷ 97 ∷ newline ∷ newline ∷ [])
    ∷ []
    )

-- 160 characters pass and 161 do not; neither do 241 bytes of 121 characters, and 240 of 120 do
pub text_limits : Bool
text_limits =
    lines_hold 0 (long 160 97) 1
    && (lines_refuse 0 (long 161 97) 12
    && (lines_hold 0 (49 ∷ tab ∷ flat_map (λ (b : ℕ). 0xc3 ∷ b ∷ []) (replicate 120 0xa4)) 1
    && lines_refuse 0 (49 ∷ tab ∷ 97 ∷ flat_map (λ (b : ℕ). 0xc3 ∷ b ∷ []) (replicate 120 0xa4)) 12))

-- the first line with a fault decides, and in a line 15 comes before 12; the 129th line is 12 if it has the form
pub first_faults : Bool
first_faults =
    lines_refuse 0 (long 161 97 ++ (97 ∷ [])) 12
    && (lines_refuse 0 (97 ∷ newline ∷ long 161 97) 15
    && (lines_refuse 0 (long 241 0x80) 15
    && (lines_hold 127 (49 ∷ tab ∷ []) 1
    && (lines_refuse 128 (49 ∷ tab ∷ []) 12 && lines_refuse 128 (49 ∷ []) 15))))

-- after the lines: no line, a repeated key and a patch id of 0 are 11, also without room; then one place too few is 14
pub checked_last : Bool
checked_last =
    refuses 1 [] 1000 11
    && (refuses 1 (49 ∷ tab ∷ newline ∷ 49 ∷ tab ∷ 97 ∷ []) 0 11
    && (refuses 0 two_lines 1000 11
    && (refuses 1 (49 ∷ tab ∷ []) 118 14 && gives v1 (49 ∷ tab ∷ []) 119 (encode v1 (record { envelope = with_id 1; operations = insert 9 1 none (text []) ∷ [] } ∷ [])))))

pub imports_hold : T (all (λ (b : Bool). b) (lists_given ∷ other_forms ∷ text_limits ∷ first_faults ∷ checked_last ∷ []))
unfolding lists_given other_forms text_limits first_faults checked_last two_lines with_id lines_refuse lines_hold gives refuses long opened_import
imports_hold = tt

-- ---- the theorems, met by a list

some_imported : (ed : Edition) → (bs : List ℕ) × (import_terms ed 9 (with_id 1) two_lines 1000 ≡ imported bs)
unfolding two_lines with_id opened_import
some_imported v1 = (_, refl)
some_imported v2 = (_, refl)

pub some_importable : (ed : Edition) → Importable ed 9 (with_id 1) two_lines 1000
some_importable ed = (imports_exactly ed 9 (with_id 1) two_lines 1000).0 (some_imported ed)

-- and by terms that are printed
pub some_terms : List Term
some_terms = record { key = 7; words = 97 ∷ carriage_return ∷ [] } ∷ record { key = 0; words = [] } ∷ []

pub some_terms_printable : All PrintableTerm some_terms
unfolding some_terms opened_import
some_terms_printable =
    (record { formed = record { key = omega arith; utf8 = refl; no_tab = refl }; no_newline = refl }, (record { formed = record { key = omega arith; utf8 = refl; no_tab = refl }; no_newline = refl }, tt))

pub some_terms_kept : All KeptTerm some_terms
unfolding some_terms opened_import
some_terms_kept = (refl, (refl, tt))

-- which gives the list with its last newline
pub some_terms_printed : print_terms some_terms ≡ two_lines ++ (newline ∷ [])
unfolding some_terms two_lines opened_import
some_terms_printed = refl

pub some_terms_imported : (ed : Edition) → (bs : List ℕ) × (import_terms ed 9 (with_id 1) (print_terms some_terms) 1000 ≡ imported bs)
unfolding some_terms with_id opened_import
some_terms_imported v1 = (_, refl)
some_terms_imported v2 = (_, refl)
