-- The reasons of the check, the listing, the conversion and term lists, an example for each, as tables that the checker computes.
use Rattle.std.specs.Prelude.{ℕ, ◌≡◌, refl, replicate}
use mathlib.Core.List.{List, [], ◌∷◌, ◌++◌, map, flat_map}
use Rattle.std.proofs.Math.Option.{Option, none, some}
use Rattle.spec_patch.specs.Patch.{unsigned, score, insert, remove, Patch}
use Rattle.spec_patch.specs.Edition.{Edition, v1, v2}
use Rattle.spec_patch.specs.Encode.{encode}
use Rattle.spec_patch.specs.Write.{value_passes}
use Rattle.spec_checks.specs.Findings as places
use Rattle.spec_conversion.specs.Conversion.{other_edition, conversion_number, unread}
use Rattle.spec_decimal.specs.Decimal as Decimal
use Rattle.spec_listing.specs.Ascii.{ascii}
use Rattle.spec_listing.specs.Escapes.{tab, newline}
use Rattle.spec_listing.specs.Split.{prepend, split}
use Rattle.spec_import.specs.Import.{import_number, lines, term_with, term_of_fields, read_term, keeps_text, also, line_then, read_terms, insert_of, patch_of}
use Rattle.spec_explain.specs.ReadingRule.{wrong_heading, bytes_left, outside}
use Rattle.spec_explain.specs.OperationRule.{key_absent}
use Rattle.spec_explain.specs.Reason.{unreadable, has_findings, operation_fails}
use Rattle.spec_explain.specs.CallReasons as CallReasons
use Rattle.spec_explain.specs.CallReasons.{explain_check, explain_listing, ConversionReason, not_read, kind_missing, no_room, conversion_refusal, conversion_word, explain_conversion, LineRule, line_fields, line_key, line_text, line_bytes, line_characters, line_count, ImportReason, bad_line, set_over, patch_findings, no_import_room, import_refusal, import_word, explain_import}
use Rattle.spec_explain.proofs.ExplainExamples.{numbered_patch}
use Rattle.spec_explain.specs.Opened.{opened_reasons}

-- ---- the check and the listing

abbrev one_left : List ℕ
one_left = encode v1 [] ++ (7 ∷ [])

abbrev not_empty : List ℕ
not_empty = encode v1 (numbered_patch 1 (remove 9 1 ∷ []) ∷ [])

abbrev finding_six : List ℕ
finding_six = encode v1 (numbered_patch 1 [] ∷ [])

pub checks_explained :
    map (explain_check v1) (one_left ∷ finding_six ∷ not_empty ∷ []) ≡ some (unreadable (record { rule = bytes_left; inside = outside; position = 35 })) ∷ none ∷ none ∷ []
unfolding opened_reasons explain_check
checks_explained = refl

pub listings_explained :
    map (explain_listing v1) (one_left ∷ finding_six ∷ not_empty ∷ encode v1 [] ∷ [])
    ≡ some (unreadable (record { rule = bytes_left; inside = outside; position = 35 })) ∷ some (has_findings (places.in_patch 0) 1 (record { kind = 6; domain = 1; secondary = 0 })) ∷ some (operation_fails 0 0 key_absent) ∷ none ∷ []
unfolding opened_reasons explain_listing
listings_explained = refl

-- ---- the conversion

-- a set of one patch whose second operation has a score
abbrev scored : List Patch
scored = numbered_patch 1 (insert 9 1 none (unsigned 0) ∷ insert 9 2 none (score 7) ∷ insert 9 3 none (score 8) ∷ []) ∷ []

-- edition, bytes and room of a conversion, and why it is refused
pub record ConversionExample : Type 0 where
  pub edition : Edition
  pub set : List ℕ
  pub room : ℕ
  pub reason : Option ConversionReason

abbrev converting : Edition → List ℕ → ℕ → Option ConversionReason → ConversionExample
converting ed set room r = record { edition = ed; set = set; room = room; reason = r }

abbrev pub conversion_examples : List ConversionExample
conversion_examples =
    converting v2 (encode v1 []) 35 (some (not_read (record { rule = wrong_heading; inside = outside; position = 30 })))
    ∷ converting v2 (encode v2 scored) 0 (some (kind_missing 0 1))
    ∷ converting v1 (encode v1 []) 34 (some (no_room 35 34))
    ∷ converting v1 (encode v1 []) 35 none
    ∷ []

pub conversions_explained : map (λ (x : ConversionExample). explain_conversion x.edition x.set x.room) conversion_examples ≡ map (λ (x : ConversionExample). x.reason) conversion_examples
unfolding opened_reasons explain_conversion CallReasons.explain_converting CallReasons.explain_rewriting other_edition value_passes
conversions_explained = refl

abbrev pub conversion_named : Option ConversionReason → ℕ × List ℕ
conversion_named none = (0, [])
conversion_named (some r) = (conversion_number (conversion_refusal r), conversion_word r)

pub conversions_named : map (λ (x : ConversionExample). conversion_named x.reason) conversion_examples ≡ (10, ascii "heading") ∷ (18, ascii "kind-missing") ∷ (14, ascii "output-too-short") ∷ (0, []) ∷ []
unfolding conversion_number unread
conversions_named = refl

-- ---- term lists

-- a line of a key of one digit
abbrev line : ℕ → List ℕ → List ℕ
line k t = k ∷ tab ∷ t ++ (newline ∷ [])

unfoldable pub repeatedly : ℕ → List ℕ → List ℕ
repeatedly n l = flat_map (λ (u : ℕ). l) (replicate n 0)

-- the bytes of a list, and the room; it goes into collection 9
pub record ImportExample : Type 0 where
  pub list : List ℕ
  pub room : ℕ
  pub reason : Option ImportReason

abbrev bringing : List ℕ → ℕ → Option ImportReason → ImportExample
bringing list room r = record { list = list; room = room; reason = r }

abbrev broken_at : ℕ → LineRule → Option ImportReason
broken_at n r = some (bad_line (record { line = n; rule = r }))

abbrev pub import_reason_examples : List ImportExample
import_reason_examples =
    bringing (55 ∷ []) 1000 (broken_at 0 line_fields)
    ∷ bringing (line 55 (97 ∷ []) ++ line 120 []) 1000 (broken_at 1 line_key)
    ∷ bringing (line 55 (0xff ∷ [])) 1000 (broken_at 0 line_text)
    ∷ bringing (line 55 (replicate 241 97)) 1000 (broken_at 0 line_bytes)
    ∷ bringing (line 55 (replicate 161 97)) 1000 (broken_at 0 line_characters)
    ∷ bringing (repeatedly 129 (line 55 [])) 1000 (broken_at 128 line_count)
    ∷ bringing (line 55 [] ++ line 55 []) 1000 (some (patch_findings (places.in_patch 0) 1 (record { kind = 3; domain = 1; secondary = 1 })))
    ∷ bringing (line 55 (97 ∷ [])) 119 (some (no_import_room 120 119))
    ∷ bringing (line 55 (97 ∷ [])) 120 none
    ∷ []

pub imports_explained : map (λ (x : ImportExample). explain_import v1 9 (numbered_patch 1 []).envelope x.list x.room) import_reason_examples ≡ map (λ (x : ImportExample). x.reason) import_reason_examples
unfolding opened_reasons repeatedly explain_import CallReasons.line_reason_first CallReasons.explain_patch CallReasons.explain_found CallReasons.first_bad_line CallReasons.line_rule CallReasons.fields_rule CallReasons.term_rule CallReasons.terms_of
    Decimal.is_numeral Decimal.number_with Decimal.read_decimal prepend split lines term_with term_of_fields read_term keeps_text also line_then read_terms insert_of patch_of
imports_explained = refl

abbrev pub import_named : Option ImportReason → ℕ × List ℕ
import_named none = (0, [])
import_named (some r) = (import_number (import_refusal r), import_word r)

-- in the order above, and a set that would be too long
pub imports_named : map import_named (map (λ (x : ImportExample). x.reason) import_reason_examples ++ (some (set_over 32769) ∷ [])) ≡
    (15, ascii "line-fields") ∷ (15, ascii "line-key") ∷ (15, ascii "line-not-utf8") ∷ (12, ascii "line-text-length") ∷ (12, ascii "line-text-characters") ∷ (12, ascii "line-count")
    ∷ (11, ascii "findings") ∷ (14, ascii "output-too-short") ∷ (0, []) ∷ (12, ascii "set-too-long") ∷ []
unfolding import_number
imports_named = refl
