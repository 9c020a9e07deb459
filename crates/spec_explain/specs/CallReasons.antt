-- Why the check, the listing, the conversion and the bringing in of a term list refuse: 01, 'Patch checks' and 'Listing', and 02, 'Job 13' and 'Job 1'.
-- Their numbers come under no cap.
use Rattle.std.specs.Prelude.{ℕ, suc, ◌≡◌, true, List, [], ◌∷◌, ◌++◌, leb, ltb, length, if◌then◌else◌}
use Rattle.std.proofs.Math.Option.{Option, none, some}
use Rattle.spec_decimal.specs.Decimal.{read_decimal}
use Rattle.spec_patch.specs.Sizes.{set_bytes, patch_operations}
use Rattle.spec_patch.specs.TextRule.{few_bytes, allowed, few_characters}
use Rattle.spec_patch.specs.Patch.{Envelope, Patch}
use Rattle.spec_patch.specs.Edition.{Edition}
use Rattle.spec_patch.specs.Encode.{encode}
use Rattle.spec_patch.specs.Read.{read_set}
use Rattle.spec_patch.specs.Write.{value_passes}
use Rattle.spec_checks.specs.Finding.{Finding}
use Rattle.spec_checks.specs.Findings.{Place, findings}
use Rattle.spec_projection.specs.Projection.{empty}
use Rattle.spec_conversion.specs.Conversion as conversions
use Rattle.spec_conversion.specs.Conversion.{other_edition, ConversionRefusal, unread, kind_in}
use Rattle.spec_listing.specs.Ascii.{ascii}
use Rattle.spec_listing.specs.Escapes.{tab}
use Rattle.spec_listing.specs.Split.{split}
use Rattle.spec_import.specs.Import as imports
use Rattle.spec_import.specs.Import.{Term, ImportRefusal, lines, Terms, terms, faulty, read_terms, patch_of}
use Rattle.spec_explain.specs.ReadingRule.{rule_fault, reading_word, Unread}
use Rattle.spec_explain.specs.Locate.{locate}
use Rattle.spec_explain.specs.Walk.{Walk, through, halted, walk_patches, tested}
use Rattle.spec_explain.specs.Reason.{Reason}
use Rattle.spec_explain.specs.Explain.{fine, ◌>>=◌, ◌>>◌, patches_read, patches_readable, no_findings, step_kept, applies, reason_of}

-- ---- the check: only what is not read is refused

unfoldable pub explain_check : Edition → List ℕ → Option Reason
explain_check ed set = reason_of do
  ps ← patches_readable (locate ed set) (patches_read (read_set ed set))
  fine tt

-- ---- the listing: reading, the checks, and all operations on an empty projection

unfoldable pub explain_listing : Edition → List ℕ → Option Reason
explain_listing ed set = reason_of do
  ps ← patches_readable (locate ed set) (patches_read (read_set ed set))
  no_findings (findings ps).place (findings ps).found
  applies (walk_patches step_kept 0 empty ps)

-- ---- the conversion: reading, then the first value of a kind that the other edition lacks, then the room

pub data ConversionReason : Type 0 where
  not_read : Unread → ConversionReason
  kind_missing : (patch operation : ℕ) → ConversionReason
  no_room : (needed room : ℕ) → ConversionReason

-- the refusal that a reason is behind
abbrev pub conversion_refusal : ConversionReason → ConversionRefusal
conversion_refusal (not_read u) = unread (rule_fault u.rule)
conversion_refusal (kind_missing i j) = conversions.kind_missing
conversion_refusal (no_room needed room) = conversions.output_too_short

abbrev pub conversion_word : ConversionReason → List ℕ
conversion_word (not_read u) = reading_word u.rule
conversion_word (kind_missing i j) = ascii "kind-missing"
conversion_word (no_room needed room) = ascii "output-too-short"

unfoldable pub explain_rewriting : Edition → ℕ → List Patch → Walk (Unit {0}) → Option ConversionReason
explain_rewriting to room ps (halted h) = some (kind_missing h.patch h.operation)
explain_rewriting to room ps (through u) = if leb (length (encode to ps)) room then none else some (no_room (length (encode to ps)) room)

unfoldable pub explain_converting : Edition → ℕ → Option Unread → List Patch → Option ConversionReason
explain_converting to room (some u) ps = some (not_read u)
explain_converting to room none ps = explain_rewriting to room ps (walk_patches (tested (value_passes (kind_in to))) 0 tt ps)

unfoldable pub explain_conversion : Edition → List ℕ → ℕ → Option ConversionReason
explain_conversion from set room = explain_converting (other_edition from) room (locate from set) (patches_read (read_set from set))

-- ---- a term list: its lines in order, then the bytes of the set, the checks, and the room

-- what a line can break: two fields, a key that is a u64 in decimal, a text that RFC 3629 allows; the text's bytes and characters, and room in the patch
pub data LineRule : Type 0 where
  line_fields line_key line_text line_bytes line_characters line_count : LineRule

abbrev pub line_refusal : LineRule → ImportRefusal
line_refusal line_fields = imports.other_form
line_refusal line_key = imports.other_form
line_refusal line_text = imports.other_form
line_refusal line_bytes = imports.over_capacity
line_refusal line_characters = imports.over_capacity
line_refusal line_count = imports.over_capacity

abbrev pub line_word : LineRule → List ℕ
line_word line_fields = ascii "line-fields"
line_word line_key = ascii "line-key"
line_word line_text = ascii "line-not-utf8"
line_word line_bytes = ascii "line-text-length"
line_word line_characters = ascii "line-text-characters"
line_word line_count = ascii "line-count"

-- a key and a text, after n other lines
unfoldable pub term_rule : ℕ → Option ℕ → List ℕ → Option LineRule
term_rule n none t = some line_key
term_rule n (some k) t =
    if allowed true t then (if few_bytes t then (if few_characters true t then (if ltb n patch_operations then none else some line_count) else some line_characters) else some line_bytes) else some line_text

unfoldable pub fields_rule : ℕ → List (List ℕ) → Option LineRule
fields_rule n [] = some line_fields
fields_rule n (k ∷ []) = some line_fields
fields_rule n (k ∷ t ∷ []) = term_rule n (read_decimal k) t
fields_rule n (k ∷ t ∷ more ∷ fields) = some line_fields

unfoldable pub line_rule : ℕ → List ℕ → Option LineRule
line_rule n line = fields_rule n (split tab line)

-- a line by its index from 0, and its rule
pub record BadLine : Type 0 where
  pub line : ℕ
  pub rule : LineRule

abbrev pub or_later : ℕ → Option LineRule → Option BadLine → Option BadLine
or_later n none later = later
or_later n (some r) later = some (record { line = n; rule = r })

-- the first line that breaks a rule, after n others
unfoldable pub first_bad_line : ℕ → List (List ℕ) → Option BadLine
first_bad_line n [] = none
first_bad_line n (line ∷ rest) = or_later n (line_rule n line) (first_bad_line (suc n) rest)

pub data ImportReason : Type 0 where
  bad_line : BadLine → ImportReason
  set_over : (bytes : ℕ) → ImportReason
  patch_findings : Place → (count : ℕ) → (first : Finding) → ImportReason
  no_import_room : (needed room : ℕ) → ImportReason

abbrev pub import_refusal : ImportReason → ImportRefusal
import_refusal (bad_line b) = line_refusal b.rule
import_refusal (set_over n) = imports.over_capacity
import_refusal (patch_findings place n f) = imports.patch_invalid
import_refusal (no_import_room needed room) = imports.output_too_short

abbrev pub import_word : ImportReason → List ℕ
import_word (bad_line b) = line_word b.rule
import_word (set_over n) = ascii "set-too-long"
import_word (patch_findings place n f) = ascii "findings"
import_word (no_import_room needed room) = ascii "output-too-short"

unfoldable pub explain_found : (needed room : ℕ) → Place → List Finding → Option ImportReason
explain_found needed room place (f ∷ fs) = some (patch_findings place (length (f ∷ fs)) f)
explain_found needed room place [] = if leb needed room then none else some (no_import_room needed room)

unfoldable pub explain_patch : Edition → List Patch → ℕ → Option ImportReason
explain_patch ed ps room =
    if leb (length (encode ed ps)) set_bytes then explain_found (length (encode ed ps)) room (findings ps).place (findings ps).found else some (set_over (length (encode ed ps)))

-- the terms of the lines; there are none where a line has a fault
unfoldable pub terms_of : Terms → List Term
terms_of (terms ts) = ts
terms_of (faulty r) = []

unfoldable pub line_reason_first : Option BadLine → Option ImportReason → Option ImportReason
line_reason_first none later = later
line_reason_first (some b) later = some (bad_line b)

unfoldable pub explain_import : Edition → ℕ → Envelope → List ℕ → ℕ → Option ImportReason
explain_import ed collection e list room = line_reason_first (first_bad_line 0 (lines list)) (explain_patch ed (patch_of collection e (terms_of (read_terms 0 (lines list))) ∷ []) room)

-- ---- what is claimed of the line that is named: it breaks the rule, and no line before it breaks one
pub record FirstBadLine (ls : List (List ℕ)) (b : BadLine) : Type 0 where
  pub before : List (List ℕ)
  pub line : List ℕ
  pub behind : List (List ℕ)
  pub parts : ls ≡ before ++ (line ∷ behind)
  pub index : length before ≡ b.line
  pub fine_before : first_bad_line 0 before ≡ none
  pub breaks : line_rule b.line line ≡ some b.rule
