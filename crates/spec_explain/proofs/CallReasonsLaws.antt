-- The reasons of the check, the listing, the conversion and a term list: there is one exactly where the call refuses, and it has the refusal's number.
use Rattle.std.specs.Prelude.{ℕ, suc, ◌+◌, ◌<◌, ◌≡◌, refl, Bool, true, false, ◌&&◌, leb, ltb, length, if◌then◌else◌}
use Rattle.std.proofs.Common.{sym, ap, ◌∙◌, arith, leb-false}
use mathlib.Core.List.{List, [], ◌∷◌, ◌++◌, flat_map}
use Rattle.std.proofs.Math.Option.{Option, none, some}
use Rattle.spec_lists.specs.Lists.{all, is_empty}
use Rattle.spec_lists.proofs.ListLaws.{all_test_append, test_cases}
use Rattle.spec_patch.specs.Sizes.{set_bytes, patch_operations}
use Rattle.spec_patch.specs.TextRule.{few_bytes, allowed, few_characters}
use Rattle.spec_patch.specs.Patch.{Operation, Envelope, Patch}
use Rattle.spec_patch.specs.Encode.{encode}
use Rattle.spec_patch.specs.Write.{value_passes, all_values}
use Rattle.spec_patch.specs.Edition.{Edition}
use Rattle.spec_patch.specs.Reader.{Fault, fault_number}
use Rattle.spec_patch.specs.Read.{SetReading, patches, fault, read_set}
use Rattle.spec_checks.specs.Finding.{Finding}
use Rattle.spec_checks.specs.Findings.{Place, findings}
use Rattle.spec_projection.specs.Projection.{Projection, empty}
use Rattle.spec_projection.specs.Apply.{apply_steps, replay_steps, operations_of}
use Rattle.spec_session.proofs.DiagnosticsLaws.{reading_number, operation_number}
use Rattle.spec_listing.specs.Listing.{projection_lines, refusal_line, outcome_lines, reading_lines, listing}
use Rattle.spec_conversion.specs.Conversion.{other_edition, output_too_short, Converted, converted, refused, kind_in, all_kinds, rewritten, convert_to, convert}
use Rattle.spec_decimal.specs.Decimal.{read_decimal}
use Rattle.spec_listing.specs.Escapes.{tab}
use Rattle.spec_listing.specs.Split.{split}
use Rattle.spec_import.specs.Import as imports
use Rattle.spec_import.specs.Import.{Term, lines, term_with, term_of_fields, read_term, keeps_text, Terms, terms, faulty, also, line_then, read_terms, patch_of, Imported, imported, import_patch, import_terms}
use Rattle.spec_explain.specs.ReadingRule.{rule_fault, Unread}
use Rattle.spec_explain.specs.Locate.{locate}
use Rattle.spec_explain.proofs.LocateLaws.{Agrees, reads, stops, locate_agrees}
use Rattle.spec_explain.specs.OperationRule.{operation_fault, rule_of}
use Rattle.spec_explain.specs.Walk.{Walk, through, halted, walk_patches, tested, operations_before, FirstLacking}
use Rattle.spec_explain.proofs.WalkLaws.{operations_parted, test_through, test_first}
use Rattle.spec_explain.specs.Reason.{Reason, unreadable, has_findings, operation_fails, reason_number}
use Rattle.spec_explain.specs.Explain.{fine, ◌>>=◌, ◌>>◌, patches_read, patches_readable, no_findings, step_kept, applies, reason_of}
use Rattle.spec_explain.proofs.ExplainLaws.{all_applied, first_failing, stopped_there}
use Rattle.spec_explain.specs.CallReasons as reasons
use Rattle.spec_explain.specs.CallReasons.{explain_check, explain_listing, ConversionReason, conversion_refusal, explain_rewriting, explain_converting, explain_conversion, LineRule, line_fields, line_key, line_text, line_bytes, line_characters, line_count, line_refusal, term_rule, fields_rule, line_rule, BadLine, or_later, first_bad_line, ImportReason, bad_line, set_over, patch_findings, no_import_room, import_refusal, explain_found, explain_patch, terms_of, explain_import, FirstBadLine}

-- ---- the check

pub data CheckExplained : Option Reason → SetReading → Type 0 where
  checks : (ps : List Patch) → CheckExplained none (patches ps)
  not_checked : (r : Reason) (f : Fault) → reason_number r ≡ fault_number f → CheckExplained (some r) (fault f)

pub check_explained : (ed : Edition) (set : List ℕ) → CheckExplained (explain_check ed set) (read_set ed set)
unfolding explain_check reason_of patches_readable patches_read
check_explained ed set = go (locate ed set) (read_set ed set) (locate_agrees ed set)
  where
    go : (o : Option Unread) (x : SetReading) → Agrees ed o x → CheckExplained (reason_of (patches_readable o (patches_read x) >>= (λ ps. fine tt))) x
    go (some u) (patches ps) x5 = elim x5 [ ]
    go none (fault f) x4 = elim x4 [ ]
    go none (patches ps) (reads qs) = checks ps
    go (some u) (fault f) (stops v g is) = not_checked (unreadable u) f (reading_number (rule_fault u.rule) ∙ ap fault_number is)

-- ---- the listing

pub data ListingExplained : Option Reason → List ℕ → Type 0 where
  lists : (p : Projection) → ListingExplained none (projection_lines p)
  not_listed : (r : Reason) → ListingExplained (some r) (refusal_line (reason_number r))

pub listing_explained : (ed : Edition) (set : List ℕ) → ListingExplained (explain_listing ed set) (listing ed set)
unfolding explain_listing reason_of patches_readable patches_read no_findings applies listing reading_lines outcome_lines
listing_explained ed set = by_reading (locate ed set) (read_set ed set) (locate_agrees ed set)
  where
    by_walk : (ps : List Patch) (w : Walk Projection) → walk_patches step_kept 0 empty ps ≡ w → ListingExplained (reason_of (applies w)) (outcome_lines (apply_steps empty (replay_steps ps)))
    by_walk ps (through q) is = rw (all_applied empty ps q is) (lists q)
    by_walk ps (halted h) is =
        let rule = rule_of h.left h.refused in
        rw (stopped_there empty ps h.patch h.operation rule (first_failing empty ps h is), ← operation_number (operation_fault rule)) (not_listed (operation_fails h.patch h.operation rule))

    by_findings : (ps : List Patch) (fs : List Finding) → (findings ps).found ≡ fs
        → ListingExplained (reason_of (no_findings (findings ps).place fs >> applies (walk_patches step_kept 0 empty ps))) (if is_empty fs then outcome_lines (apply_steps empty (replay_steps ps)) else refusal_line 11)
    by_findings ps [] is = by_walk ps (walk_patches step_kept 0 empty ps) refl
    by_findings ps (f ∷ fs) is = not_listed (has_findings (findings ps).place (length (f ∷ fs)) f)

    by_reading : (o : Option Unread) (x : SetReading) → Agrees ed o x
        → ListingExplained (reason_of (patches_readable o (patches_read x) >>= (λ ps. no_findings (findings ps).place (findings ps).found >> applies (walk_patches step_kept 0 empty ps)))) (reading_lines x)
    by_reading (some u) (patches ps) x5 = elim x5 [ ]
    by_reading none (fault f) x4 = elim x4 [ ]
    by_reading none (patches ps) (reads qs) = by_findings ps (findings ps).found refl
    by_reading (some u) (fault f) (stops v g is) = rw (← is, ← reading_number (rule_fault u.rule)) (not_listed (unreadable u))

-- ---- the conversion

-- converted, or refused with the number of the reason; of a missing kind the first operation is named
pub data ConversionExplained (from : Edition) (set : List ℕ) : Option ConversionReason → Converted → Type 0 where
  converts : (bs : List ℕ) → ConversionExplained from set none (converted bs)
  not_read : (u : Unread) → locate from set ≡ some u → ConversionExplained from set (some (reasons.not_read u)) (refused (conversion_refusal (reasons.not_read u)))
  kind_missing : (i j : ℕ) (ps : List Patch) → read_set from set ≡ patches ps → FirstLacking (value_passes (kind_in (other_edition from))) ps i j → ConversionExplained from set (some (reasons.kind_missing i j)) (refused (conversion_refusal (reasons.kind_missing i j)))
  no_room : (needed room : ℕ) → room < needed → ConversionExplained from set (some (reasons.no_room needed room)) (refused (conversion_refusal (reasons.no_room needed room)))

-- a test of every operation, patch by patch
all_operations : (test : Operation → Bool) (ps : List Patch) → all (λ (p : Patch). all test p.operations) ps ≡ all test (operations_of ps)
unfolding operations_of flat_map
all_operations test [] = refl
all_operations test (p ∷ ps) = ap (λ (t : Bool). all test p.operations && t) (all_operations test ps) ∙ sym (all_test_append test p.operations (operations_of ps))

-- an operation that fails the test is among them
not_all : (test : Operation → Bool) (a : List Operation) (o : Operation) (b : List Operation) → test o ≡ false → all test (a ++ (o ∷ b)) ≡ false
not_all test [] o b e = rw e
not_all test (x ∷ a) o b e = go (test x) (not_all test a o b e)
  where
    go : (t : Bool) → all test (a ++ (o ∷ b)) ≡ false → (t && all test (a ++ (o ∷ b))) ≡ false
    go true h = h
    go false h = refl

pub conversion_explained : (from : Edition) (set : List ℕ) (room : ℕ) → ConversionExplained from set (explain_conversion from set room) (convert from set room)
unfolding explain_conversion explain_converting explain_rewriting convert convert_to rewritten all_kinds all_values patches_read
conversion_explained from set room = by_reading (locate from set) (read_set from set) refl refl (locate_agrees from set)
  where
    to : Edition
    to = other_edition from

    test : Operation → Bool
    test = value_passes (kind_in (other_edition from))

    by_room : (ps : List Patch) (t : Bool) → leb (length (encode (other_edition from) ps)) room ≡ t
        → ConversionExplained from set (if t then none else some (reasons.no_room (length (encode (other_edition from) ps)) room)) (if t then converted (encode (other_edition from) ps) else refused output_too_short)
    by_room ps true t = converts (encode (other_edition from) ps)
    by_room ps false t = no_room (length (encode (other_edition from) ps)) room (leb-false _ room t)

    by_walk : (ps : List Patch) → read_set from set ≡ patches ps → (w : Walk (Unit {0})) → walk_patches (tested (value_passes (kind_in (other_edition from)))) 0 tt ps ≡ w
        → ConversionExplained from set (explain_rewriting (other_edition from) room ps w) (rewritten (other_edition from) room (patches ps))
    by_walk ps r (through u) is =
        rw (all_operations (value_passes (kind_in (other_edition from))) ps, test_through (value_passes (kind_in (other_edition from))) ps u is)
        (by_room ps (leb (length (encode (other_edition from) ps)) room) refl)
    by_walk ps r (halted h) is =
        let f = test_first (value_passes (kind_in (other_edition from))) ps h is in
        rw (all_operations (value_passes (kind_in (other_edition from))) ps, operations_parted f.there, not_all (value_passes (kind_in (other_edition from))) (operations_before f.there) f.operation _ f.lacks)
        (kind_missing h.patch h.operation ps r f)

    by_reading : (o : Option Unread) (x : SetReading) → locate from set ≡ o → read_set from set ≡ x → Agrees from o x → ConversionExplained from set (explain_converting (other_edition from) room o (patches_read x)) (rewritten (other_edition from) room x)
    by_reading (some u) (patches ps) l r x7 = elim x7 [ ]
    by_reading none (fault f) l r x8 = elim x8 [ ]
    by_reading none (patches ps) l r (reads qs) = by_walk ps r (walk_patches (tested (value_passes (kind_in (other_edition from)))) 0 tt ps) refl
    by_reading (some u) (fault f) l r (stops v g is) = rw (← is) (not_read u l)

-- ---- a term list

-- brought in, or refused with the number of the reason
pub data ImportExplained : Option ImportReason → Imported → Type 0 where
  brings : (bs : List ℕ) → ImportExplained none (imported bs)
  not_brought : (r : ImportReason) → ImportExplained (some r) (imports.refused (import_refusal r))

-- a line, by what is read of it
data LineTells (n : ℕ) : Option LineRule → Option Term → Type 0 where
  tells_term : (t : Term) → (keeps_text t && ltb n patch_operations) ≡ true → LineTells n none (some t)
  tells_over : (r : LineRule) (t : Term) → (keeps_text t && ltb n patch_operations) ≡ false → line_refusal r ≡ imports.over_capacity → LineTells n (some r) (some t)
  tells_form : (r : LineRule) → line_refusal r ≡ imports.other_form → LineTells n (some r) none

line_tells : (n : ℕ) (line : List ℕ) → LineTells n (line_rule n line) (read_term line)
unfolding line_rule fields_rule term_rule read_term term_of_fields term_with keeps_text
line_tells n line = by_fields (split tab line)
  where
    by_text : (k : ℕ) (t : List ℕ) → LineTells n (term_rule n (some k) t) (term_with (some k) t)
    by_text k t = test_cases (allowed true t)
        (λ a. test_cases (few_bytes t)
        (λ b. test_cases (few_characters true t)
        (λ c. test_cases (ltb n patch_operations)
        (λ d. rw (a, b, c, d) (tells_term (record { key = k; words = t }) (rw (b, c, d))))
        (λ d. rw (a, b, c, d) (tells_over line_count (record { key = k; words = t }) (rw (b, c, d)) refl)))
        (λ c. rw (a, b, c) (tells_over line_characters (record { key = k; words = t }) (rw (b, c)) refl)))
        (λ b. rw (a, b) (tells_over line_bytes (record { key = k; words = t }) (rw b) refl)))
        (λ a. rw a (tells_form line_text refl))

    by_key : (o : Option ℕ) (t : List ℕ) → LineTells n (term_rule n o t) (term_with o t)
    by_key none t = tells_form line_key refl
    by_key (some k) t = by_text k t

    by_fields : (fs : List (List ℕ)) → LineTells n (fields_rule n fs) (term_of_fields fs)
    by_fields [] = tells_form line_fields refl
    by_fields (k ∷ []) = tells_form line_fields refl
    by_fields (k ∷ t ∷ []) = by_key (read_decimal k) t
    by_fields (k ∷ t ∷ more ∷ fs) = tells_form line_fields refl

-- the lines, by what is read of them
data LinesTell : Option BadLine → Terms → Type 0 where
  hold : (ts : List Term) → LinesTell none (terms ts)
  broken : (b : BadLine) → LinesTell (some b) (faulty (line_refusal b.rule))

lines_tell : (n : ℕ) (ls : List (List ℕ)) → LinesTell (first_bad_line n ls) (read_terms n ls)
unfolding first_bad_line read_terms line_then also
lines_tell n [] = hold []
lines_tell n (line ∷ ls) = by_line (line_rule n line) (read_term line) (line_tells n line) (first_bad_line (suc n) ls) (read_terms (suc n) ls) (lines_tell (suc n) ls)
  where
    added : (t : Term) (b : Option BadLine) (x : Terms) → LinesTell b x → LinesTell b (also t x)
    added t (some b) (terms ts) x5 = elim x5 [ ]
    added t none (faulty r) x4 = elim x4 [ ]
    added t none (terms ts) (hold us) = hold (t ∷ ts)
    added t (some b) (faulty r) (broken c) = broken b

    by_line : (r : Option LineRule) (o : Option Term) → LineTells n r o → (b : Option BadLine) (x : Terms) → LinesTell b x → LinesTell (or_later n r b) (line_then n o x)
    by_line none none x7 b x later = elim x7 [ ]
    by_line none (some t) (tells_term u k) b x later = rw k (added t b x later)
    by_line (some r) (some t) (tells_over q u k is) b x later = rw (k, ← is) (broken (record { line = n; rule = r }))
    by_line (some r) none (tells_form q is) b x later = rw (← is) (broken (record { line = n; rule = r }))

pub import_explained : (ed : Edition) (collection : ℕ) (e : Envelope) (list : List ℕ) (room : ℕ) → ImportExplained (explain_import ed collection e list room) (import_terms ed collection e list room)
unfolding explain_import reasons.line_reason_first explain_patch explain_found terms_of import_terms imports.after_lines import_patch
import_explained ed collection e list room = by_lines (first_bad_line 0 (lines list)) (read_terms 0 (lines list)) (lines_tell 0 (lines list))
  where
    by_room : (ps : List Patch) (t : Bool)
        → ImportExplained (if t then none else some (no_import_room (length (encode ed ps)) room)) (if t then imported (encode ed ps) else imports.refused imports.output_too_short)
    by_room ps true = brings (encode ed ps)
    by_room ps false = not_brought (no_import_room (length (encode ed ps)) room)

    by_findings : (ps : List Patch) (place : Place) (fs : List Finding)
        → ImportExplained (explain_found (length (encode ed ps)) room place fs) (if is_empty fs then (if leb (length (encode ed ps)) room then imported (encode ed ps) else imports.refused imports.output_too_short) else imports.refused imports.patch_invalid)
    by_findings ps place [] = by_room ps (leb (length (encode ed ps)) room)
    by_findings ps place (f ∷ fs) = not_brought (patch_findings place (length (f ∷ fs)) f)

    by_bytes : (p : Patch) (t : Bool)
        → ImportExplained (if t then explain_found (length (encode ed (p ∷ []))) room (findings (p ∷ [])).place (findings (p ∷ [])).found else some (set_over (length (encode ed (p ∷ [])))))
        (if t then (if is_empty (findings (p ∷ [])).found then (if leb (length (encode ed (p ∷ []))) room then imported (encode ed (p ∷ [])) else imports.refused imports.output_too_short) else imports.refused imports.patch_invalid) else imports.refused imports.over_capacity)
    by_bytes p true = by_findings (p ∷ []) (findings (p ∷ [])).place (findings (p ∷ [])).found
    by_bytes p false = not_brought (set_over (length (encode ed (p ∷ []))))

    by_lines : (b : Option BadLine) (x : Terms) → LinesTell b x → ImportExplained (reasons.line_reason_first b (explain_patch ed (patch_of collection e (terms_of x) ∷ []) room)) (imports.after_lines ed collection e room x)
    by_lines (some b) (terms ts) x5 = elim x5 [ ]
    by_lines none (faulty r) x4 = elim x4 [ ]
    by_lines none (terms ts) (hold us) = by_bytes (patch_of collection e ts) (leb (length (encode ed (patch_of collection e ts ∷ []))) set_bytes)
    by_lines (some b) (faulty r) (broken c) = not_brought (bad_line b)

-- the line that is named is the first that breaks a rule
record FirstBadFrom (n : ℕ) (ls : List (List ℕ)) (b : BadLine) : Type 0 where
  before : List (List ℕ)
  line : List ℕ
  behind : List (List ℕ)
  parts : ls ≡ before ++ (line ∷ behind)
  index : n + length before ≡ b.line
  fine_before : first_bad_line n before ≡ none
  breaks : line_rule b.line line ≡ some b.rule

first_bad_from : (n : ℕ) (ls : List (List ℕ)) (b : BadLine) → first_bad_line n ls ≡ some b → FirstBadFrom n ls b
unfolding first_bad_line
first_bad_from n [] b e = absurd (let z : ◌≡◌ {A = ℕ} 0 1 = cc in omega arith)
first_bad_from n (line ∷ ls) b e = go (line_rule n line) refl (first_bad_from (suc n) ls b) e
  where
    some_is : {x y : BadLine} → some x ≡ some y → x ≡ y
    some_is q = cc

    go : (r : Option LineRule) → line_rule n line ≡ r → (first_bad_line (suc n) ls ≡ some b → FirstBadFrom (suc n) ls b) → or_later n r (first_bad_line (suc n) ls) ≡ some b → FirstBadFrom n (line ∷ ls) b
    go (some r) is later e =
        let same = some_is e in
        record {
          before = [];
          line = line;
          behind = ls;
          parts = refl;
          index = (omega arith) ∙ ap (λ (x : BadLine). x.line) same;
          fine_before = refl;
          breaks = ap (λ (x : BadLine). line_rule x.line line) (sym same) ∙ is ∙ ap (λ (x : BadLine). some x.rule) same;
        }
    go none is later e =
        let f = later e in
        record {
          before = line ∷ f.before;
          line = f.line;
          behind = f.behind;
          parts = ap (λ (l : List (List ℕ)). line ∷ l) f.parts;
          index = omega (arith, f.index);
          fine_before = rw is f.fine_before;
          breaks = f.breaks;
        }

pub first_bad_line_lem : (ls : List (List ℕ)) (b : BadLine) → first_bad_line 0 ls ≡ some b → FirstBadLine ls b
first_bad_line_lem ls b e =
    let f = first_bad_from 0 ls b e in
    record { before = f.before; line = f.line; behind = f.behind; parts = f.parts; index = omega (arith, f.index); fine_before = f.fine_before; breaks = f.breaks }
