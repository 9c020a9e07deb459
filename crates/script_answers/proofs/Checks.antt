-- The lines of a check, by what it answered.
use Prim.Native.Nat.{ℕ, ◌*◌, ◌≤◌}
use mathlib.Core.Path.{◌≡◌, refl, sym, ap, ap₂, ◌∙◌}
use mathlib.Core.List.{List, [], ◌∷◌, flat_map}
use native.Mathlib.Omega.{arith}
use lib.ListN.{length, take}
use Rattle.std.specs.Prelude.{Option}
use Rattle.spec_patch.specs.Patch.{Patch}
use Rattle.spec_patch.specs.Edition.{Edition}
use Rattle.spec_patch.specs.Reader.{Fault, fault_number}
use Rattle.spec_patch.specs.Read.{SetReading, patches, fault, read_set}
use Rattle.spec_patch.proofs.SetLaws.{was_encoded}
use Rattle.spec_checks.specs.Finding.{Finding}
use Rattle.spec_checks.specs.Findings.{Place, in_patch, in_set, Findings, findings}
use Rattle.spec_checks.specs.Answer.{record_length, finding_words, fitting, checked_list}
use Rattle.spec_checks.proofs.AnswerLaws.{fitting_all, write_findings_front}
use Rattle.spec_checks.proofs.CountLaws.{findings_most}
use Rattle.spec_decimal.specs.Decimal.{decimal}
use Rattle.spec_listing.specs.Listing.{fields}
use Rattle.spec_replay.specs.Answers.{place_field, finding_line, checked_line, check_lines}
use Rattle.bytes_printer.specs.Prints.{spaced_field, Prints, Within}
use Rattle.bytes_printer.proofs.PrintsLaws.{◌⨾◌, ends_within}
use Rattle.projection_patch.specs.ReadAnswers.{fault_to, fault_of}
use Rattle.projection_patch.specs.FaultLaws.{fault_back}
use Rattle.projection_patch.specs.declared.read_values.ProjectionPatchReadFault.{ProjectionPatchReadFault}
use Rattle.check_set.specs.CheckAnswers.{place_to, checked_to, check_answer, check_numbers}
use Rattle.check_set.specs.declared.check_set.CheckPlace.{CheckPlace}
use Rattle.check_set.specs.declared.check_set.CheckPlace.TheVariants as place
use Rattle.check_set.specs.declared.check_set.PatchSetCheck.{PatchSetCheck}
use Rattle.std.specs.Prelude as code
use Rattle.script_answers.specs.CheckOf.{CheckOf}

-- ---- the place

pub patch_place : (p : Place) (i : ℕ) → place.Patch i ≡ place_to p → spaced_field (decimal i) ≡ spaced_field (place_field p)
unfolding place_field
patch_place (in_patch j) i is = let same : i ≡ j = cc in ap (λ (n : ℕ). spaced_field (decimal n)) same
patch_place in_set i is = absurd (let z : ◌≡◌ {A = ℕ} 0 1 = cc in omega arith)

pub set_place : (p : Place) → place.Set ≡ place_to p → p ≡ in_set
set_place (in_patch j) is = absurd (let z : ◌≡◌ {A = ℕ} 0 1 = cc in omega arith)
set_place in_set is = refl

-- ---- a refusal

abbrev refusal : ProjectionPatchReadFault → List ℕ
refusal f = 75 ∷ fields (decimal (fault_number (fault_of f)) ∷ [])

refused_reading : (reading : SetReading) (room : ℕ) (f : ProjectionPatchReadFault) → code.Err f ≡ check_answer reading room → refusal f ≡ check_lines reading
unfolding check_lines
refused_reading (patches ps) room f is = absurd (let z : ◌≡◌ {A = ℕ} 0 1 = cc in omega arith)
refused_reading (fault g) room f is =
    let same : f ≡ fault_to g = cc in
    ap refusal same ∙ ap (λ (x : Fault). 75 ∷ fields (decimal (fault_number x) ∷ [])) (fault_back g)

-- ---- findings

-- what an answer's place, its count and the numbers lent to it tell
pub record ToldFindings (f : Findings) (where_found : CheckPlace) (logical : ℕ) (records : List ℕ) : Type 0 where
  pub place_is : where_found ≡ place_to f.place
  pub counted : logical ≡ length f.found
  pub words : take (record_length * logical) records ≡ finding_words f.found

module _ (ps : List Patch) (lent : List ℕ) (room : record_length * length (findings ps).found ≤ length lent) where
  findings_told : (c : PatchSetCheck) (records : List ℕ) → code.Ok c ≡ check_answer (patches ps) (length lent) → records ≡ check_numbers (patches ps) lent
      → ToldFindings (findings ps) c.place c.logical records
  unfolding checked_list
  findings_told c records answered numbers =
      let same : c ≡ checked_to (checked_list ps (length lent)) = cc in
      let found = (findings ps).found in
      let all : fitting (length lent) found ≡ found = fitting_all (length lent) found room in
      let count : c.logical ≡ length found = ap (λ (x : PatchSetCheck). x.logical) same in
      record {
        place_is = ap (λ (x : PatchSetCheck). x.place) same;
        counted = count;
        words = ap₂ (λ (n : ℕ) (l : List ℕ). take (record_length * n) l) (count ∙ sym (ap length all)) numbers ∙ write_findings_front found lent ∙ ap finding_words all;
      }

module _ (ed : Edition) (set : List ℕ) (answer : code.Result PatchSetCheck ProjectionPatchReadFault) (records : List ℕ) (h : CheckOf ed set answer records) where
  pub check_refused_lines : (f : ProjectionPatchReadFault) → answer ≡ code.Err f → refusal f ≡ check_lines (read_set ed set)
  check_refused_lines f is = refused_reading (read_set ed set) (length h.lent) f (sym is ∙ h.answered)

  -- the line of the place and the count, and a line for each record
  module _ {l m n : List ℕ} {at r s : Option ℕ} (c : PatchSetCheck) (is : answer ≡ code.Ok c)
      (head : (f : Findings) → c.place ≡ place_to f.place → c.logical ≡ length f.found → Prints l at (checked_line f) m r)
      (more : (fs : List Finding) → length fs ≡ c.logical → take (record_length * c.logical) records ≡ finding_words fs → Within m r → Prints m r (flat_map finding_line fs) n s) where
    reading_lines : (reading : SetReading) → read_set ed set ≡ reading → Prints l at (check_lines reading) n s
    unfolding check_lines
    reading_lines (fault f) e = absurd (let z : ◌≡◌ {A = ℕ} 0 1 = cc (is, h.answered, e) in omega arith)
    reading_lines (patches ps) e =
        let most = findings_most ed ps (was_encoded ed set ps h.bytes e).1 in
        let told = findings_told ps h.lent (omega (arith, most, h.room)) c records
        (sym is ∙ h.answered ∙ ap (λ (x : SetReading). check_answer x (length h.lent)) e) (h.written ∙ ap (λ (x : SetReading). check_numbers x h.lent) e) in
        let first = head (findings ps) told.place_is told.counted in
        first ⨾ more (findings ps).found (sym told.counted) told.words (ends_within first)

    pub checked_lines : Prints l at (check_lines (read_set ed set)) n s
    checked_lines = reading_lines (read_set ed set) refl
