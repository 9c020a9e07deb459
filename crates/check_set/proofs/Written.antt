-- From the listed findings to the answer, and to the numbers of the lent slice.
use Prim.Native.Nat.{ℕ, zero, suc, ◌*◌, ◌/◌, ◌≤◌, min}
use mathlib.Core.Path.{◌≡◌, refl, sym, ap, ap₂, ◌∙◌}
use mathlib.Core.Bool.{Bool, true, false}
use mathlib.Core.List.{List, [], ◌∷◌, ◌++◌, flat_map}
use native.Mathlib.Omega.{arith}
use lib.Dec.{leb}
use lib.ListN.{length, take, drop, length-take}
use lib.Seq.{take_all}
use borrow.Author.Tests.{leb-true, leb-false}
use Rattle.std.specs.Prelude.{if◌then◌else◌}
use Rattle.std.specs.Prelude as code
use Rattle.spec_lists.proofs.ListLaws.{test_cases}
use Rattle.spec_patch.specs.Patch.{Patch}
use Rattle.spec_patch.specs.Read.{SetReading, patches, fault}
use Rattle.spec_checks.specs.Finding.{Finding, finding_key}
use Rattle.spec_checks.specs.Findings.{Place, in_patch, in_set, Findings, findings}
use Rattle.spec_checks.proofs.PartsLaws.{clean_of_findings, findings_of_clean}
use Rattle.spec_checks.specs.Answer.{record_length, finding_words, fitting, write_findings, checked_list}
use Rattle.spec_checks.proofs.AnswerLaws.{finding_words_length, fitting_length, fitting_all}
use Rattle.projection_patch.specs.ReadAnswers.{fault_to}
use Rattle.projection_patch.specs.declared.read_values.ProjectionPatchReadFault.{ProjectionPatchReadFault}
use Rattle.patch_sets.specs.SetAnswers.{operation_count_lem}
use Rattle.check_findings.specs.Found.{is_found}
use Rattle.check_quick.specs.QuickAnswers.{quick_answer}
use Rattle.check_quick.specs.declared.quick_set.QuickCheck.TheVariants as quick
use Rattle.check_set.specs.Listed.{listed_to, FindingsListedAs}
use Rattle.check_set.specs.CheckAnswers.{place_to, checked_to, check_answer, check_numbers}
use Rattle.check_set.specs.declared.list_set.FindingsListed.{FindingsListed}
use Rattle.check_set.specs.declared.check_set.CheckPlace.TheVariants as place
use Rattle.check_set.specs.declared.check_set.PatchSetCheck.{PatchSetCheck}
use Rattle.check_set.specs.declared.check_set.CheckPlace.{CheckPlace}

-- ---- the numbers

take_less : (m n : ℕ) (l : List ℕ) → m ≤ n → take m (take n l) ≡ take m l
take_less zero n l h = refl
take_less (suc m) zero l h = absurd (omega arith)
take_less (suc m) (suc n) [] h = refl
take_less (suc m) (suc n) (x ∷ l) h = ap (λ k. x ∷ k) (take_less m n l (omega arith))

words_take : (w : ℕ) (fs : List Finding) → take (record_length * w) (finding_words fs) ≡ finding_words (take w fs)
unfolding finding_words flat_map finding_key
words_take zero fs = refl
words_take (suc w) [] = let three : record_length * suc w ≡ suc (suc (suc (record_length * w))) = omega arith in ap (λ (n : ℕ). take n (finding_words [])) three
words_take (suc w) (f ∷ fs) =
    let three : record_length * suc w ≡ suc (suc (suc (record_length * w))) = omega arith in
    ap (λ (n : ℕ). take n (finding_words (f ∷ fs))) three ∙ ap (λ l. f.kind ∷ f.domain ∷ f.secondary ∷ l) (words_take w fs)

module _ (found : List Finding) (records out : List ℕ) (w : ℕ) (front : take (record_length * length found) records ≡ finding_words found)
    (counted : w ≡ min (length records / record_length) (min (length out / record_length) (length found))) where
  long : record_length * length found ≤ length records
  long = omega (arith, ap length front, length-take (record_length * length found) records, finding_words_length found)

  count_is : w ≡ min (length out / record_length) (length found)
  count_is = omega (arith, long, counted)

  pub written_count : w ≡ length (fitting (length out) found)
  written_count = count_is ∙ sym (fitting_length (length out) found)

  same_front : take w found ≡ fitting (length out) found
  unfolding fitting
  same_front =
      test_cases (leb (length out / record_length) (length found))
      (λ t. let k = leb-true (length out / record_length) (length found) t in let same : w ≡ length out / record_length = omega (arith, count_is, k) in ap (λ (n : ℕ). take n found) same)
      (λ t. let k = leb-false (length out / record_length) (length found) t in take_all w found (omega (arith, count_is, k)) ∙ sym (take_all (length out / record_length) found (omega (arith, k))))

  words : take (record_length * w) records ≡ finding_words (fitting (length out) found)
  words =
      sym (take_less (record_length * w) (record_length * length found) records (omega (arith, count_is))) ∙ ap (take (record_length * w)) front ∙ words_take w found ∙ ap finding_words same_front

  pub written_numbers : take (record_length * w) records ++ drop (record_length * w) out ≡ write_findings found out
  unfolding write_findings
  written_numbers =
      let size : record_length * w ≡ length (finding_words (fitting (length out) found)) = omega (arith, written_count, finding_words_length (fitting (length out) found)) in
      ap₂ (λ (l : List ℕ) (n : ℕ). l ++ drop n out) words size

-- ---- the answer

abbrev checked_at : CheckPlace → ℕ → ℕ → PatchSetCheck
checked_at p logical w = record { place = p; logical = logical; written = w }

module _ (ps : List Patch) (r : FindingsListed) (records : List ℕ) (h : FindingsListedAs (findings ps) r records) where
  module _ (w : ℕ) (out : List ℕ) (counted : w ≡ min (length records / record_length) (min (length out / record_length) r.count)) where
    counts : r.count ≡ length (findings ps).found
    counts = ap (λ (x : FindingsListed). x.count) h.0

    counted_now : w ≡ min (length records / record_length) (min (length out / record_length) (length (findings ps).found))
    counted_now = counted ∙ ap (λ (n : ℕ). min (length records / record_length) (min (length out / record_length) n)) counts

    pub answer_is : checked_at r.place r.count w ≡ checked_to (checked_list ps (length out))
    unfolding checked_list
    answer_is =
        ap (λ (x : FindingsListed). checked_at x.place x.count w) h.0
        ∙ ap (checked_at (place_to (findings ps).place) (length (findings ps).found)) (written_count (findings ps).found records out w h.1 counted_now)

    pub numbers_are : take (record_length * w) records ++ drop (record_length * w) out ≡ write_findings (findings ps).found out
    numbers_are = written_numbers (findings ps).found records out w h.1 counted_now

-- ---- by the quick check

module _ (lent : List ℕ) where
  unchanged : lent ≡ write_findings [] lent
  unfolding write_findings finding_words flat_map
  unchanged = sym (ap (λ (l : List Finding). finding_words l ++ drop (length (finding_words l)) lent) (fitting_all (length lent) [] (omega arith)))

  clean_answer : (ps : List Patch) → (findings ps).found ≡ [] → (checked_at place.Set 0 0 ≡ checked_to (checked_list ps (length lent))) × (lent ≡ write_findings (findings ps).found lent)
  unfolding checked_list
  clean_answer ps q =
      let whole : findings ps ≡ record { place = in_set; found = [] } = findings_of_clean ps (clean_of_findings ps q) in
      let none_written : 0 ≡ length (fitting (length lent) []) = sym (ap length (fitting_all (length lent) [] (omega arith))) in (
        ap (checked_at place.Set 0) none_written ∙ ap (λ (f : Findings). checked_at (place_to f.place) (length f.found) (length (fitting (length lent) f.found))) (sym whole),
        unchanged ∙ ap (λ (l : List Finding). write_findings l lent) (sym q),
      )

  not_clean : (ps : List Patch) (a b : ℕ) (f : Finding) (fs : List Finding) → (findings ps).found ≡ f ∷ fs → quick_answer (patches ps) ≡ code.Ok (quick.Clean a b) → ⊥
  unfolding is_found
  not_clean ps a b f fs q e =
      let other : quick_answer (patches ps) ≡ code.Ok quick.Found = ap (λ (l : List Finding). code.Ok (if is_found l then quick.Found else quick.Clean (length ps) (operation_count_lem ps))) q in
      let z : ◌≡◌ {A = ℕ} 0 1 = cc (sym other ∙ e) in omega arith

  pub clean_is : (s : SetReading) (a b : ℕ) → quick_answer s ≡ code.Ok (quick.Clean a b) → (code.Ok (checked_at place.Set 0 0) ≡ check_answer s (length lent)) × (lent ≡ check_numbers s lent)
  clean_is (fault f) a b e = absurd (let z : ◌≡◌ {A = ℕ} 0 1 = cc in omega arith)
  clean_is (patches ps) a b e = go (findings ps).found refl
    where
      go : (l : List Finding) → (findings ps).found ≡ l → (code.Ok (checked_at place.Set 0 0) ≡ check_answer (patches ps) (length lent)) × (lent ≡ write_findings (findings ps).found lent)
      go [] q = let all = clean_answer ps q in (ap code.Ok all.0, all.1)
      go (f ∷ fs) q = absurd (not_clean ps a b f fs q e)

  pub found_some : (s : SetReading) → quick_answer s ≡ code.Ok quick.Found → (r : code.Result PatchSetCheck ProjectionPatchReadFault) (out : List ℕ)
      → ((ps : List Patch) → s ≡ patches ps → r ≡ code.Ok (checked_to (checked_list ps (length lent)))) → ((ps : List Patch) → s ≡ patches ps → out ≡ write_findings (findings ps).found lent)
      → (r ≡ check_answer s (length lent)) × (out ≡ check_numbers s lent)
  found_some (fault f) e r out h k = absurd (let z : ◌≡◌ {A = ℕ} 0 1 = cc in omega arith)
  found_some (patches ps) e r out h k = (h ps refl, k ps refl)

  pub refused_is : (s : SetReading) (f : ProjectionPatchReadFault) → quick_answer s ≡ code.Err f → (code.Err f ≡ check_answer s (length lent)) × (lent ≡ check_numbers s lent)
  refused_is (fault g) f e = let same : fault_to g ≡ f = cc in (ap code.Err (sym same), refl)
  refused_is (patches ps) f e = absurd (let z : ◌≡◌ {A = ℕ} 0 1 = cc in omega arith)
