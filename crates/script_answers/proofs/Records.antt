-- The records of findings as numbers: three numbers in a row are one finding.
use Prim.Native.Nat.{ℕ, zero, suc, ◌+◌, ◌*◌, ◌≤◌, ◌<◌}
use mathlib.Core.Path.{◌≡◌, refl, sym, ap, ◌∙◌}
use mathlib.Core.List.{List, [], ◌∷◌, flat_map}
use native.Mathlib.Omega.{arith}
use lib.ListN.{length, take, get_or, length-take}
use lib.Seq.{get_or-take}
use Rattle.spec_checks.specs.Finding.{Finding, finding_key}
use Rattle.spec_checks.specs.Answer.{record_length, finding_words}
use Rattle.spec_checks.proofs.AnswerLaws.{finding_words_length}
use Rattle.script_answers.specs.CheckOf.{finding_told}

-- the finding at a position of a list of numbers
abbrev finding_in : List ℕ → ℕ → Finding
finding_in ns k = finding_told (get_or ns k 0) (get_or ns (suc k) 0) (get_or ns (suc (suc k)) 0)

in_words : (fs : List Finding) (i : ℕ) (d : Finding) (k : ℕ) → i < length fs → k ≡ record_length * i → finding_in (finding_words fs) k ≡ get_or fs i d
unfolding finding_words flat_map finding_key
in_words [] i d k h e = absurd (omega arith)
in_words (f ∷ fs) zero d zero h e = refl
in_words (f ∷ fs) zero d (suc k) h e = absurd (omega arith)
in_words (f ∷ fs) (suc i) d zero h e = absurd (omega arith)
in_words (f ∷ fs) (suc i) d (suc zero) h e = absurd (omega arith)
in_words (f ∷ fs) (suc i) d (suc (suc zero)) h e = absurd (omega arith)
in_words (f ∷ fs) (suc i) d (suc (suc (suc k))) h e = in_words fs i d k (omega arith) (omega arith)

pub no_finding : Finding
no_finding = finding_told 0 0 0

module _ (ns : List ℕ) (count : ℕ) (fs : List Finding) (counted : length fs ≡ count) (words : take (record_length * count) ns ≡ finding_words fs) where
  pub words_there : record_length * count ≤ length ns
  words_there = omega (arith, counted, finding_words_length fs, ap length words, length-take (record_length * count) ns)

  at_place : (k : ℕ) → k < record_length * count → get_or ns k 0 ≡ get_or (finding_words fs) k 0
  at_place k h = sym (get_or-take (record_length * count) ns k 0 h) ∙ ap (λ (l : List ℕ). get_or l k 0) words

  -- the numbers of the record of an index
  pub finding_at : (i : ℕ) → i < count → finding_told (get_or ns (record_length * i) 0) (get_or ns (record_length * i + 1) 0) (get_or ns (record_length * i + 2) 0) ≡ get_or fs i no_finding
  finding_at i h =
      let k = record_length * i in
      let one : k + 1 ≡ suc k = omega arith in
      let two : k + 2 ≡ suc (suc k) = omega arith in
      let kinds = at_place k (omega arith) in
      let domains = ap (λ (n : ℕ). get_or ns n 0) one ∙ at_place (suc k) (omega arith) in
      let secondaries = ap (λ (n : ℕ). get_or ns n 0) two ∙ at_place (suc (suc k)) (omega arith) in
      (λ j. finding_told (kinds j) (domains j) (secondaries j)) ∙ in_words fs i no_finding k (omega arith) refl
