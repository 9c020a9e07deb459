-- What the check writes: the lent list keeps its length, its front holds the records that fit, no more would fit, and the rest stays.
use Rattle.std.specs.Prelude.{ℕ, suc, ◌*◌, ◌/◌, ◌≤◌, ◌<◌, min, ◌≡◌, refl, length, take}
use Rattle.std.proofs.Math.Path.{ap}
use Rattle.std.proofs.Common.{◌∙◌, arith, length-append, length-take, length-drop, take_all}
use mathlib.Core.List.{List, [], ◌∷◌, flat_map}
use Rattle.std.proofs.Math.ListN.{drop}
use Rattle.std.proofs.Math.Seq.{take_at, drop_at}
use Rattle.spec_checks.specs.Finding.{Finding, finding_key}
use Rattle.spec_checks.specs.Answer.{record_length, finding_words, fitting, write_findings}

pub finding_words_length : (fs : List Finding) → length (finding_words fs) ≡ record_length * length fs
unfolding finding_words flat_map finding_key
finding_words_length [] = refl
finding_words_length (f ∷ fs) = omega (arith, finding_words_length fs)

pub fitting_length : (room : ℕ) (fs : List Finding) → length (fitting room fs) ≡ min (room / record_length) (length fs)
unfolding fitting
fitting_length room fs = length-take (room / record_length) fs

-- a record is left out only where no room for one more is left
pub fitting_most : (room : ℕ) (fs : List Finding) → length (fitting room fs) < length fs → room < record_length * suc (length (fitting room fs))
fitting_most room fs h = omega (arith, fitting_length room fs)

pub fitting_all : (room : ℕ) (fs : List Finding) → record_length * length fs ≤ room → fitting room fs ≡ fs
unfolding fitting
fitting_all room fs h = take_all (room / record_length) fs (omega arith)

module _ (fs : List Finding) (lent : List ℕ) where
  front : length (finding_words (fitting (length lent) fs)) ≤ length lent
  front = omega (arith, finding_words_length (fitting (length lent) fs), fitting_length (length lent) fs)

  pub write_findings_length : length (write_findings fs lent) ≡ length lent
  unfolding write_findings
  write_findings_length = simp (length-append, length-drop) (omega (arith, front))

  -- the records that fit stand at the start
  pub write_findings_front : take (record_length * length (fitting (length lent) fs)) (write_findings fs lent) ≡ finding_words (fitting (length lent) fs)
  unfolding write_findings
  write_findings_front = take_at _ _ _ (finding_words_length (fitting (length lent) fs))

  -- what stands past them is as it was
  pub write_findings_rest : drop (record_length * length (fitting (length lent) fs)) (write_findings fs lent) ≡ drop (record_length * length (fitting (length lent) fs)) lent
  unfolding write_findings
  write_findings_rest = drop_at (finding_words (fitting (length lent) fs)) _ _ (finding_words_length (fitting (length lent) fs)) ∙ ap (λ n. drop n lent) (finding_words_length (fitting (length lent) fs))
