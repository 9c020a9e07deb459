-- What the call answers and writes: two numbers for each record, the rest as it was, and nothing on a refusal or for a set that never applies.
use Rattle.std.specs.Prelude.{ℕ, ◌+◌, ◌*◌, ◌≤◌, ◌≡◌, refl, leb, length, drop}
use Rattle.std.proofs.Common.{sym, ap, ◌∙◌, subst, arith, leb-true, leb-false, length-append, length-drop}
use Rattle.std.proofs.lemmas.Bool.{false≢true}
use mathlib.Core.List.{List, [], ◌∷◌, ◌++◌, flat_map}
use Rattle.spec_lists.specs.Lists.{is_empty}
use Rattle.spec_lists.proofs.ListLaws.{if_cases, is_empty_true}
use Rattle.spec_patch.specs.Patch.{Patch}
use Rattle.spec_patch.specs.Edition.{Edition}
use Rattle.spec_patch.specs.Read.{SetReading, patches, fault, read_set}
use Rattle.spec_checks.specs.Findings.{findings}
use Rattle.spec_dependencies.specs.Dependencies.{CollectionKey, key_words, Dependencies, never_applicable, needs, dependencies}
use Rattle.spec_dependencies.specs.Answer.{pair_length, all_words, answer_needs, Answered, answered, words_written, answer_by, answer_reading, dependencies_of}
use Rattle.spec_dependencies.specs.CallClaim.{CleanAnswer, never_given, too_short, listed, Called, not_read, with_findings, given}

pub all_words_length : (ks : List CollectionKey) → length (all_words ks) ≡ pair_length * length ks
unfolding all_words flat_map key_words
all_words_length [] = refl
all_words_length (k ∷ ks) = omega (arith, all_words_length ks)

both_length : (held lacked : List CollectionKey) → length (all_words (held ++ lacked)) ≡ pair_length * (length held + length lacked)
both_length held lacked = all_words_length (held ++ lacked) ∙ ap (λ n. pair_length * n) (length-append held lacked)

given_by : (ps : List Patch) (lent : List ℕ) (d : Dependencies) → dependencies ps ≡ d → CleanAnswer ps lent (answer_by d lent)
unfolding answer_by words_written
given_by ps lent (never_applicable i j) e = never_given i j e
given_by ps lent (needs held lacked) e =
    if_cases (CleanAnswer ps lent) (leb (length (all_words (held ++ lacked))) (length lent)) _ _
    (λ f. subst (λ n. CleanAnswer ps lent (answered (answer_needs (length held) (length lacked)) (all_words (held ++ lacked) ++ drop n lent))) (sym (both_length held lacked))
    (listed held lacked e (omega (arith, leb-true (length (all_words (held ++ lacked))) (length lent) f, both_length held lacked))))
    (λ f. too_short held lacked e (omega (arith, leb-false (length (all_words (held ++ lacked))) (length lent) f, both_length held lacked)))

pub call_answers : (ed : Edition) (set lent : List ℕ) → Called ed set lent (dependencies_of ed set lent)
unfolding dependencies_of answer_reading
call_answers ed set lent = go (read_set ed set) refl
  where
    go : (r : SetReading) → read_set ed set ≡ r → Called ed set lent (answer_reading r lent)
    go (fault f) e = not_read f e
    go (patches ps) e = if_cases (Called ed set lent) (is_empty (findings ps).found) _ _
        (λ t. given ps e (is_empty_true (findings ps).found t) (answer_by (dependencies ps) lent) (given_by ps lent (dependencies ps) refl))
        (λ t. with_findings ps e (λ n. false≢true (sym t ∙ ap is_empty n)))

-- ---- what is written

module _ (ed : Edition) (set lent : List ℕ) where
  kept_length : (a : Answered) → Called ed set lent a → length a.output ≡ length lent
  kept_length _ (not_read f e) = refl
  kept_length _ (with_findings ps e n) = refl
  kept_length _ (given ps e n a (never_given i j d)) = refl
  kept_length _ (given ps e n a (too_short held lacked d l)) = refl
  kept_length _ (given ps e n a (listed held lacked d l)) = simp (length-append, length-drop) (omega (arith, both_length held lacked))

  -- the lent list keeps its length
  pub output_length : length (dependencies_of ed set lent).output ≡ length lent
  output_length = kept_length _ (call_answers ed set lent)

  counted_fit : (a : Answered) → Called ed set lent a → (held lacked : ℕ) → a.answer ≡ answer_needs held lacked → pair_length * (held + lacked) ≤ length lent
  counted_fit _ (not_read f e) h l is = absurd (let z : ◌≡◌ {A = ℕ} 0 1 = cc in omega arith)
  counted_fit _ (with_findings ps e n) h l is = absurd (let z : ◌≡◌ {A = ℕ} 0 1 = cc in omega arith)
  counted_fit _ (given ps e n a (never_given i j d)) h l is = absurd (let z : ◌≡◌ {A = ℕ} 0 1 = cc in omega arith)
  counted_fit _ (given ps e n a (too_short held lacked d s)) h l is = absurd (let z : ◌≡◌ {A = ℕ} 0 1 = cc in omega arith)
  counted_fit _ (given ps e n a (listed held lacked d room)) h l is =
      let first : length held ≡ h = cc in
      let second : length lacked ≡ l = cc in
      omega arith

  -- each record that the answer counts has its places in the list
  pub records_fit : (held lacked : ℕ) → (dependencies_of ed set lent).answer ≡ answer_needs held lacked → pair_length * (held + lacked) ≤ length (dependencies_of ed set lent).output
  records_fit held lacked is = omega (arith, output_length, counted_fit _ (call_answers ed set lent) held lacked is)
