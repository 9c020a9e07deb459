-- Every answer is within its size.
use Rattle.std.specs.Prelude.{ℕ, zero, suc, ◌+◌, ◌*◌, ◌≤◌, ◌≡◌, refl, get_or}
use Rattle.std.proofs.Common.{ap, suc-mul}
use mathlib.Core.List.{List, [], ◌∷◌, ◌++◌, flat_map}
use native.Mathlib.Omega.{arith}
use Rattle.std.proofs.Math.ListN.{length, drop, length-append}
use Rattle.spec_lists.specs.Bytes.{Bytes}
use Rattle.spec_patch.specs.Sizes.{set_bytes}
use Rattle.spec_patch.specs.Edition.{Edition}
use Rattle.spec_patch.proofs.SetLaws.{was_encoded}
use Rattle.spec_decimal.specs.Decimal.{digits, decimal}
use Rattle.spec_decimal.proofs.ReadLaws.{length_decimal}
use Rattle.spec_dependencies.specs.Dependencies.{CollectionKey}
use Rattle.spec_dependencies.specs.Answer.{pair_length, all_words, DependencyRefusal, unreadable, has_findings, output_too_short, refusal_number, Answered, dependencies_of}
use Rattle.spec_dependencies.proofs.AnswerLaws.{call_answers}
use Rattle.spec_dependencies.specs.CallClaim.{never_given, too_short, listed, Called, not_read, with_findings, given}
use Rattle.spec_dependencies.proofs.Theorem.{lists_short}
use Rattle.spec_listing.specs.Listing.{fields}
use Rattle.spec_replay.specs.Script.{ascii}
use Rattle.spec_replay.specs.Answers.{key_line, first_keys, verdict_lines, dependency_lines}
use Rattle.script_replay.specs.AnswerBytes.{verdict_bytes, key_line_bytes, most_keys, dependency_bytes}

-- ---- lines

one_field : (a : List ℕ) → length (fields (a ∷ [])) ≡ length a + 2
unfolding fields
one_field a = simp length-append (omega arith)

two_fields : (a b : List ℕ) → length (fields (a ∷ b ∷ [])) ≡ length a + (length b + 3)
unfolding fields
two_fields a b = simp length-append (omega arith)

four_fields : (a b c d : List ℕ) → length (fields (a ∷ b ∷ c ∷ d ∷ [])) ≡ length a + (length b + (length c + (length d + 5)))
unfolding fields
four_fields a b c d = simp length-append (omega arith)

-- ---- what a set depends on

key_short : (k : CollectionKey) → length (key_line k) ≤ key_line_bytes
unfolding key_line
key_short k = omega (arith, two_fields (decimal k.collection) (decimal k.key), (length_decimal k.collection).1, (length_decimal k.key).1)

keys_short : (n : ℕ) (words : List ℕ) → length (flat_map key_line (first_keys n words)) ≤ n * key_line_bytes
unfolding flat_map first_keys
keys_short zero words = omega arith
keys_short (suc n) words =
    let k : CollectionKey = record { collection = get_or words 0 0; key = get_or words 1 0 } in
    omega (arith, length-append (key_line k) (flat_map key_line (first_keys n (drop 2 words))), key_short k, keys_short n (drop 2 words), suc-mul n key_line_bytes)

zero_short : length (decimal 0) ≤ 1
unfolding decimal digits
zero_short = omega arith

told_short : (word : List ℕ) (i j : ℕ) → length word ≤ 5 → length (68 ∷ fields (decimal 0 ∷ word ∷ decimal i ∷ decimal j ∷ [])) ≤ verdict_bytes
told_short word i j h = omega (arith, four_fields (decimal 0) word (decimal i) (decimal j), (length_decimal i).1, (length_decimal j).1, zero_short)

refusal_short : (r : DependencyRefusal) → length (68 ∷ fields (decimal (refusal_number r) ∷ [])) ≤ dependency_bytes
refusal_short r = omega (arith, one_field (decimal (refusal_number r)), (length_decimal (refusal_number r)).1)

module _ (ed : Edition) (set lent : List ℕ) (bytes : Bytes set) where
  within : (a : Answered) → Called ed set lent a → length (dependency_lines a) ≤ dependency_bytes
  unfolding dependency_lines verdict_lines
  within _ (not_read f e) = refusal_short (unreadable f)
  within _ (with_findings ps e n) = refusal_short has_findings
  within _ (given ps e n a (never_given i j d)) = omega (arith, told_short (ascii "never") i j (omega arith))
  within _ (given ps e n a (too_short held lacked d s)) = refusal_short output_too_short
  within _ (given ps e n a (listed held lacked d room)) =
      let (is, fits) = was_encoded ed set ps bytes e in
      let h = length held in
      let l = length lacked in
      let words = all_words (held ++ lacked) ++ drop (pair_length * (h + l)) lent in
      omega (
        arith,
        length-append (68 ∷ fields (decimal 0 ∷ ascii "needs" ∷ decimal h ∷ decimal l ∷ [])) (flat_map key_line (first_keys (h + l) words)),
        told_short (ascii "needs") h l (omega arith),
        keys_short (h + l) words,
        lists_short ed ps held lacked d,
        fits.short,
      )

  -- no answer of what a set depends on has more bytes
  pub dependencies_fit : length (dependency_lines (dependencies_of ed set lent)) ≤ dependency_bytes
  dependencies_fit = within _ (call_answers ed set lent)
