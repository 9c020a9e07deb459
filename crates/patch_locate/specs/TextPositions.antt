-- Where a text stops reading: at its length, or at its first byte.
use Rattle.std.specs.Prelude.{ℕ, ◌+◌, ◌-◌, ◌≤◌, ◌<◌, ◌≡◌, true, false, List, Ok, Err, leb, take, drop}
use Rattle.std.proofs.Common.{ap, arith, length-take-le}
use borrow.Author.Tests.{le-leb, lt-leb}
use Rattle.std.proofs.Math.ListN.{length, length-drop}
use Rattle.spec_patch.specs.Sizes.{text_bytes}
use Rattle.spec_patch.specs.TextRule.{allowed, few_characters}
use Rattle.spec_patch.specs.Reader.{read, refused}
use Rattle.spec_patch.specs.Read.{read_u32}
use Rattle.spec_explain.specs.Locate.{locate_text}
use Rattle.patch_locate.specs.Answers.{stop_outside, located_answer}
use Rattle.patch_locate.specs.Fields.{text_after}
use Rattle.patch_locate.specs.Positions.{stop_anywhere, stop_here}
use Rattle.patch_locate.specs.declared.rules.ReadingRule.TheVariants as rules

-- the length stands at the position, and n bytes are asked for behind it
module _ (part : List ℕ) (at n : ℕ) (room : at + 4 ≤ length part) where
  abbrev pub text_bytes_at : List ℕ
  text_bytes_at = take n (drop (at + 4) part)

  pub text_lacking : length part - (at + 4) < n → Err (stop_outside rules.TooFewBytes (at + 4)) ≡ located_answer (length part) (text_after (drop at part) n (drop (at + 4) part))
  unfolding text_after
  text_lacking h = rw (lt-leb n (length (drop (at + 4) part)) (omega (arith, length-drop (at + 4) part))) (stop_here part (at + 4) rules.TooFewBytes room)

  module _ (enough : n ≤ length part - (at + 4)) where
    there : leb n (length (drop (at + 4) part)) ≡ true
    there = le-leb n (length (drop (at + 4) part)) (omega (arith, length-drop (at + 4) part))

    long : length text_bytes_at ≡ n
    long = length-take-le n (drop (at + 4) part) (omega (arith, length-drop (at + 4) part))

    pub text_over : text_bytes < n → Err (stop_outside rules.TextLength at) ≡ located_answer (length part) (text_after (drop at part) n (drop (at + 4) part))
    unfolding text_after
    text_over h = rw (there, lt-leb (length text_bytes_at) text_bytes (omega (arith, long))) (stop_here part at rules.TextLength (omega arith))

    module _ (few : n ≤ text_bytes) where
      within : leb (length text_bytes_at) text_bytes ≡ true
      within = le-leb (length text_bytes_at) text_bytes (omega (arith, long))

      pub text_not_utf8 : allowed true text_bytes_at ≡ false → Err (stop_outside rules.NotUtf8 (at + 4)) ≡ located_answer (length part) (text_after (drop at part) n (drop (at + 4) part))
      unfolding text_after
      text_not_utf8 a = rw (there, within, a) (stop_here part (at + 4) rules.NotUtf8 room)

      pub text_too_many : allowed true text_bytes_at ≡ true → few_characters true text_bytes_at ≡ false → Err (stop_outside rules.CharacterCount (at + 4)) ≡ located_answer (length part) (text_after (drop at part) n (drop (at + 4) part))
      unfolding text_after
      text_too_many a b = rw (there, within, a, b) (stop_here part (at + 4) rules.CharacterCount room)

      pub text_passed : allowed true text_bytes_at ≡ true → few_characters true text_bytes_at ≡ true → Ok (at + 4 + n) ≡ located_answer (length part) (text_after (drop at part) n (drop (at + 4) part))
      unfolding text_after
      text_passed a b =
          let same : at + 4 + n ≡ length part - length (drop n (drop (at + 4) part)) = omega (arith, length-drop n (drop (at + 4) part), length-drop (at + 4) part) in
          rw (there, within, a, b) (ap Ok same)

-- the whole text, by its length
module _ (part : List ℕ) (at : ℕ) where
  pub text_behind : (n : ℕ) → read_u32 (drop at part) ≡ read n (drop (at + 4) part) → located_answer (length part) (text_after (drop at part) n (drop (at + 4) part)) ≡ located_answer (length part) (locate_text (drop at part))
  unfolding locate_text text_after
  text_behind n e = rw e

  pub length_lacking : {f : _} → read_u32 (drop at part) ≡ refused f → Err (stop_outside rules.TooFewBytes (length part - (length part - at))) ≡ located_answer (length part) (locate_text (drop at part))
  unfolding locate_text
  length_lacking e = rw e (stop_anywhere part at rules.TooFewBytes)
