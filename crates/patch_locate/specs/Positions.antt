-- Positions in a part: where a field begins and ends, what stops there, and what follows what was passed.
use Rattle.std.specs.Prelude.{ℕ, ◌+◌, ◌-◌, ◌≤◌, ◌<◌, ◌≡◌, Bool, List, Result, Ok, Err, [], ◌∷◌, ◌++◌, get_or, drop, if◌then◌else◌}
use Rattle.std.proofs.Math.Path.{refl, ap}
use Rattle.std.proofs.Common.{sym, ap₂, ◌∙◌, arith, add-one, le-leb, leb-true, leb-false, length-append, drop_of_length-le, drop-cons, drop-drop, drop_at}
use Rattle.std.proofs.Math.Bool.{false}
use Rattle.std.proofs.lemmas.Bool.{lt-leb}
use Rattle.std.proofs.Math.Dec.{leb}
use Rattle.std.proofs.Math.ListN.{length, length-drop}
use Rattle.spec_lists.proofs.ListLaws.{test_cases}
use Rattle.spec_patch.specs.Reader.{byte, number}
use Rattle.spec_explain.specs.ReadingRule as model
use Rattle.spec_explain.specs.Locate as locating
use Rattle.spec_explain.specs.Locate.{Locator, stop_at, go_on, ◌⨟◌, field_then, field}
use Rattle.spec_explain.proofs.SteadyLaws.{Steady}
use Rattle.patch_locate.specs.Answers.{rule_to, reading_rule_of, stop_outside, located_answer}
use Rattle.patch_locate.specs.Fields.{field_at_most}
use Rattle.patch_locate.specs.declared.rules.ReadingRule.{ReadingRule}
use Rattle.patch_locate.specs.declared.rules.ReadingRule.TheVariants as rules
use Rattle.patch_locate.specs.declared.rules.Stop.{Stop}

-- a rule is told as itself
pub rule_back : (r : ReadingRule) → r ≡ rule_to (reading_rule_of r)
rule_back rules.SetTooLong = refl
rule_back rules.WrongHeading = refl
rule_back rules.TooFewBytes = refl
rule_back rules.OperationTag = refl
rule_back rules.ValueKind = refl
rule_back rules.OptionalTag = refl
rule_back rules.AvailabilityTag = refl
rule_back rules.QuadTag = refl
rule_back rules.ScoreRange = refl
rule_back rules.NotUtf8 = refl
rule_back rules.PatchCount = refl
rule_back rules.OperationCount = refl
rule_back rules.TextLength = refl
rule_back rules.CharacterCount = refl
rule_back rules.BytesLeft = refl

-- behind two parts
behind_parts : (part : List ℕ) (at : ℕ) (taken rest : List ℕ) → drop at part ≡ taken ++ rest → drop (length part - length rest) part ≡ rest
behind_parts part at taken rest e = test_cases (leb at (length part))
    (λ t.
    let inside : at ≤ length part = leb-true at (length part) t in
    let next : length part - length rest ≡ at + length taken = omega (arith, long) in
    ap (λ (j : ℕ). drop j part) next ∙ sym (drop-drop (length taken) at part) ∙ ap (drop (length taken)) e ∙ drop_at taken rest (length taken) refl)
    (λ t.
    let outside : length part < at = leb-false at (length part) t in
    let here : length part ≤ length part - length rest = omega (arith, long) in
    drop_of_length-le part here ∙ sym (none rest (omega (arith, long))))
  where
    long : length part - at ≡ length taken + length rest
    long = sym (length-drop at part) ∙ ap length e ∙ length-append taken rest

    none : (l : List ℕ) → length l ≡ 0 → l ≡ []
    none [] h = refl
    none (x ∷ l) h = absurd (omega arith)

module _ (part : List ℕ) (at : ℕ) where
  -- a stop at a position, which may be behind the end
  pub stop_anywhere : (r : ReadingRule) → Err (stop_outside r (length part - (length part - at))) ≡ located_answer (length part) (stop_at (reading_rule_of r) (drop at part))
  stop_anywhere r = ap₂ (λ (x : ReadingRule) (k : ℕ). Err (stop_outside x (length part - k))) (rule_back r) (sym (length-drop at part))

  pub stop_here : (r : ReadingRule) → at ≤ length part → Err (stop_outside r at) ≡ located_answer (length part) (stop_at (reading_rule_of r) (drop at part))
  stop_here r h = let same : at ≡ length part - (length part - at) = omega arith in ap (λ (k : ℕ). Err (stop_outside r k)) same ∙ stop_anywhere r

  -- a position behind what was passed
  pub past_here : at ≤ length part → Ok at ≡ located_answer (length part) (locating.past (drop at part))
  past_here h = let same : at ≡ length part - length (drop at part) = omega (arith, length-drop at part) in ap Ok same

  -- ---- a number

  module _ (w : ℕ) where
    pub number_past : at + w ≤ length part → Ok (at + w) ≡ located_answer (length part) (field (number w) (drop at part))
    number_past h =
        let same : at + w ≡ length part - length (drop w (drop at part)) = omega (arith, length-drop w (drop at part), length-drop at part) in
        rw (le-leb w (length (drop at part)) (omega (arith, length-drop at part))) (ap Ok same)

    pub number_stop : length part < at + w → 0 < w → Err (stop_outside rules.TooFewBytes (length part - (length part - at))) ≡ located_answer (length part) (field (number w) (drop at part))
    number_stop h more = rw (lt-leb w (length (drop at part)) (omega (arith, length-drop at part))) (stop_anywhere rules.TooFewBytes)

  -- ---- a tag, and what follows it

  module _ (next : ℕ → Locator) where
    pub tag_lacking : length part ≤ at → Err (stop_outside rules.TooFewBytes (length part - (length part - at))) ≡ located_answer (length part) (field_then byte next (drop at part))
    tag_lacking h = stop_anywhere rules.TooFewBytes ∙ ap (λ (bs : List ℕ). located_answer (length part) (stop_at model.too_few_bytes bs)) (drop_of_length-le part h) ∙ ap (λ (bs : List ℕ). located_answer (length part) (field_then byte next bs)) (sym (drop_of_length-le part h))

    pub tag_there : at < length part → (t : ℕ) → get_or part at 0 ≡ t → located_answer (length part) (next t (drop (at + 1) part)) ≡ located_answer (length part) (field_then byte next (drop at part))
    tag_there h t e = sym (ap (λ (bs : List ℕ). located_answer (length part) (field_then byte next bs)) (drop-cons part at 0 h) ∙ ap₂ (λ (x k : ℕ). located_answer (length part) (next x (drop k part))) e (sym (add-one at)))

  -- ---- a byte that is at most the highest

  module _ (r : ReadingRule) (highest : ℕ) where
    pub at_most_lacking : length part ≤ at → Err (stop_outside rules.TooFewBytes (length part - (length part - at))) ≡ located_answer (length part) (field_at_most (reading_rule_of r) highest (drop at part))
    unfolding field_at_most
    at_most_lacking h = tag_lacking (λ n rest. if leb n highest then locating.past rest else stop_at (reading_rule_of r) (drop at part)) h

    pub at_most_past : at < length part → get_or part at 0 ≤ highest → Ok (at + 1) ≡ located_answer (length part) (field_at_most (reading_rule_of r) highest (drop at part))
    unfolding field_at_most
    at_most_past h k =
        past_after
        ∙ tag_there (λ n rest. if leb n highest then locating.past rest else stop_at (reading_rule_of r) (drop at part)) h (get_or part at 0) refl
      where
        past_after : Ok (at + 1) ≡ located_answer (length part) (if leb (get_or part at 0) highest then locating.past (drop (at + 1) part) else stop_at (reading_rule_of r) (drop at part))
        past_after =
            let same : at + 1 ≡ length part - length (drop (at + 1) part) = omega (arith, length-drop (at + 1) part) in
            rw (le-leb (get_or part at 0) highest k) (ap Ok same)

    pub at_most_over : at < length part → highest < get_or part at 0 → Err (stop_outside r at) ≡ located_answer (length part) (field_at_most (reading_rule_of r) highest (drop at part))
    unfolding field_at_most
    at_most_over h k =
        stop_here r (omega arith)
        ∙ ap (located_answer (length part)) (sym (over (leb (get_or part at 0) highest) (lt-leb (get_or part at 0) highest k)))
        ∙ tag_there (λ n rest. if leb n highest then locating.past rest else stop_at (reading_rule_of r) (drop at part)) h (get_or part at 0) refl
      where
        over : (t : Bool) → t ≡ false → (if t then locating.past (drop (at + 1) part) else stop_at (reading_rule_of r) (drop at part)) ≡ stop_at (reading_rule_of r) (drop at part)
        over t e = rw e

-- ---- what follows what was passed

located_past : (n : ℕ) (x : locating.Located) (next : ℕ) → located_answer n x ≡ Ok next → (rest : List ℕ) × (x ≡ locating.past rest) × (n - length rest ≡ next)
located_past n (locating.past rest) next e = (rest, refl, cc)
located_past n (locating.stop s) next e = cc

-- what was passed ends at the next position, within the part
pub record Went (l : Locator) (part : List ℕ) (at next : ℕ) : Type 0 where
  pub is : l (drop at part) ≡ locating.past (drop next part)
  pub within : next ≤ length part

module _ {l : Locator} (steady : Steady l) (part : List ℕ) (at : ℕ) (r : Result ℕ Stop) (ensured : r ≡ located_answer (length part) (l (drop at part))) where
  pub went : (next : ℕ) → r ≡ Ok next → Went l part at next
  went next q =
      let w = located_past (length part) (l (drop at part)) next (sym ensured ∙ q) in
      let p = steady.passes (drop at part) w.0 w.1 in
      record {
        is = w.1 ∙ ap locating.past (sym (ap (λ (j : ℕ). drop j part) (sym w.2) ∙ behind_parts part at p.taken w.0 p.parts));
        within = omega (arith, w.2);
      }

  -- the answer goes on at the next position
  pub locates_on : (m : Locator) (next : ℕ) → r ≡ Ok next → located_answer (length part) (m (drop next part)) ≡ located_answer (length part) ((l ⨟ m) (drop at part))
  locates_on m next q = sym (ap (λ (x : locating.Located). located_answer (length part) (go_on x m)) (went next q).is)

-- a stop ends it
pub locates_stop : (l m : Locator) (part : List ℕ) (at : ℕ) (r : Result ℕ Stop) → r ≡ located_answer (length part) (l (drop at part))
    → (s : Stop) → r ≡ Err s → Err s ≡ located_answer (length part) ((l ⨟ m) (drop at part))
locates_stop l m part at r ensured s q = go (l (drop at part)) (sym ensured ∙ q)
  where
    go : (x : locating.Located) → located_answer (length part) x ≡ Err s → Err s ≡ located_answer (length part) (go_on x m)
    go (locating.past rest) e = cc
    go (locating.stop t) e = sym e
