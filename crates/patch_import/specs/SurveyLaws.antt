-- One line more: what is left, after what was told of the lines before, tells what the whole does.
use Rattle.std.specs.Prelude.{ℕ, suc, ◌+◌, ◌*◌, ◌≤◌, ◌<◌, ◌≡◌, Bool, ◌||◌, length, drop, Result, Ok, Err}
use Rattle.std.proofs.Math.Path.{refl, sym, ap}
use Rattle.std.proofs.Common.{◌∙◌, arith}
use mathlib.Core.List.{List, [], ◌∷◌, ◌++◌, map, flat_map}
use borrow.Author.Tests.{leb-true}
use Rattle.std.proofs.Math.ListN.{length-append}
use Rattle.spec_lists.specs.Lists.{All}
use Rattle.spec_lists.proofs.ListLaws.{and_left}
use Rattle.spec_lists.proofs.BytesLaws.{length_little_endian}
use Rattle.spec_patch.specs.Sizes.{patch_operations, text_bytes}
use Rattle.spec_patch.specs.TextRule.{few_bytes}
use Rattle.spec_patch.specs.Patch.{Operation}
use Rattle.spec_patch.specs.Encode.{encode_optional, encode_text, kind_of, value_body, encode_value, encode_operation}
use Rattle.spec_checks.specs.Target.{mutation_target}
use Rattle.spec_checks.specs.PatchChecks.{is_self, before_self_lem}
use Rattle.spec_import.specs.Import as model
use Rattle.spec_import.specs.Import.{Term, lines, keeps_text, Terms, terms, faulty, also, read_terms, insert_of}
use Rattle.spec_import.proofs.LineLaws.{KeptTerm}
use Rattle.projection_patch.specs.Meaning.{operation_of}
use Rattle.patch_part_writer.specs.Parts.{size_within}
use Rattle.patch_part_writer.proofs.PartsLaws.{size_kept}
use Rattle.patch_part_writer.specs.ExtentLaws.{length_text, length_operation}
use Rattle.check_targets.specs.Targets.{numbers_of, target_numbers, target_seen}
use Rattle.check_quick.specs.Quick.{operation_found, found_from}
use Rattle.check_quick.specs.QuickLaws.{or_assoc, or_false}
use Rattle.patch_terms.specs.Answers.{line_answer}
use Rattle.patch_terms.specs.declared.TermRefusal.{TermRefusal}
use Rattle.patch_terms.specs.declared.TermRefusal.TheVariants as reason
use Rattle.patch_terms.specs.LinesLaws.{term_of, TermAt, reads_term, reads_full, reads_other, reads_over, reads_end}
use Rattle.patch_import.specs.declared.answer.ImportRefusal.{ImportRefusal}
use Rattle.patch_import.specs.declared.answer.ImportRefusal.TheVariants.{OtherForm, OverCapacity}
use Rattle.patch_import.specs.declared.survey.LineSurvey.{LineSurvey}
use Rattle.patch_import.specs.Answers.{import_refusal_of, import_refusal_to, of_term}
use Rattle.patch_import.specs.Survey.{insertion_of, term_bytes, insert_bytes, lines_within, survey_from, survey_of, held_in}

same_within : {a b c d : ℕ} {p q : Bool} → a ≡ b → c ≡ d → p ≡ q → lines_within a c p ≡ lines_within b d q
same_within e f g = λ i. lines_within (e i) (f i) (g i)

-- an insert before no neighbour does not name itself
not_self : (collection : ℕ) (t : Term) (seen : Bool) → (seen || before_self_lem (insert_of collection t)) ≡ seen
unfolding insert_of before_self_lem is_self
not_self collection t seen = or_false seen

module _ (collection : ℕ) (n bytes : ℕ) (repeated : Bool) (targets : List ℕ) where
  -- a term before those of later lines
  pub survey_also : (t : Term) (rest : Terms)
      → survey_from collection (n + 1) (bytes + length (encode_operation (insert_of collection t))) (repeated || target_seen (mutation_target (insert_of collection t)) targets) (targets ++ numbers_of (mutation_target (insert_of collection t))) rest
      ≡ survey_from collection n bytes repeated targets (also t rest)
  unfolding also insert_bytes flat_map found_from operation_found target_numbers
  survey_also t (terms ts) =
      let o = insert_of collection t in
      let seen = target_seen (mutation_target o) targets in
      let later = found_from (targets ++ target_numbers o) (map (insert_of collection) ts) in
      same_within (omega arith) (omega (arith, length-append (encode_operation o) (insert_bytes collection ts))) (or_assoc repeated seen later ∙ ap (λ (b : Bool). repeated || (b || later)) (sym (not_self collection t seen)))
  survey_also t (faulty r) = refl

-- ---- a line that was read

-- the operation of a term that stands in the list
pub inserts_term : (collection : ℕ) (list : List ℕ) (k start len : ℕ) → operation_of list (insertion_of collection k start len) ≡ insert_of collection (term_of list k start len)
unfolding insert_of
inserts_term collection list k start len = refl

module _ (collection : ℕ) (list : List ℕ) (at k start len next : ℕ) (t : TermAt list at k start len next) where
  abbrev term : Term
  term = term_of list k start len

  -- its text keeps its bytes
  pub text_short : len ≤ text_bytes
  unfolding keeps_text
  text_short =
      omega (arith, leb-true (length term.words) text_bytes (and_left (few_bytes term.words) _ t.kept), length_text list start len t.inside)

  pub size_told : (size : ℕ) → size ≡ size_within (insertion_of collection k start len) → size ≡ term_bytes len
  size_told size e = e ∙ size_kept (insertion_of collection k start len) text_short ∙ omega arith

  pub term_size : length (encode_operation (insert_of collection term)) ≡ term_bytes len
  term_size = ap (λ (o : Operation). length (encode_operation o)) (sym (inserts_term collection list k start len)) ∙ length_operation list (insertion_of collection k start len) t.inside ∙ omega arith

  pub target_is : mutation_target (operation_of list (insertion_of collection k start len)) ≡ mutation_target (insert_of collection term)
  target_is = ap mutation_target (inserts_term collection list k start len)

  -- the next line starts behind it
  pub next_behind : at < next
  next_behind = omega (arith, t.ends)

  module _ (n bytes : ℕ) (repeated : Bool) (targets : List ℕ) (more : at < length list) (small : n < patch_operations) where
    pub survey_turn : (size : ℕ) → size ≡ term_bytes len → (found : Bool) → found ≡ (repeated || target_seen (mutation_target (insert_of collection term)) targets) → (ts : List ℕ) → ts ≡ targets ++ numbers_of (mutation_target (insert_of collection term))
        → survey_from collection (n + 1) (bytes + size) found ts (read_terms (n + 1) (lines (drop next list))) ≡ survey_from collection n bytes repeated targets (read_terms n (lines (drop at list)))
    survey_turn size sized found told ts are =
        let suc-is : n + 1 ≡ suc n = omega arith in
        (λ i. survey_from collection (n + 1) (bytes + (sized ∙ sym term_size) i) (told i) (are i) (read_terms (suc-is i) (lines (drop next list))))
        ∙ survey_also collection n bytes repeated targets term (read_terms (suc n) (lines (drop next list)))
        ∙ ap (survey_from collection n bytes repeated targets) (sym (reads_term list at n more k start len next t small))

  -- the line behind a full patch
  pub survey_full : (n bytes : ℕ) (repeated : Bool) (targets : List ℕ) → at < length list → patch_operations ≤ n → Err OverCapacity ≡ survey_from collection n bytes repeated targets (read_terms n (lines (drop at list)))
  survey_full n bytes repeated targets more full = sym (ap (survey_from collection n bytes repeated targets) (reads_full list at n more k start len next t full))

module _ (collection : ℕ) (list : List ℕ) (at n bytes : ℕ) (repeated : Bool) (targets : List ℕ) where
  -- a line that holds no term
  pub survey_refused : at < length list → (r : TermRefusal) → line_answer at (drop at list) ≡ Err r → Err (of_term r) ≡ survey_from collection n bytes repeated targets (read_terms n (lines (drop at list)))
  survey_refused more reason.OtherForm e = sym (ap (survey_from collection n bytes repeated targets) (reads_other list at n more e))
  survey_refused more reason.OverCapacity e = sym (ap (survey_from collection n bytes repeated targets) (reads_over list at n more e))

  pub survey_other : at < length list → line_answer at (drop at list) ≡ Err reason.OtherForm → Err OtherForm ≡ survey_from collection n bytes repeated targets (read_terms n (lines (drop at list)))
  survey_other more e = survey_refused more reason.OtherForm e

  pub survey_over : at < length list → line_answer at (drop at list) ≡ Err reason.OverCapacity → Err OverCapacity ≡ survey_from collection n bytes repeated targets (read_terms n (lines (drop at list)))
  survey_over more e = survey_refused more reason.OverCapacity e

  pub survey_end : length list ≤ at → lines_within n bytes repeated ≡ survey_from collection n bytes repeated targets (read_terms n (lines (drop at list)))
  unfolding insert_bytes flat_map found_from
  survey_end h = sym (ap (survey_from collection n bytes repeated targets) (reads_end list at n h) ∙ same_within (omega arith) (omega arith) (or_false repeated))

-- ---- the survey taken apart

survey_same : {a b : LineSurvey} → ◌≡◌ {A = Result LineSurvey ImportRefusal} (Ok a) (Ok b) → a ≡ b
survey_same e = cc

module _ (collection : ℕ) (x : Terms) where
  pub survey_faulty : (r : ImportRefusal) → survey_of collection x ≡ Err r → x ≡ faulty (import_refusal_of r)
  survey_faulty r e = go x refl e
    where
      back : (m : model.ImportRefusal) → import_refusal_to m ≡ r → m ≡ import_refusal_of r
      back m e = back_of m ∙ ap import_refusal_of e
        where
          back_of : (m : model.ImportRefusal) → m ≡ import_refusal_of (import_refusal_to m)
          back_of model.other_form = refl
          back_of model.over_capacity = refl
          back_of model.patch_invalid = refl
          back_of model.output_too_short = refl

      go : (y : Terms) → x ≡ y → survey_of collection y ≡ Err r → x ≡ faulty (import_refusal_of r)
      go (terms ts) is e = absurd (let z : ◌≡◌ {A = ℕ} 0 1 = cc in omega arith)
      go (faulty m) is e = let same : import_refusal_to m ≡ r = cc in is ∙ ap faulty (back m same)

  pub record Surveyed (count bytes : ℕ) (repeated : Bool) : Type 0 where
    pub held : x ≡ terms (held_in x)
    pub counted : count ≡ length (held_in x)
    pub sized : bytes ≡ length (insert_bytes collection (held_in x))
    pub told : repeated ≡ found_from [] (map (insert_of collection) (held_in x))

  pub survey_held : (count bytes : ℕ) (repeated : Bool) → survey_of collection x ≡ lines_within count bytes repeated → Surveyed count bytes repeated
  survey_held count bytes repeated e = go x refl e
    where
      go : (y : Terms) → x ≡ y → survey_of collection y ≡ lines_within count bytes repeated → Surveyed count bytes repeated
      go (terms ts) is e =
          let same : held_in x ≡ ts = ap held_in is in
          let told = survey_same e in
          let counts : 0 + length ts ≡ count = ap (λ (s : LineSurvey). s.count) told in
          let sizes : 0 + length (insert_bytes collection ts) ≡ bytes = ap (λ (s : LineSurvey). s.bytes) told in
          let finds : found_from [] (map (insert_of collection) ts) ≡ repeated = ap (λ (s : LineSurvey). s.repeated) told in
          record {
            held = is ∙ ap terms (sym same);
            counted = omega (arith, counts, ap length same);
            sized = omega (arith, sizes, ap (λ (us : List Term). length (insert_bytes collection us)) same);
            told = sym (ap (λ (us : List Term). found_from [] (map (insert_of collection) us)) same ∙ finds);
          }
      go (faulty m) is e = absurd (let z : ◌≡◌ {A = ℕ} 0 1 = cc in omega arith)

-- ---- few bytes

pub bytes_few : (collection : ℕ) (ts : List Term) → All KeptTerm ts → length (insert_bytes collection ts) ≤ term_bytes text_bytes * length ts
unfolding insert_bytes flat_map keeps_text insert_of encode_operation encode_optional encode_value kind_of value_body encode_text
bytes_few collection [] k = omega arith
bytes_few collection (t ∷ ts) k =
    let o = insert_of collection t in
    let own : length (encode_operation o) ≡ term_bytes (length t.words) = simp (length-append, length_little_endian) (omega arith) in
    let short = leb-true (length t.words) text_bytes (and_left (few_bytes t.words) _ k.0) in
    omega (arith, own, short, bytes_few collection ts k.1, length-append (encode_operation o) (insert_bytes collection ts))
