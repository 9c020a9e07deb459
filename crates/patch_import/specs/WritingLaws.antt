-- The pass that writes: the lines that are left hold the terms that are still to write.
use Prim.Native.Nat.{ℕ, suc, ◌+◌, ◌≤◌, ◌<◌}
use Rattle.std.proofs.Math.Path.{◌≡◌, refl, sym, ap}
use Rattle.std.proofs.Common.{◌∙◌, arith, ltb-true, ltb-false, length-append}
use mathlib.Core.List.{List, [], ◌∷◌, ◌++◌, flat_map}
use Rattle.std.specs.Prelude.{ltb, length, drop, Result, Ok, Err}
use Rattle.spec_lists.proofs.ListLaws.{test_cases}
use Rattle.spec_patch.specs.Sizes.{patch_operations}
use Rattle.spec_patch.specs.Encode.{encode_operation}
use Rattle.spec_import.specs.Import.{Term, ImportRefusal, over_capacity, other_form, lines, Terms, terms, faulty, also, read_terms, insert_of}
use Rattle.spec_import.proofs.LineLaws.{terms_inj, lines_read}
use Rattle.bytes_wire.specs.Write.{overwrite}
use Rattle.bytes_wire.proofs.WriteLaws.{overwrite_append}
use Rattle.patch_writer.proofs.Progress.{Next}
use Rattle.patch_terms.specs.Places.{first_term_line}
use Rattle.patch_terms.specs.Answers.{term_answer, line_to, line_answer, HoldsTerm}
use Rattle.patch_terms.specs.declared.TermRefusal.{TermRefusal}
use Rattle.patch_terms.specs.declared.TermRefusal.TheVariants as reason
use Rattle.patch_terms.specs.LinesLaws.{term_of, TermAt, reads_term, reads_full, reads_other, reads_over, reads_end}
use Rattle.patch_import.specs.Survey.{term_bytes, insert_bytes, held_of, Writable}
use Rattle.patch_import.specs.SurveyLaws.{term_size}

-- the lines from a position on, behind some others, hold these terms
pub record TermsLeft (list : List ℕ) (at : ℕ) (rest : List Term) : Type 0 where
  pub done : ℕ
  pub reads : read_terms done (lines (drop at list)) ≡ terms rest

pub left_start : (collection : ℕ) (list : List ℕ) (from room : ℕ) → Writable collection list from room → TermsLeft list 0 (held_of list)
left_start collection list from room w = record { done = 0; reads = w.held }

pub no_bytes : (collection : ℕ) → insert_bytes collection [] ≡ []
unfolding insert_bytes flat_map
no_bytes collection = refl

never : {C : Type 0} {ts : List Term} {x : Terms} (r : ImportRefusal) → x ≡ terms ts → x ≡ faulty r → C
never {C} {ts} r e f = absurd (let same : terms ts ≡ faulty r = sym e ∙ f in let z : ◌≡◌ {A = ℕ} 0 1 = cc in omega arith)

-- a patch holds them
pub held_few : {collection : ℕ} {list : List ℕ} {from room : ℕ} → Writable collection list from room → length (held_of list) ≤ patch_operations
held_few {list = list} w = omega (arith, (lines_read 0 (lines list) (held_of list) (omega arith) w.held).few)

-- three parts written one behind the other
pub three_written : (out a b x : List ℕ) (n : ℕ) → length a ≡ 35 → length b ≡ n → 35 + n + length x ≤ length out → overwrite (overwrite (overwrite out 0 a) 35 b) (35 + n) x ≡ overwrite out 0 ((a ++ b) ++ x)
three_written out a b x n long-a long-b room =
    let both : length (a ++ b) ≡ 35 + n = length-append a b ∙ omega (arith, long-a, long-b) in
    let from : 35 + n ≡ 0 + (35 + n) = omega arith in
    ap (λ (o : List ℕ). overwrite o (35 + n) x) (overwrite_append out 0 a b 35 long-a (omega (arith, long-b)))
    ∙ ap (λ (k : ℕ). overwrite (overwrite out 0 (a ++ b)) k x) from
    ∙ overwrite_append out 0 (a ++ b) x (35 + n) both (omega arith)

module _ {list : List ℕ} {at : ℕ} {rest : List Term} (left : TermsLeft list at rest) where
  -- none is of another form or over its limits
  pub left_other : {C : Type 0} → at < length list → line_answer at (drop at list) ≡ Err reason.OtherForm → C
  left_other more e = never other_form left.reads (reads_other list at left.done more e)

  pub left_over : {C : Type 0} → at < length list → line_answer at (drop at list) ≡ Err reason.OverCapacity → C
  left_over more e = never over_capacity left.reads (reads_over list at left.done more e)

  -- so each holds a term
  pub left_holds : at < length list → HoldsTerm (drop at list)
  left_holds more = go (term_answer (first_term_line (drop at list))) refl
    where
      go : (r : Result (ℕ × ℕ) TermRefusal) → term_answer (first_term_line (drop at list)) ≡ r → HoldsTerm (drop at list)
      go (Ok (k, start)) e = record { key = k; start = start; is = e }
      go (Err reason.OtherForm) e = left_other more (ap (line_to at (at + length (first_term_line (drop at list)))) e)
      go (Err reason.OverCapacity) e = left_over more (ap (line_to at (at + length (first_term_line (drop at list)))) e)

  -- none is left behind the end
  pub left_end : length list ≤ at → rest ≡ []
  left_end h = terms_inj rest [] (sym left.reads ∙ reads_end list at left.done h)

  module _ (more : at < length list) (k start len next : ℕ) (t : TermAt list at k start len next) where
    abbrev term : Term
    term = term_of list k start len

    -- the term that was read, and those of the later lines
    pub record Later : Type 0 where
      pub after : List Term
      pub parted : rest ≡ term ∷ after
      pub onward : TermsLeft list next after

    pub later_terms : Later
    unfolding also
    later_terms =
        test_cases (ltb left.done patch_operations)
        (λ small. go (read_terms (suc left.done) (lines (drop next list))) refl (sym (reads_term list at left.done more k start len next t (ltb-true left.done patch_operations small)) ∙ left.reads))
        (λ full. never over_capacity left.reads (reads_full list at left.done more k start len next t (ltb-false left.done patch_operations full)))
      where
        go : (x : Terms) → read_terms (suc left.done) (lines (drop next list)) ≡ x → also term x ≡ terms rest → Later
        go (terms us) r e = record { after = us; parted = sym (terms_inj (term ∷ us) rest e); onward = record { done = suc left.done; reads = r } }
        go (faulty f) r e = absurd (let z : ◌≡◌ {A = ℕ} 0 1 = cc in omega arith)

    pub later_bytes : (collection : ℕ) → Next (insert_bytes collection rest) (encode_operation (insert_of collection term)) (insert_bytes collection later_terms.after) (term_bytes len)
    unfolding insert_bytes flat_map
    later_bytes collection = record {
      parted = ap (insert_bytes collection) later_terms.parted;
      long = term_size collection list at k start len next t;
    }
