-- A line that is read in place, among the lines of its list: the term that it holds, and the lines that are left.
use Rattle.std.specs.Prelude.{ℕ, suc, ◌+◌, ◌-◌, ◌≤◌, ◌<◌, true, List, [], ◌∷◌, ◌++◌, take, drop, Result, Ok, Err}
use Rattle.std.proofs.Math.Path.{◌≡◌, refl, ap}
use Rattle.std.proofs.Common.{sym, ap₂, ◌∙◌, arith, length-append, length-drop, drop_of_length-le, drop_at, drop-drop, take-add, length-take-le}
use Rattle.std.proofs.Math.Option.{Option, none, some}
use borrow.Author.Tests.{lt-ltb, le-ltb}
use Rattle.std.proofs.Math.ListN.{length}
use Rattle.spec_lists.proofs.ListLaws.{drop_behind, test_cases}
use Rattle.spec_decimal.specs.Decimal.{decimal}
use Rattle.spec_listing.specs.Escapes.{tab, newline}
use Rattle.spec_patch.specs.Sizes.{patch_operations}
use Rattle.spec_import.specs.Import.{Term, other_form, over_capacity, lines, read_term, keeps_text, terms, faulty, also, line_then, read_terms}
use Rattle.spec_import.proofs.LineLaws.{line_of}
use Rattle.spec_import.proofs.FormLaws.{form_exactly}
use Rattle.patch_terms.specs.declared.TermRefusal.{TermRefusal}
use Rattle.patch_terms.specs.declared.TermRefusal.TheVariants.{OtherForm, OverCapacity}
use Rattle.patch_terms.specs.declared.TermLine.{TermLine}
use Rattle.patch_terms.specs.Places.{byte_place_of, first_term_line}
use Rattle.patch_terms.specs.PlacesLaws.{byte_place_of_within, lines_at}
use Rattle.patch_terms.specs.Answers.{term_to, line_ok, line_to, line_answer}

-- the text of a line is its end
text_last : (l : List ℕ) (t : Term) → read_term l ≡ some t → (drop (length l - length t.words) l ≡ t.words) × (length t.words ≤ length l)
text_last l t e =
    let is : l ≡ line_of t = ((form_exactly l t).0 e).1 in
    let whole = ap length is ∙ length-append (decimal t.key) (tab ∷ t.words) in
    let front : length (decimal t.key ++ (tab ∷ [])) ≡ length l - length t.words = length-append (decimal t.key) (tab ∷ []) ∙ omega (arith, whole) in
    (ap (drop (length l - length t.words)) is ∙ drop_behind (length l - length t.words) (decimal t.key) (tab ∷ []) t.words front, omega (arith, whole))

-- the last m of the first n
last_of_first : (l : List ℕ) (m n : ℕ) → m ≤ n → n ≤ length l → drop (n - m) (take n l) ≡ take m (drop (n - m) l)
last_of_first l m n small enough =
    let sum : n ≡ (n - m) + m = omega arith in
    ap (λ (k : ℕ). drop (n - m) (take k l)) sum ∙ ap (drop (n - m)) (take-add (n - m) m l) ∙ drop_at (take (n - m) l) (take m (drop (n - m) l)) (n - m) (length-take-le (n - m) l (omega arith))

abbrev pub term_of : List ℕ → ℕ → ℕ → ℕ → Term
term_of list k start len = record { key = k; words = take len (drop start list) }

-- answers that are equal hold the same
lines_same : {l m : TermLine} → ◌≡◌ {A = Result TermLine TermRefusal} (Ok l) (Ok m) → l ≡ m
lines_same e = cc

module _ (list : List ℕ) (at : ℕ) where
  abbrev bytes : List ℕ
  bytes = drop at list

  abbrev first : List ℕ
  first = first_term_line bytes

  -- a term whose text stands in the list, and the next line behind it
  pub record TermAt (k start len next : ℕ) : Type 0 where
    pub holds : read_term first ≡ some (term_of list k start len)
    pub kept : keeps_text (term_of list k start len) ≡ true
    pub ends : next ≡ suc (at + byte_place_of newline bytes)
    pub inside : start + len ≤ length list

  first_long : length first ≡ byte_place_of newline bytes
  first_long = length-take-le (byte_place_of newline bytes) bytes (byte_place_of_within newline bytes)

  -- the words stand where the answer says
  words_at : (t : Term) → read_term first ≡ some t → at ≤ length list → (start len : ℕ) → at + (length first - length t.words) ≡ start → (at + length first) - start ≡ len
      → (t.words ≡ take len (drop start list)) × (start + len ≤ length list)
  words_at t e low start len s l =
      let last = text_last first t e in
      let m = length t.words in
      let n = byte_place_of newline bytes in
      let long : len ≡ m = omega (arith, last.1) in
      let size : (length first - m) ≡ (n - m) = ap (λ (x : ℕ). x - m) first_long in
      let same : take m (drop (n - m) bytes) ≡ t.words = sym (last_of_first bytes m n (omega (arith, last.1, first_long)) (byte_place_of_within newline bytes)) ∙ ap (λ (x : ℕ). drop x first) (sym size) ∙ last.0 in (
        sym (ap₂ (λ (x y : ℕ). take x (drop y list)) long (sym s ∙ ap (λ (x : ℕ). at + x) size) ∙ ap (take m) (sym (drop-drop (n - m) at list)) ∙ same),
        omega (arith, last.1, first_long, byte_place_of_within newline bytes, length-drop at list),
      )

  pub term_at : (k start len next : ℕ) → at ≤ length list → line_answer at bytes ≡ line_ok k start len next → TermAt k start len next
  term_at k start len next low e = by_term (read_term first) refl e
    where
      by_place : (t : Term) → read_term first ≡ some t → keeps_text t ≡ true
          → line_ok t.key (at + (length first - length t.words)) ((at + length first) - (at + (length first - length t.words))) (at + length first + 1) ≡ line_ok k start len next → TermAt k start len next
      by_place t h kept e =
          let lines = lines_same e in
          let keys : t.key ≡ k = ap (λ (l : TermLine). l.key) lines in
          let starts : at + (length first - length t.words) ≡ start = ap (λ (l : TermLine). l.start) lines in
          let lens : (at + length first) - (at + (length first - length t.words)) ≡ len = ap (λ (l : TermLine). l.len) lines in
          let nexts : at + length first + 1 ≡ next = ap (λ (l : TermLine). l.next) lines in
          let placed = words_at t h low start len starts (ap (λ (x : ℕ). (at + length first) - x) (sym starts) ∙ lens) in
          let is : t ≡ term_of list k start len = λ i. record { key = keys i; words = placed.0 i } in
          record { holds = h ∙ ap some is; kept = sym (ap keeps_text is) ∙ kept; ends = omega (arith, first_long); inside = placed.1 }

      by_term : (o : Option Term) → read_term first ≡ o → line_to at (at + length first) (term_to (length first) o) ≡ line_ok k start len next → TermAt k start len next
      by_term none h e = absurd (let z : ◌≡◌ {A = ℕ} 0 1 = cc in omega arith)
      by_term (some t) h e =
          test_cases (keeps_text t)
          (λ kept. by_place t h kept (rw kept at e))
          (λ over. absurd (let z : ◌≡◌ {A = ℕ} 0 1 = cc (rw over at e) in omega arith))

  -- ---- the lines that are left

  module _ (n : ℕ) (more : at < length list) where
    step : read_terms n (lines bytes) ≡ line_then n (read_term first) (read_terms (suc n) (lines (drop (suc (at + byte_place_of newline bytes)) list)))
    unfolding read_terms
    step = ap (read_terms n) (lines_at list at more)

    pub reads_term : (k start len next : ℕ) → TermAt k start len next → n < patch_operations → read_terms n (lines bytes) ≡ also (term_of list k start len) (read_terms (suc n) (lines (drop next list)))
    unfolding line_then
    reads_term k start len next t small = step ∙ rw (t.holds, t.kept, lt-ltb n patch_operations small, t.ends)

    pub reads_full : (k start len next : ℕ) → TermAt k start len next → patch_operations ≤ n → read_terms n (lines bytes) ≡ faulty over_capacity
    unfolding line_then
    reads_full k start len next t full = step ∙ rw (t.holds, t.kept, le-ltb n patch_operations full)

    pub reads_other : line_answer at bytes ≡ Err OtherForm → read_terms n (lines bytes) ≡ faulty other_form
    unfolding line_then
    reads_other e = step ∙ go (read_term first) refl e
      where
        go : (o : Option Term) → read_term first ≡ o → line_to at (at + length first) (term_to (length first) o) ≡ Err OtherForm → line_then n (read_term first) (read_terms (suc n) (lines (drop (suc (at + byte_place_of newline bytes)) list))) ≡ faulty other_form
        go none h e = rw h
        go (some t) h e =
            test_cases (keeps_text t)
            (λ b. absurd (let z : ◌≡◌ {A = ℕ} 0 1 = cc (rw b at e) in omega arith))
            (λ b. absurd (let z : ◌≡◌ {A = ℕ} 0 1 = cc (rw b at e) in omega arith))

    pub reads_over : line_answer at bytes ≡ Err OverCapacity → read_terms n (lines bytes) ≡ faulty over_capacity
    unfolding line_then
    reads_over e = step ∙ go (read_term first) refl e
      where
        go : (o : Option Term) → read_term first ≡ o → line_to at (at + length first) (term_to (length first) o) ≡ Err OverCapacity → line_then n (read_term first) (read_terms (suc n) (lines (drop (suc (at + byte_place_of newline bytes)) list))) ≡ faulty over_capacity
        go none h e = absurd (let z : ◌≡◌ {A = ℕ} 0 1 = cc in omega arith)
        go (some t) h e =
            test_cases (keeps_text t)
            (λ b. absurd (let z : ◌≡◌ {A = ℕ} 0 1 = cc (rw b at e) in omega arith))
            (λ b. rw (h, b))

  -- none is left behind the end
  pub reads_end : (n : ℕ) → length list ≤ at → read_terms n (lines bytes) ≡ terms []
  unfolding read_terms lines
  reads_end n h = rw (drop_of_length-le list {i = at} h)
