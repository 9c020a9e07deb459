-- The lines of a list: where they end, and what is printed as lines is read back as the same terms.
use Rattle.std.specs.Prelude.{ℕ, suc, ◌+◌, ◌≤◌, ◌<◌, ◌^◌, ◌≡◌, refl, true, false, not, ◌&&◌, eqb, ltb, length}
use Rattle.std.proofs.Math.Path.{sym, ap}
use Rattle.std.proofs.Common.{ap₂, ◌∙◌, arith, lt-ltb, ltb-true}
use mathlib.Core.List.{List, [], ◌∷◌, ◌++◌, append_assoc, map, flat_map}
use Rattle.std.proofs.Math.Option.{Option, none, some}
use Rattle.spec_lists.specs.Lists.{All}
use Rattle.spec_lists.proofs.ListLaws.{and_left, and_right, test_cases}
use Rattle.spec_decimal.specs.Decimal.{digits, decimal}
use Rattle.spec_decimal.proofs.DecimalLaws.{all_digits}
use Rattle.spec_decimal.proofs.ReadLaws.{read_decimal_decimal}
use Rattle.spec_listing.specs.Escapes.{tab, newline}
use Rattle.spec_listing.specs.Split.{prepend, lacks}
use Rattle.spec_listing.proofs.SplitLaws.{lacks_append, split_whole, split_part}
use Rattle.spec_listing.proofs.RecordLaws.{digits_lack}
use Rattle.spec_patch.specs.Sizes.{patch_operations}
use Rattle.spec_patch.specs.TextRule.{allowed}
use Rattle.spec_import.specs.Import.{Term, ImportRefusal, other_form, over_capacity, lines, term_with, term_of_fields, read_term, keeps_text, Terms, terms, faulty, also, line_then, read_terms, print_term, print_terms}

-- ---- lines

no_newline : (b : ℕ) → not (eqb b newline) ≡ true → eqb b newline ≡ false
no_newline b e = test_cases (eqb b newline) (λ t. let z : ◌≡◌ {A = ℕ} 0 1 = cc (rw t at e) in absurd (omega arith)) (λ t. t)

-- a newline ends a line
pub lines_part : (l rest : List ℕ) → lacks newline l ≡ true → lines (l ++ newline ∷ rest) ≡ l ∷ lines rest
unfolding lines prepend
lines_part [] rest h = refl
lines_part (b ∷ l) rest h = rw (no_newline b (and_left _ (lacks newline l) h), lines_part l rest (and_right (not (eqb b newline)) _ h))

-- bytes without one are a line
pub lines_whole : (b : ℕ) (l : List ℕ) → lacks newline (b ∷ l) ≡ true → lines (b ∷ l) ≡ (b ∷ l) ∷ []
unfolding lines prepend
lines_whole b [] h = rw (no_newline b (and_left _ true h))
lines_whole b (c ∷ l) h = rw (no_newline b (and_left _ (lacks newline (c ∷ l)) h), lines_whole c l (and_right (not (eqb b newline)) _ h))

-- the last line may lack its newline
pub lines_last : (front : List ℕ) (b : ℕ) (l : List ℕ) → lacks newline (b ∷ l) ≡ true → lines (front ++ (b ∷ l ++ newline ∷ [])) ≡ lines (front ++ (b ∷ l))
unfolding lines
lines_last [] b l h = lines_part (b ∷ l) [] h ∙ sym (lines_whole b l h)
lines_last (c ∷ front) b l h =
    test_cases (eqb c newline)
    (λ t. rw t (ap (λ (r : List (List ℕ)). [] ∷ r) (lines_last front b l h)))
    (λ t. rw t (ap (prepend c) (lines_last front b l h)))

-- ---- a line that is printed

decimal_lacks : (separator : ℕ) → separator < 48 → (n : ℕ) → lacks separator (decimal n) ≡ true
unfolding decimal
decimal_lacks separator small n = digits_lack separator small (digits 20 n) (all_digits 20 n)

-- a term that a line has the form for: its text is UTF-8 and has no tab
pub record Formed (t : Term) : Type 0 where
  pub key : t.key < 2 ^ 64
  pub utf8 : allowed true t.words ≡ true
  pub no_tab : lacks tab t.words ≡ true

-- and no newline
pub record PrintableTerm (t : Term) : Type 0 where
  pub formed : Formed t
  pub no_newline : lacks newline t.words ≡ true

-- a term's line without its newline
abbrev pub line_of : Term → List ℕ
line_of t = decimal t.key ++ (tab ∷ t.words)

pub line_read : (t : Term) → Formed t → read_term (line_of t) ≡ some t
unfolding read_term term_of_fields term_with
line_read t f =
    ap term_of_fields (split_part tab (decimal t.key) t.words (decimal_lacks tab (omega arith) t.key) ∙ ap (λ (r : List (List ℕ)). decimal t.key ∷ r) (split_whole tab t.words f.no_tab))
    ∙ rw (read_decimal_decimal t.key f.key, f.utf8)

module _ (t : Term) (p : PrintableTerm t) where
  line_lacks : lacks newline (line_of t) ≡ true
  line_lacks = lacks_append newline (decimal t.key) (tab ∷ t.words) (decimal_lacks newline (omega arith) t.key) p.no_newline

  line_first : (rest : List ℕ) → lines (print_term t ++ rest) ≡ line_of t ∷ lines rest
  unfolding print_term
  line_first rest =
      ap lines (append_assoc (decimal t.key) (tab ∷ t.words ++ (newline ∷ [])) rest
      ∙ ap (λ (l : List ℕ). decimal t.key ++ (tab ∷ l)) (append_assoc t.words (newline ∷ []) rest)
      ∙ sym (append_assoc (decimal t.key) (tab ∷ t.words) (newline ∷ rest)))
      ∙ lines_part (line_of t) rest line_lacks

-- the lines of what is printed are those of its terms
pub lines_printed : (ts : List Term) → All PrintableTerm ts → lines (print_terms ts) ≡ map line_of ts
unfolding print_terms flat_map lines
lines_printed [] h = refl
lines_printed (t ∷ ts) h = line_first t h.0 (print_terms ts) ∙ ap (λ (r : List (List ℕ)). line_of t ∷ r) (lines_printed ts h.1)

-- ---- lines that are read

-- what is kept of a term: its text within its limits
abbrev pub KeptTerm : Term → Type 0
KeptTerm t = keeps_text t ≡ true

-- lines of the form, with texts within their limits and no more than a patch holds, are read one for one
pub reads_lines : (n : ℕ) (ls : List (List ℕ)) (ts : List Term) → map read_term ls ≡ map some ts → All KeptTerm ts → n + length ts ≤ patch_operations → read_terms n ls ≡ terms ts
unfolding read_terms line_then also
reads_lines n [] [] e k few = refl
reads_lines n [] (t ∷ ts) e k few = absurd (let z : ◌≡◌ {A = ℕ} 0 1 = cc in omega arith)
reads_lines n (l ∷ ls) [] e k few = absurd (let z : ◌≡◌ {A = ℕ} 0 1 = cc in omega arith)
reads_lines n (l ∷ ls) (t ∷ ts) e k few =
    let here : read_term l ≡ some t = cc in
    let rest : map read_term ls ≡ map some ts = cc in
    rw (here, k.0, lt-ltb n patch_operations (omega arith), reads_lines (suc n) ls ts rest k.1 (omega arith))

-- what was read of lines: each gave a term, in their order
pub record LinesRead (n : ℕ) (ls : List (List ℕ)) (ts : List Term) : Type 0 where
  pub formed : map read_term ls ≡ map some ts
  pub kept : All KeptTerm ts
  pub few : n + length ts ≤ patch_operations

pub terms_inj : (a b : List Term) → terms a ≡ terms b → a ≡ b
terms_inj a b e = cc

-- terms that are read are those of the lines, one for one
pub lines_read : (n : ℕ) (ls : List (List ℕ)) (ts : List Term) → n ≤ patch_operations → read_terms n ls ≡ terms ts → LinesRead n ls ts
unfolding read_terms line_then also
lines_read n [] ts h e = rw (← terms_inj [] ts e) (record { formed = refl; kept = tt; few = omega arith })
lines_read n (l ∷ ls) ts h e = by_line (λ us small r. lines_read (suc n) ls us small r) (read_term l) refl e
  where
    Later : Type 0
    Later = (us : List Term) → suc n ≤ patch_operations → read_terms (suc n) ls ≡ terms us → LinesRead (suc n) ls us

    never : {C : Type 0} (r : ImportRefusal) → faulty r ≡ terms ts → C
    never r e = absurd (let z : ◌≡◌ {A = ℕ} 0 1 = cc in omega arith)

    by_rest : Later → (t : Term) → read_term l ≡ some t → KeptTerm t → n < patch_operations → (rest : Terms) → read_terms (suc n) ls ≡ rest → also t rest ≡ terms ts → LinesRead n (l ∷ ls) ts
    by_rest ih t q k small (terms us) r e =
        let later = ih us (omega arith) r in
        rw (← terms_inj (t ∷ us) ts e) (record { formed = ap₂ (λ (a : Option Term) (b : List (Option Term)). a ∷ b) q later.formed; kept = (k, later.kept); few = omega (arith, later.few) })
    by_rest ih t q k small (faulty f) r e = never f e

    by_line : Later → (o : Option Term) → read_term l ≡ o → line_then n o (read_terms (suc n) ls) ≡ terms ts → LinesRead n (l ∷ ls) ts
    by_line ih none q e = never other_form e
    by_line ih (some t) q e =
        test_cases (keeps_text t && ltb n patch_operations)
        (λ both. by_rest ih t q (and_left (keeps_text t) _ both) (ltb-true n patch_operations (and_right (keeps_text t) _ both)) (read_terms (suc n) ls) refl (rw both at e))
        (λ not_both. never over_capacity (rw not_both at e))

-- what is printed is read back as the same terms
pub printed_reads : (ts : List Term) → All PrintableTerm ts → All KeptTerm ts → length ts ≤ patch_operations → read_terms 0 (lines (print_terms ts)) ≡ terms ts
printed_reads ts p k few = ap (read_terms 0) (lines_printed ts p) ∙ reads_lines 0 (map line_of ts) ts (formed ts p) k (omega arith)
  where
    formed : (us : List Term) → All PrintableTerm us → map read_term (map line_of us) ≡ map some us
    formed [] h = refl
    formed (u ∷ us) h = rw (line_read u h.0.formed, formed us h.1)
