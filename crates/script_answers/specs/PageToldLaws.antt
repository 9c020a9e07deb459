-- The lines of a page, by what the call answered and left.
use Rattle.std.specs.Prelude.{ℕ, ◌+◌, ◌-◌, ◌*◌, ◌<◌, ◌≡◌, true, false, length, get_or, take, drop, replicate, if◌then◌else◌, Result, Ok, Err}
use Rattle.std.proofs.Math.Path.{refl, sym, ap, ap₂}
use Rattle.std.proofs.Common.{◌∙◌, arith, take_at}
use mathlib.Core.List.{List, [], ◌∷◌, ◌++◌, flat_map}
use Rattle.std.proofs.Math.Option.{Option, none, some}
use Rattle.std.proofs.lemmas.List.{length-replicate}
use Rattle.spec_decimal.specs.Decimal.{decimal}
use Rattle.spec_projection.specs.Projection.{Projection}
use Rattle.spec_projection.specs.Valid.{Valid}
use Rattle.spec_patch.specs.Patch.{Value, quad, signed, text, unsigned, score}
use Rattle.spec_listing.specs.Listing.{fields}
use Rattle.spec_page.specs.Page as model
use Rattle.spec_page.specs.Page.{PageEntry, page_entry, page_rows, page_number, page_refusal, table_left, page}
use Rattle.spec_page.proofs.PageLaws.{page_length}
use Rattle.spec_replay.specs.Answers.{dash, row_line, answered_lines, page_lines}
use Rattle.listing_lines.specs.LookupFields.{lookup_fields, found_fields}
use Rattle.panel_rows.specs.Lookup.{found_value}
use Rattle.panel_page.specs.PageTable.{page_width, answer_row, page_bytes, FitsAnswer, page_lookup, page_refusal_of, page_answer}
use Rattle.panel_page.specs.PageTableLaws.{page_fits, page_place}
use Rattle.panel_page.specs.declared.PageRefusal.{PageRefusal}
use Rattle.panel_page.specs.declared.PageRefusal.TheVariants.{TooManyKeys, TooFewPlaces}
use Rattle.panel_page.specs.declared.rows.PageLookup.{PageLookup}
use Rattle.script_answers.specs.PageTold.{row_lookup_line, PageTold}

-- ---- one place

module _ (l : PageLookup) where
  pub row_found : l.value.found ≡ true → 77 ∷ fields (decimal l.position ∷ lookup_fields l.value) ≡ row_lookup_line l
  unfolding row_lookup_line
  row_found t = rw t

  pub row_not_found : l.value.found ≡ false → 77 ∷ fields (dash ∷ []) ≡ row_lookup_line l
  unfolding row_lookup_line
  row_not_found t = rw t

-- a place that was taken apart has the line of its answer
pub row_looked_up : (a : Option PageEntry) → row_lookup_line (page_lookup a) ≡ row_line a
unfolding row_lookup_line page_lookup row_line
row_looked_up none = refl
row_looked_up (some x) = by_value x.value
  where
    by_value : (v : Value) → row_lookup_line (record { position = x.position; value = found_value x.mark v }) ≡ row_line (some (record { position = x.position; mark = x.mark; value = v }))
    by_value (quad q) = ap (λ (fs : List (List ℕ)). 77 ∷ fields (decimal x.position ∷ fs)) (found_fields _ (quad q))
    by_value (signed z) = ap (λ (fs : List (List ℕ)). 77 ∷ fields (decimal x.position ∷ fs)) (found_fields _ (signed z))
    by_value (text t) = ap (λ (fs : List (List ℕ)). 77 ∷ fields (decimal x.position ∷ fs)) (found_fields _ (text t))
    by_value (unsigned n) = ap (λ (fs : List (List ℕ)). 77 ∷ fields (decimal x.position ∷ fs)) (found_fields _ (unsigned n))
    by_value (score n) = ap (λ (fs : List (List ℕ)). 77 ∷ fields (decimal x.position ∷ fs)) (found_fields _ (score n))

-- ---- the places of the keys

abbrev pub line_of_key : Projection → ℕ → ℕ → List ℕ
line_of_key p c k = row_line (page_entry p c k)

pub lines_of_keys : (p : Projection) (c : ℕ) (keys : List ℕ) → flat_map (line_of_key p c) keys ≡ flat_map row_line (page_rows p c keys)
unfolding flat_map page_rows
lines_of_keys p c [] = refl
lines_of_keys p c (k ∷ keys) = ap (λ (l : List ℕ). line_of_key p c k ++ l) (lines_of_keys p c keys)

-- place i, as it is lent to be taken apart
pub lent_place : (p : Projection) → Valid p → (c : ℕ) (keys rest table : List ℕ) → table ≡ page_bytes p c keys ++ rest → (i : ℕ) → i < length keys
    → take (i * page_width + page_width - i * page_width) (drop (i * page_width) table) ≡ answer_row (page_entry p c (get_or keys i 0))
lent_place p v c keys rest table is i h =
    let width : i * page_width + page_width - i * page_width ≡ page_width = omega arith in
    ap₂ (λ (n : ℕ) (l : List ℕ). take n (drop (i * page_width) l)) width is ∙ page_place p v c keys rest i h

-- ---- by the answer

module _ (p : Projection) (c : ℕ) (keys : List ℕ) (places : ℕ) (answer : Result ℕ PageRefusal) (output : List ℕ) (h : PageTold p c keys places answer output) where
  module _ (n : ℕ) (is : answer ≡ Ok n) where
    taken : (o : Option model.PageRefusal) → page_answer (length keys) o ≡ Ok n → (o ≡ none) × (length keys ≡ n)
    taken none e = (refl, cc)
    taken (some model.too_many_keys) e = absurd (let z : ◌≡◌ {A = ℕ} 0 1 = cc in omega arith)
    taken (some model.too_few_places) e = absurd (let z : ◌≡◌ {A = ℕ} 0 1 = cc in omega arith)

    fits : (page_refusal (length keys) places ≡ none) × (length keys ≡ n)
    fits = taken (page_refusal (length keys) places) (sym h.answered ∙ is)

    pub page_keys_counted : length keys ≡ n
    page_keys_counted = fits.1

    pub keys_table : output ≡ page_bytes p c keys ++ drop (length (page_bytes p c keys)) h.before
    unfolding table_left
    keys_table = h.written ∙ ap (λ (o : Option model.PageRefusal). table_left o (page_bytes p c keys) h.before) fits.0

    pub answered_lines_lem : (89 ∷ fields (decimal 0 ∷ decimal n ∷ [])) ++ flat_map row_line (page_rows p c keys) ≡ page_lines (length keys) (page p c keys (replicate places none))
    unfolding page_lines answered_lines page table_left
    answered_lines_lem =
        let rows = page_rows p c keys in
        let room : page_refusal (length keys) (length (replicate {A = Option PageEntry} places none)) ≡ none = ap (page_refusal (length keys)) (length-replicate places none) ∙ fits.0 in
        ap₂ (λ (m : ℕ) (l : List (Option PageEntry)). (89 ∷ fields (decimal 0 ∷ decimal m ∷ [])) ++ flat_map row_line l) (sym page_keys_counted)
        (sym (take_at rows (drop (length rows) (replicate places none)) (length keys) (page_length p c keys)))
        ∙ sym (ap (λ (o : Option model.PageRefusal). answered_lines (length keys) o (table_left o rows (replicate places none))) room)

  pub page_refused_lines : (f : PageRefusal) → answer ≡ Err f → 89 ∷ fields (decimal (page_number (page_refusal_of f)) ∷ []) ≡ page_lines (length keys) (page p c keys (replicate places none))
  unfolding page_lines answered_lines page
  page_refused_lines f is = go (page_refusal (length keys) places) refl (sym h.answered ∙ is)
    where
      lines : (o : Option model.PageRefusal) → page_refusal (length keys) places ≡ o → page_lines (length keys) (page p c keys (replicate places none)) ≡ answered_lines (length keys) o (table_left o (page_rows p c keys) (replicate places none))
      lines o e = ap (λ (q : Option model.PageRefusal). answered_lines (length keys) q (table_left q (page_rows p c keys) (replicate places none))) (ap (page_refusal (length keys)) (length-replicate places none) ∙ e)

      go : (o : Option model.PageRefusal) → page_refusal (length keys) places ≡ o → page_answer (length keys) o ≡ Err f → 89 ∷ fields (decimal (page_number (page_refusal_of f)) ∷ []) ≡ page_lines (length keys) (page p c keys (replicate places none))
      go none e q = absurd (let z : ◌≡◌ {A = ℕ} 0 1 = cc in omega arith)
      go (some model.too_many_keys) e q = let same : TooManyKeys ≡ f = cc in ap (λ (g : PageRefusal). 89 ∷ fields (decimal (page_number (page_refusal_of g)) ∷ [])) (sym same) ∙ sym (lines (some model.too_many_keys) e)
      go (some model.too_few_places) e q = let same : TooFewPlaces ≡ f = cc in ap (λ (g : PageRefusal). 89 ∷ fields (decimal (page_number (page_refusal_of g)) ∷ [])) (sym same) ∙ sym (lines (some model.too_few_places) e)
