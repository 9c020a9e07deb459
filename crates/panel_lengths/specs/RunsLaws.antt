-- The runs of a plan's rows are the lengths of its collections: entries of one collection stand side by side.
use Prim.Native.Nat.{ℕ, zero, suc, ◌+◌, ◌-◌, ◌*◌, ◌≤◌, ◌<◌}
use Rattle.std.specs.Prelude.{◌≡◌, ◌≢◌, true, eqb, length, take, drop, get_or}
use Rattle.std.proofs.Math.Path.{refl, sym, ap}
use Rattle.std.proofs.Common.{ap₂, subst, ◌∙◌, add-one, eqb-true, eq-eqb, ne_eqb, drop-cons}
use mathlib.Core.List.{List, [], ◌∷◌, map}
use Rattle.std.proofs.Math.Option
use Rattle.std.proofs.Math.Option.{none, some}
use native.Mathlib.Omega.{arith}
use Rattle.std.proofs.lemmas.Bool.{eqb-false}
use Rattle.spec_lists.specs.Lists.{All, or_zero}
use Rattle.spec_lists.proofs.ListLaws.{all_map, test_cases}
use Rattle.spec_lists.specs.Order.{lex_less, lookup, Ascending}
use Rattle.spec_lists.proofs.OrderLaws.{lex_less_less, above, alike}
use Rattle.spec_lists.proofs.LookupLaws.{lookup_below}
use Rattle.spec_projection.specs.Projection.{Entry}
use Rattle.spec_projection.specs.Lookups.{entries_in}
use Rattle.spec_projection.specs.Valid.{Behind, Grouped}
use Rattle.spec_projection.proofs.CollectionLaws.{entries_in_own, entries_in_other}
use Rattle.spec_lengths.specs.Lengths.{CollectionLength, length_record, length_key, lengths_in, length_found, length_of}
use Rattle.spec_lengths.proofs.LengthsLaws.{non_zero, or_zero_lem, found_here, found_past, lengths_found, lengths_ascend, lengths_determined}
use Rattle.panel_rows.specs.Rows.{id_width, field_at}
use Rattle.panel_plan.specs.PlanRows.{planned_entry_width}
use Rattle.panel_lengths.specs.Runs.{count_one, runs, leading, collections_from}

-- ---- one run after the other

pub first_run : (c : ℕ) (cs : List ℕ) → runs (c ∷ cs) ≡ length_record c (suc (leading c cs)) ∷ runs (drop (leading c cs) cs)
unfolding runs count_one leading
first_run c [] = refl
first_run c (d ∷ cs) = test_cases (eqb d c) (λ t. rw t (again (eqb-true d c t) (first_run c cs))) (λ t. rw t (other (eqb-false d c t) (first_run d cs)))
  where
    again : d ≡ c → runs (c ∷ cs) ≡ length_record c (suc (leading c cs)) ∷ runs (drop (leading c cs) cs) → count_one c (runs (d ∷ cs)) ≡ length_record c (suc (suc (leading c cs))) ∷ runs (drop (leading c cs) cs)
    again e ih = ap (λ (b : ℕ). count_one c (runs (b ∷ cs))) e ∙ ap (count_one c) ih ∙ rw (eq-eqb c c refl)

    past : (x : CollectionLength) (l : List CollectionLength) → x.collection ≢ c → count_one c (x ∷ l) ≡ length_record c 1 ∷ x ∷ l
    past x l n = rw (ne_eqb x.collection c n)

    other : d ≢ c → runs (d ∷ cs) ≡ length_record d (suc (leading d cs)) ∷ runs (drop (leading d cs) cs) → count_one c (runs (d ∷ cs)) ≡ length_record c 1 ∷ runs (d ∷ cs)
    other n ih = ap (count_one c) ih ∙ past (length_record d (suc (leading d cs))) (runs (drop (leading d cs) cs)) n ∙ ap (λ (l : List CollectionLength). length_record c 1 ∷ l) (sym ih)

pub few_leading : (c : ℕ) (l : List ℕ) → leading c l ≤ length l
unfolding leading
few_leading c [] = omega arith
few_leading c (d ∷ l) = test_cases (eqb d c) (λ t. rw t (omega (arith, few_leading c l))) (λ t. rw t (omega arith))

pub collections_length : (i n : ℕ) (plan : List ℕ) → length (collections_from i n plan) ≡ n
unfolding collections_from
collections_length i zero plan = refl
collections_length i (suc n) plan = ap suc (collections_length (suc i) n plan)

pub collections_drop : (k i n : ℕ) (plan : List ℕ) → k ≤ n → drop k (collections_from i n plan) ≡ collections_from (i + k) (n - k) plan
unfolding collections_from
collections_drop zero i n plan h =
    let same : i ≡ i + 0 = omega arith in
    let all : n ≡ n - 0 = omega arith in
    ap₂ (λ (a b : ℕ). collections_from a b plan) same all
collections_drop (suc k) i zero plan h = absurd (omega arith)
collections_drop (suc k) i (suc n) plan h =
    let same : suc i + k ≡ i + suc k = omega arith in
    let left : n - k ≡ suc n - suc k = omega arith in
    collections_drop k (suc i) n plan (omega arith) ∙ ap₂ (λ (a b : ℕ). collections_from a b plan) same left

module _ (plan : List ℕ) (count i : ℕ) (below : i < count) where
  abbrev own : ℕ
  own = field_at (i * planned_entry_width) id_width plan

  abbrev rest : List ℕ
  rest = collections_from (i + 1) (count - (i + 1)) plan

  pub next_collection : collections_from i (count - i) plan ≡ own ∷ rest
  unfolding collections_from
  next_collection =
      let more : count - i ≡ suc (count - (i + 1)) = omega arith in
      ap (λ (n : ℕ). collections_from i n plan) more ∙ ap (λ (j : ℕ). own ∷ collections_from j (count - (i + 1)) plan) (sym (add-one i))

  -- how far a run goes, one row after the other
  pub leading_own : (c : ℕ) → own ≡ c → i + leading c (collections_from i (count - i) plan) ≡ i + 1 + leading c rest
  unfolding leading
  leading_own c e = ap (λ (l : List ℕ). i + leading c l) next_collection ∙ rw (eq-eqb own c e) (omega arith)

  pub leading_other : (c : ℕ) → (own ≡ c → ⊥) → i + leading c (collections_from i (count - i) plan) ≡ i
  unfolding leading
  leading_other c n = ap (λ (l : List ℕ). i + leading c l) next_collection ∙ rw (ne_eqb own c n) (omega arith)

  module _ (end : ℕ) (is : end ≡ i + 1 + leading own rest) where
    short : leading own rest ≤ count - (i + 1)
    short = omega (arith, few_leading own rest, collections_length (i + 1) (count - (i + 1)) plan)

    pub run_within : (i < end) × (end ≤ count)
    run_within = (omega arith, omega (arith, short))

    -- a run, and those behind it
    pub next_run : runs (collections_from i (count - i) plan) ≡ length_record own (end - i) ∷ runs (collections_from end (count - end) plan)
    next_run =
        let n = leading own rest in
        let long : suc n ≡ end - i = omega arith in
        let left : count - (i + 1) - n ≡ count - end = omega arith in
        ap runs next_collection ∙ first_run own rest
        ∙ ap₂ (λ (k : ℕ) (l : List ℕ). length_record own k ∷ runs l) long (collections_drop n (i + 1) (count - (i + 1)) plan short ∙ ap₂ (λ (a b : ℕ). collections_from a b plan) (sym is) left)

pub leading_end : (plan : List ℕ) (count i c : ℕ) → count ≤ i → i + leading c (collections_from i (count - i) plan) ≡ i
unfolding leading collections_from
leading_end plan count i c h =
    let none : count - i ≡ 0 = omega arith in
    ap (λ (n : ℕ). i + leading c (collections_from i n plan)) none ∙ omega arith

-- ---- runs of collections that ascend

count_all : (P : ℕ → Type 0) (c : ℕ) (l : List CollectionLength) → P c → All (λ (x : CollectionLength). P x.collection) l → All (λ (x : CollectionLength). P x.collection) (count_one c l)
unfolding count_one
count_all P c [] p h = (p, tt)
count_all P c (x ∷ l) p h = test_cases (eqb x.collection c) (λ t. rw t (p, h.1)) (λ t. rw t (p, h))

runs_all : (P : ℕ → Type 0) (cs : List ℕ) → All P cs → All (λ (x : CollectionLength). P x.collection) (runs cs)
unfolding runs
runs_all P [] h = tt
runs_all P (c ∷ cs) h = count_all P c (runs cs) h.0 (runs_all P cs h.1)

-- the collections of entries that stand behind one
behind_all : (x : Entry) (es : List Entry) → All (Behind x) es → All (λ (c : ℕ). x.collection ≤ c) (map (λ (e : Entry). e.collection) es)
behind_all x [] h = tt
behind_all x (e ∷ es) h = (h.0.collection, behind_all x es h.1)

module _ (c : ℕ) where
  -- a row of another collection, none below this one
  less : (x : CollectionLength) → c ≤ x.collection → x.collection ≢ c → lex_less (c ∷ []) (length_key x) ≡ true
  unfolding length_key
  less x h n = lex_less_less c x.collection [] [] (omega arith)

  count_ascends : (l : List CollectionLength) → All (λ (x : CollectionLength). c ≤ x.collection) l → Ascending length_key l → Ascending length_key (count_one c l)
  unfolding count_one length_key
  count_ascends [] h g = (tt, tt)
  count_ascends (x ∷ l) h g = test_cases (eqb x.collection c)
      (λ t. rw t (alike length_key (length_record c (suc x.length)) x l (ap (λ (b : ℕ). b ∷ []) (sym (eqb-true x.collection c t))) g.0, g.1))
      (λ t. let first = less x h.0 (eqb-false x.collection c t) in rw t ((first, above length_key (length_record c 1) x l first g.0), g))

  no_row : length_found c [] ≡ none
  unfolding length_found lookup
  no_row = refl

  later_rows : (x : CollectionLength) (l : List CollectionLength) → c ≤ x.collection → x.collection ≢ c → All (λ y. lex_less (length_key x) (length_key y) ≡ true) l → length_found c (x ∷ l) ≡ none
  unfolding length_found length_key
  later_rows x l h n k =
      let first = less x h n in
      ap (Option.map (λ (y : CollectionLength). y.length)) (lookup_below length_key (c ∷ []) (x ∷ l) (first, above length_key (length_record c 1) x l first k))

  count_own : (l : List CollectionLength) → All (λ (x : CollectionLength). c ≤ x.collection) l → Ascending length_key l → length_found c (count_one c l) ≡ some (suc (length_of c l))
  unfolding count_one length_of
  count_own [] h g = found_here (length_record c 1) [] ∙ ap (λ o. some (suc (or_zero o))) (sym no_row)
  count_own (x ∷ l) h g = test_cases (eqb x.collection c)
      (λ t. rw t (found_here (length_record c (suc x.length)) l ∙ ap (λ o. some (suc (or_zero o))) (sym (subst (λ (b : ℕ). length_found b (x ∷ l) ≡ some x.length) (eqb-true x.collection c t) (found_here x l)))))
      (λ t. rw t (found_here (length_record c 1) (x ∷ l) ∙ ap (λ o. some (suc (or_zero o))) (sym (later_rows x l h.0 (eqb-false x.collection c t) g.0))))

  count_other : (d : ℕ) (l : List CollectionLength) → d ≢ c → length_found c (count_one d l) ≡ length_found c l
  unfolding count_one
  count_other d [] n = found_past c (length_record d 1) [] n
  count_other d (x ∷ l) n = test_cases (eqb x.collection d)
      (λ t. rw t (found_past c (length_record d (suc x.length)) l n ∙ sym (found_past c x l (λ e. n (sym (eqb-true x.collection d t) ∙ e)))))
      (λ t. rw t (found_past c (length_record d 1) (x ∷ l) n))

abbrev of : List Entry → List ℕ
of es = map (λ (e : Entry). e.collection) es

runs_ascend : (es : List Entry) → Grouped es → Ascending length_key (runs (of es))
unfolding runs
runs_ascend [] g = tt
runs_ascend (x ∷ es) g = count_ascends x.collection (runs (of es)) (runs_all (λ c. x.collection ≤ c) (of es) (behind_all x es g.0)) (runs_ascend es g.1)

runs_found : (c : ℕ) (es : List Entry) → Grouped es → length_found c (runs (of es)) ≡ non_zero (length (entries_in c es))
unfolding runs length_of entries_in
runs_found c [] g = no_row c
runs_found c (x ∷ es) g = test_cases (eqb x.collection c) (λ t. own (eqb-true x.collection c t) (runs_found c es g.1)) (λ t. other (eqb-false x.collection c t) (runs_found c es g.1))
  where
    own : x.collection ≡ c → length_found c (runs (of es)) ≡ non_zero (length (entries_in c es)) → length_found c (runs (of (x ∷ es))) ≡ non_zero (length (entries_in c (x ∷ es)))
    own e ih =
        subst (λ (b : ℕ). length_found b (runs (of es)) ≡ non_zero (length (entries_in b es)) → length_found b (runs (of (x ∷ es))) ≡ non_zero (length (entries_in b (x ∷ es)))) e
        (λ h. count_own x.collection (runs (of es)) (runs_all (λ d. x.collection ≤ d) (of es) (behind_all x es g.0)) (runs_ascend es g.1)
        ∙ ap (λ o. some (suc (or_zero o))) h ∙ ap (λ (n : ℕ). some (suc n)) (or_zero_lem (length (entries_in x.collection es)))
        ∙ ap (λ l. non_zero (length l)) (sym (entries_in_own x es))) ih

    other : x.collection ≢ c → length_found c (runs (of es)) ≡ non_zero (length (entries_in c es)) → length_found c (runs (of (x ∷ es))) ≡ non_zero (length (entries_in c (x ∷ es)))
    other n ih = count_other c x.collection (runs (of es)) n ∙ ih ∙ ap (λ l. non_zero (length l)) (sym (entries_in_other c x es n))

pub runs_lengths : (es : List Entry) → Grouped es → runs (of es) ≡ lengths_in es
runs_lengths es g = lengths_determined (runs (of es)) (lengths_in es) (runs_ascend es g) (lengths_ascend es) (λ c. runs_found c es g ∙ sym (lengths_found c es))
