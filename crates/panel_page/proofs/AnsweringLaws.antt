-- Laws of the rows of a page while the entries go by.
use Rattle.std.specs.Prelude.{ℕ, zero, suc, ◌+◌, ◌≤◌, ◌<◌, ◌≡◌, true, false, eqb, length, get_or}
use Rattle.std.proofs.Math.Path.{refl, ap}
use Rattle.std.proofs.Common.{sym, ◌∙◌, zero-add, add-one, arith, eqb-true, eq-eqb, ne_eqb, length-append, drop-cons, take_at, drop_at, length-take-le}
use mathlib.Core.List.{List, [], ◌∷◌, ◌++◌, map, map-append, append-nil}
use Rattle.std.proofs.Math.Option.{none, some}
use Rattle.std.proofs.lemmas.Bool.{eqb-false}
use Rattle.std.proofs.Math.ListN.{take, drop}
use Rattle.std.proofs.lemmas.List.{length-map}
use Rattle.std.proofs.Math.Seq.{take-suc, take-length, drop-length, append_snoc}
use Rattle.spec_lists.proofs.ListLaws.{test_cases, all_member, get_or_member}
use Rattle.spec_projection.specs.Projection.{Entry}
use Rattle.spec_projection.specs.Entries.{is_entry}
use Rattle.spec_projection.specs.Lookups.{KeyedValue, keyed_value, entries_in}
use Rattle.spec_projection.specs.Valid.{Behind, Grouped}
use Rattle.spec_page.specs.Page.{positioned, find_from}
use Rattle.bytes_records.specs.Positions.{replace_at}
use Rattle.panel_page.specs.PageTable.{answer_row}
use Rattle.panel_page.specs.Index.{index_place_of, last_below}
use Rattle.panel_page.proofs.IndexLaws.{last_le, last_passes}
use Rattle.panel_page.specs.Answering.{answering, mixed, page_answer_of, answers_in}

-- ---- rows that are written from the last key to the first

module _ (f g : ℕ → List ℕ) (keys : List ℕ) where
  pub mixed_start : mixed f g keys (length keys) ≡ map f keys
  unfolding mixed
  mixed_start = rw (take-length, drop-length, append-nil)

  pub mixed_end : mixed f g keys 0 ≡ map g keys
  unfolding mixed
  mixed_end = refl

  module _ (i : ℕ) (below : i < length keys) where
    abbrev own : ℕ
    own = get_or keys i 0

    -- with key i by f
    before_own : mixed f g keys (i + 1) ≡ map f (take i keys) ++ f own ∷ map g (drop (i + 1) keys)
    unfolding mixed
    before_own =
        ap (λ (l : List ℕ). map f l ++ map g (drop (i + 1) keys)) (ap (λ (n : ℕ). take n keys) (add-one i) ∙ take-suc keys i 0 below)
        ∙ ap (λ (l : List (List ℕ)). l ++ map g (drop (i + 1) keys)) (map-append f (take i keys) (own ∷ []))
        ∙ append_snoc (map f (take i keys)) (f own) (map g (drop (i + 1) keys))

    -- with key i by g
    after_own : mixed f g keys i ≡ map f (take i keys) ++ g own ∷ map g (drop (i + 1) keys)
    unfolding mixed
    after_own = ap (λ (l : List ℕ). map f (take i keys) ++ map g l) (drop-cons keys i 0 below ∙ ap (λ (n : ℕ). own ∷ drop n keys) (sym (add-one i)))

    pub mixed_same : f own ≡ g own → mixed f g keys (i + 1) ≡ mixed f g keys i
    mixed_same e = before_own ∙ ap (λ (r : List ℕ). map f (take i keys) ++ r ∷ map g (drop (i + 1) keys)) e ∙ sym after_own

    pub mixed_replaced : (r : List ℕ) → g own ≡ r → replace_at i r (mixed f g keys (i + 1)) ≡ mixed f g keys i
    mixed_replaced r e =
        let front : length (map f (take i keys)) ≡ i = length-map (take i keys) f ∙ length-take-le i keys (omega arith) in
        let one : length (map f (take i keys) ++ f own ∷ []) ≡ i + 1 = length-append (map f (take i keys)) (f own ∷ []) ∙ omega arith in
        let rest = map g (drop (i + 1) keys) in
        ap (replace_at i r) before_own
        ∙ ap (λ (l : List (List ℕ)). l ++ r ∷ drop (i + 1) (map f (take i keys) ++ f own ∷ rest)) (take_at (map f (take i keys)) (f own ∷ rest) i front)
        ∙ ap (λ (l : List (List ℕ)). map f (take i keys) ++ r ∷ l) (ap (drop (i + 1)) (sym (append_snoc (map f (take i keys)) (f own) rest)) ∙ drop_at (map f (take i keys) ++ f own ∷ []) rest (i + 1) one)
        ∙ ap (λ (x : List ℕ). map f (take i keys) ++ x ∷ rest) (sym e) ∙ sym after_own

  -- keys for which f and g agree are passed over
  pub mixed_passed : (i j : ℕ) → i ≤ j → j ≤ length keys → ((m : ℕ) → i ≤ m → m < j → f (get_or keys m 0) ≡ g (get_or keys m 0)) → mixed f g keys j ≡ mixed f g keys i
  mixed_passed i zero h k same = let e : i ≡ 0 = omega arith in ap (mixed f g keys) (sym e)
  mixed_passed i (suc j) h k same = test_cases (eqb i (suc j))
      (λ t. ap (mixed f g keys) (sym (eqb-true i (suc j) t)))
      (λ t. let low : i ≤ j = omega (arith, eqb-false i (suc j) t) in
      ap (mixed f g keys) (sym (add-one j)) ∙ mixed_same j (omega arith) (same j low (omega arith)) ∙ mixed_passed i j low (omega arith) (λ m a b. same m a (omega arith)))

-- ---- a key's row, and the others

module _ (key : ℕ) (row : List ℕ) (f : ℕ → List ℕ) (k : ℕ) where
  pub answering_own : k ≡ key → answering key row f k ≡ row
  unfolding answering
  answering_own e = rw (eq-eqb key k (sym e))

  pub answering_other : (k ≡ key → ⊥) → f k ≡ answering key row f k
  unfolding answering
  answering_other n = rw (ne_eqb key k (λ e. n (sym e)))

-- a chain passes over keys that are not this one
pub chain_passed : (keys : List ℕ) (key : ℕ) (row : List ℕ) (f : ℕ → List ℕ) (n : ℕ) → n ≤ length keys
    → mixed f (answering key row f) keys n ≡ mixed f (answering key row f) keys (last_below (index_place_of key) keys n)
chain_passed keys key row f n within =
    mixed_passed f (answering key row f) keys (last_below (index_place_of key) keys n) n (last_le (index_place_of key) keys n) within
    (λ m low high. answering_other key row f (get_or keys m 0) (λ e. last_passes (index_place_of key) keys n m low high (ap index_place_of e)))

-- ---- one more entry

entries_behind : (c : ℕ) (l : List Entry) (e : Entry) → entries_in c (l ++ e ∷ []) ≡ entries_in c l ++ entries_in c (e ∷ [])
unfolding entries_in
entries_behind c [] e = refl
entries_behind c (x ∷ l) e = test_cases (eqb x.collection c) (λ t. rw t (ap (λ (r : List KeyedValue). keyed_value x ∷ r) (entries_behind c l e))) (λ t. rw t (entries_behind c l e))

module _ (c : ℕ) (l : List Entry) (e : Entry) where
  pub entries_own : e.collection ≡ c → entries_in c (l ++ e ∷ []) ≡ entries_in c l ++ keyed_value e ∷ []
  unfolding entries_in
  entries_own h = entries_behind c l e ∙ ap (λ (r : List KeyedValue). entries_in c l ++ r) (rw (eq-eqb e.collection c h))

  pub entries_other : (e.collection ≡ c → ⊥) → entries_in c (l ++ e ∷ []) ≡ entries_in c l
  unfolding entries_in
  entries_other h = entries_behind c l e ∙ ap (λ (r : List KeyedValue). entries_in c l ++ r) (rw (ne_eqb e.collection c h)) ∙ append-nil (entries_in c l)

-- another key is found as it was
found_beside : (n k : ℕ) (l : List KeyedValue) (x : KeyedValue) → eqb x.key k ≡ false → find_from n k (l ++ x ∷ []) ≡ find_from n k l
unfolding find_from
found_beside n k [] x h = rw h
found_beside n k (y ∷ l) x h = test_cases (eqb y.key k) (λ t. rw t) (λ t. rw t (found_beside (suc n) k l x h))

-- a key that was absent is found behind all others
found_last : (n k : ℕ) (l : List KeyedValue) (x : KeyedValue) → eqb x.key k ≡ true → find_from n k l ≡ none → find_from n k (l ++ x ∷ []) ≡ some (positioned (n + length l) x)
unfolding find_from
found_last n k [] x h absent = let e : n ≡ n + 0 = omega arith in rw h (ap (λ (m : ℕ). some (positioned m x)) e)
found_last n k (y ∷ l) x h absent = test_cases (eqb y.key k)
    (λ t. absurd (let z : ◌≡◌ {A = ℕ} 0 1 = cc (rw t at absent) in omega arith))
    (λ t. let e : suc n + length l ≡ n + suc (length l) = omega arith in
    rw t (found_last (suc n) k l x h (rw t at absent) ∙ ap (λ (m : ℕ). some (positioned m x)) e))

module _ (c : ℕ) (l : List Entry) (e : Entry) where
  pub answers_other : (e.collection ≡ c → ⊥) → answers_in c (l ++ e ∷ []) ≡ answers_in c l
  unfolding answers_in
  answers_other h = λ i k. answer_row (find_from 0 k (entries_other c l e h i))

  pub answers_own : e.collection ≡ c → find_from 0 e.key (entries_in c l) ≡ none → answers_in c (l ++ e ∷ []) ≡ answering e.key (page_answer_of (length (entries_in c l)) e) (answers_in c l)
  unfolding answers_in answering
  answers_own h absent = λ i k. point k i
    where
      point : (k : ℕ) → answers_in c (l ++ e ∷ []) k ≡ answering e.key (page_answer_of (length (entries_in c l)) e) (answers_in c l) k
      point k = ap (λ (r : List KeyedValue). answer_row (find_from 0 k r)) (entries_own c l e h)
          ∙ test_cases (eqb e.key k)
          (λ t. rw t
          (ap answer_row (found_last 0 k (entries_in c l) (keyed_value e) t (ap (λ (j : ℕ). find_from 0 j (entries_in c l)) (sym (eqb-true e.key k t)) ∙ absent))
          ∙ ap (λ (n : ℕ). page_answer_of n e) (zero-add (length (entries_in c l)))))
          (λ t. rw t (ap answer_row (found_beside 0 k (entries_in c l) (keyed_value e) t)))

-- ---- no key stands twice in a collection

skipped : (c k n : ℕ) (x : Entry) (l : List Entry) → (x.collection ≡ c → eqb x.key k ≡ false) → ((m : ℕ) → find_from m k (entries_in c l) ≡ none) → find_from n k (entries_in c (x ∷ l)) ≡ none
unfolding find_from entries_in
skipped c k n x l other rest = test_cases (eqb x.collection c) (λ t. rw (t, other (eqb-true x.collection c t)) (rest (suc n))) (λ t. rw t (rest n))

-- an entry behind x in x's collection has another key
other_key : (x e : Entry) → Behind x e → x.collection ≡ e.collection → eqb x.key e.key ≡ false
unfolding is_entry
other_key x e b same = ne_eqb x.key e.key (λ k. absurd (let z : ◌≡◌ {A = ℕ} 0 1 = cc (b.other, eq-eqb e.collection x.collection (sym same), eq-eqb e.key x.key (sym k)) in omega arith))

pub absent_before : (c : ℕ) (es : List Entry) (i : ℕ) (d : Entry) → Grouped es → i < length es → (get_or es i d).collection ≡ c → (n : ℕ) → find_from n (get_or es i d).key (entries_in c (take i es)) ≡ none
unfolding find_from entries_in
absent_before c [] i d g h own n = absurd (omega arith)
absent_before c (x ∷ es) zero d g h own n = refl
absent_before c (x ∷ es) (suc i) d g h own n =
    let e = get_or es i d in
    let below : i < length es = omega arith in
    skipped c e.key n x (take i es) (λ s. other_key x e (all_member (Behind x) es g.0 (get_or_member es i d below)) (s ∙ sym own)) (absent_before c es i d g.1 below own)
