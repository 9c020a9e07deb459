-- The definitions of the operations on a collection, by positions among the stored entries.
use Rattle.std.specs.Prelude.{ℕ, zero, suc, ◌-◌, ◌≤◌, ◌<◌, Bool, true, ◌||◌, eqb, ltb, leb, length, get_or, if◌then◌else◌}
use Rattle.std.proofs.Math.Path.{◌≡◌, refl, ap}
use Rattle.std.proofs.Common.{sym, ap₂, ◌∙◌, subst, add-one, eqb-true, ltb-true, ltb-false, lt-ltb, le-ltb}
use Rattle.std.proofs.Math.Bool.{false}
use Rattle.std.proofs.lemmas.Bool.{false≢true, eqb-false}
use mathlib.Core.List.{List, [], ◌∷◌, map}
use Rattle.std.proofs.Math.Option.{Option, none, some}
use native.Mathlib.Omega.{arith}
use Rattle.spec_lists.specs.Lists.{any}
use Rattle.spec_lists.proofs.ListLaws.{test_cases, or_left, or_right}
use Rattle.spec_patch.specs.Sizes.{projection_entries}
use Rattle.spec_projection.specs.Projection.{Entry, Projection}
use Rattle.spec_projection.specs.FirstMatch as first
use Rattle.spec_projection.specs.FirstMatch.{insert_before_first, replace_first, remove_first}
use Rattle.spec_projection.specs.Entries.{is_entry, is_later, contains, contains_neighbour, insert_last, insert_before, insert_entry, replace_entry, remove_entry}
use Rattle.spec_projection.proofs.EntriesLaws.{is_entry_collection, is_entry_key, remove_entry_gone}
use Rattle.spec_projection.specs.Valid.{Grouped}
use Rattle.spec_projection.specs.Apply.{key_rule, projection_full, done, stopped, with_entries, apply_insert, apply_update, apply_remove, apply_move}
use Rattle.bytes_records.specs.Positions.{insert_at, remove_at, replace_at, first_index}
use Rattle.bytes_records.specs.PositionsLaws.{insert_first, remove_first_lem, replace_first_lem, any_lt}
use Rattle.bytes_records.specs.Search.{find_first_row}
use Rattle.bytes_records.specs.SearchLaws.{find_at, find_absent, find_stopped}
use Rattle.panel_plan.specs.PlanRows.{planned_entry_row}
use Rattle.panel_entries.specs.Places.{neighbour_of, is_placed, neighbour_key, place_before, is_itself, place_before_other, without_at}
use Rattle.std.specs.Prelude.{Some, None}

-- a test and a number tell the neighbour
neighbour_told : (b : Option ℕ) → neighbour_of (is_placed b) (neighbour_key b) ≡ b
unfolding neighbour_of is_placed neighbour_key
neighbour_told none = refl
neighbour_told (some k) = refl

pub neighbour_is : {b : Option ℕ} {placed : Bool} {k : ℕ} → placed ≡ is_placed b → k ≡ neighbour_key b → neighbour_of placed k ≡ b
neighbour_is {b} e f = ap₂ neighbour_of e f ∙ neighbour_told b

-- ---- edits at the first match are edits at its position

module _ {A : Type 0} (test : A → Bool) where
  insert_at_first : (a : A) (l : List A) → insert_before_first test a l ≡ insert_at (first_index test l) a l
  unfolding insert_before_first
  insert_at_first a l = insert_first test (insert_before_first test a) a refl (λ x xs. refl) l

  remove_at_first : (l : List A) → remove_first test l ≡ remove_at (first_index test l) l
  unfolding remove_first
  remove_at_first l = remove_first_lem test (remove_first test) refl (λ x xs. refl) l

  replace_at_first : (a : A) (l : List A) → any test l ≡ true → replace_first test a l ≡ replace_at (first_index test l) a l
  unfolding replace_first
  replace_at_first a l h = replace_first_lem test (replace_first test a) a (λ x xs. refl) l h

-- ---- update and remove

module _ (p : Projection) where
  pub update_found : (e : Entry) (i : ℕ) → find_first_row (is_entry e.collection e.key) p.entries ≡ Some i → apply_update p e ≡ done (with_entries p (replace_at i e p.entries))
  unfolding apply_update contains replace_entry
  update_found e i h =
      let f = find_at (is_entry e.collection e.key) p.entries i h in
      rw (f.2, f.0) (ap (λ es. done (with_entries p es)) (replace_at_first (is_entry e.collection e.key) e p.entries f.2))

  pub update_absent : (e : Entry) → find_first_row (is_entry e.collection e.key) p.entries ≡ None → apply_update p e ≡ stopped key_rule
  unfolding apply_update contains
  update_absent e h = rw (find_absent (is_entry e.collection e.key) p.entries h)

  pub remove_found : (c k i : ℕ) → find_first_row (is_entry c k) p.entries ≡ Some i → apply_remove p c k ≡ done (with_entries p (remove_at i p.entries))
  unfolding apply_remove contains remove_entry
  remove_found c k i h =
      let f = find_at (is_entry c k) p.entries i h in
      rw (f.2, f.0) (ap (λ es. done (with_entries p es)) (remove_at_first (is_entry c k) p.entries))

  pub remove_absent : (c k : ℕ) → find_first_row (is_entry c k) p.entries ≡ None → apply_remove p c k ≡ stopped key_rule
  unfolding apply_remove contains
  remove_absent c k h = rw (find_absent (is_entry c k) p.entries h)

-- ---- insert

-- the neighbour is there, and the entry goes to its position
pub neighbour_at : (before : Option ℕ) (e : Entry) (es : List Entry) (i : ℕ) → place_before e.collection before es ≡ Some i
    → (contains_neighbour e.collection before es ≡ true) × (insert_entry before e es ≡ insert_at i e es)
unfolding place_before contains_neighbour contains insert_entry insert_last insert_before
neighbour_at none e es i h =
    let same : first_index (is_later e.collection) es ≡ i = cc in
    (refl, insert_at_first (is_later e.collection) e es ∙ ap (λ n. insert_at n e es) same)
neighbour_at (some k) e es i h =
    let f = find_at (is_entry e.collection k) es i h in
    (f.2, insert_at_first (is_entry e.collection k) e es ∙ ap (λ n. insert_at n e es) (sym f.0))

pub neighbour_absent_lem : (c : ℕ) (before : Option ℕ) (es : List Entry) → place_before c before es ≡ None → contains_neighbour c before es ≡ false
unfolding place_before contains_neighbour contains
neighbour_absent_lem c none es h = let z : ◌≡◌ {A = ℕ} 0 1 = cc in absurd (omega arith)
neighbour_absent_lem c (some k) es h = find_absent (is_entry c k) es h

module _ (p : Projection) (before : Option ℕ) (e : Entry) where
  pub insert_present : (i : ℕ) → find_first_row (is_entry e.collection e.key) p.entries ≡ Some i → apply_insert p before e ≡ stopped key_rule
  unfolding apply_insert contains
  insert_present i h = rw (find_at (is_entry e.collection e.key) p.entries i h).2

  module _ (absent : find_first_row (is_entry e.collection e.key) p.entries ≡ None) where
    pub insert_no_neighbour : place_before e.collection before p.entries ≡ None → apply_insert p before e ≡ stopped key_rule
    unfolding apply_insert contains
    insert_no_neighbour h = rw (find_absent (is_entry e.collection e.key) p.entries absent, neighbour_absent_lem e.collection before p.entries h)

    pub insert_there : (i : ℕ) → place_before e.collection before p.entries ≡ Some i
        → apply_insert p before e ≡ (if leb (length (insert_at i e p.entries)) projection_entries then done (with_entries p (insert_at i e p.entries)) else stopped projection_full)
    unfolding apply_insert contains
    insert_there i h =
        let n = neighbour_at before e p.entries i h in
        rw (find_absent (is_entry e.collection e.key) p.entries absent, n.0, n.1)

-- ---- move: the entry is taken out first

-- an element that does not pass is taken out: the first that passes is the same one
pub first_without : {A : Type 0} (test : A → Bool) (l : List A) (i : ℕ) (d : A) → i < length l → test (get_or l i d) ≡ false → first_index test (remove_at i l) ≡ without_at i (first_index test l)
unfolding first_index without_at
first_without test [] i d h e = absurd (omega arith)
first_without test (x ∷ l) zero d h e =
    let less : suc (first_index test l) - 1 ≡ first_index test l = omega arith in
    rw (e, lt-ltb 0 (suc (first_index test l)) (omega arith)) (sym less)
first_without test (x ∷ l) (suc i) d h e = test_cases (test x)
    (λ f. rw (add-one, f, le-ltb (suc i) 0 (omega arith)))
    (λ f. rw (add-one, f) (ap suc (rw add-one at (first_without test l i d (omega arith) e)) ∙ further i (first_index test l)))
  where
    further : (i n : ℕ) → suc (if ltb i n then n - 1 else n) ≡ (if ltb (suc i) (suc n) then suc n - 1 else suc n)
    further i n = test_cases (ltb i n)
        (λ f. let less : i < n = ltb-true i n f in
        rw (f, lt-ltb (suc i) (suc n) (omega arith)) (omega arith))
        (λ f. let more : n ≤ i = ltb-false i n f in
        rw (f, le-ltb (suc i) (suc n) (omega arith)))

-- and others pass as before
any_without : {A : Type 0} (test : A → Bool) (l : List A) (i : ℕ) (d : A) → i < length l → test (get_or l i d) ≡ false → any test (remove_at i l) ≡ any test l
any_without test [] i d h e = absurd (omega arith)
any_without test (x ∷ l) zero d h e = rw e
any_without test (x ∷ l) (suc i) d h e = rw add-one (ap (λ t. test x || t) (rw add-one at (any_without test l i d (omega arith) e)))

-- what a search found, as an element and as its image
pub record FoundAt {A : Type 0} (test : A → Bool) {B : Type 0} (f : A → B) (l : List A) (i : ℕ) : Type 0 where
  pub element : A
  pub passes : test element ≡ true
  pub found : first.find_first test l ≡ some element
  pub at : (d : A) → get_or l i d ≡ element
  pub image : (d : B) → get_or (map f l) i d ≡ f element
  pub below : i < length l

module _ {A : Type 0} (test : A → Bool) {B : Type 0} (f : A → B) where
  first_found : (l : List A) → any test l ≡ true → FoundAt test f l (first_index test l)
  unfolding first_index first.find_first
  first_found [] h = absurd (false≢true h)
  first_found (x ∷ l) h = test_cases (test x)
      (λ e. rw e (record { element = x; passes = e; found = rw e; at = λ d. refl; image = λ d. refl; below = omega arith }))
      (λ e. let r = first_found l (rw e at h) in
      rw e (record { element = r.element; passes = r.passes; found = rw e r.found; at = r.at; image = r.image; below = omega (arith, r.below) }))

  pub found_at : (l : List A) (i : ℕ) → find_first_row test l ≡ Some i → FoundAt test f l i
  found_at l i h =
      let g = find_at test l i h in
      subst (FoundAt test f l) (sym g.0) (first_found l g.2)

pub found_none : {A : Type 0} (test : A → Bool) (l : List A) → any test l ≡ false → first.find_first test l ≡ none
unfolding first.find_first
found_none test [] h = refl
found_none test (x ∷ l) h = rw (or_left (test x) (any test l) h) (found_none test l (or_right (test x) (any test l) h))

-- an entry is not one of another key, nor of a later collection
other_key : (c k b : ℕ) (e : Entry) → is_entry c k e ≡ true → eqb b k ≡ false → is_entry c b e ≡ false
other_key c k b e is n = test_cases (is_entry c b e) (λ f. absurd (eqb-false b k n (sym (is_entry_key c b e f) ∙ is_entry_key c k e is))) (λ f. f)

not_later : (c k : ℕ) (e : Entry) → is_entry c k e ≡ true → is_later c e ≡ false
unfolding is_later
not_later c k e is = le-ltb c e.collection (omega (arith, is_entry_collection c k e is))

module _ (c k : ℕ) (es : List Entry) (i : ℕ) (g : FoundAt (is_entry c k) planned_entry_row es i) where
  -- the neighbour's place once the entry is taken out
  place_without : (before : Option ℕ) (j : ℕ) → is_itself k before ≡ false → place_before c before es ≡ Some j → place_before c before (remove_at i es) ≡ Some (without_at i j)
  unfolding place_before is_itself
  place_without none j n h =
      let same : first_index (is_later c) es ≡ j = cc in
      ap Some (first_without (is_later c) es i g.element g.below (rw (g.at g.element) (not_later c k g.element g.passes)) ∙ ap (without_at i) same)
  place_without (some b) j n h =
      let f = find_at (is_entry c b) es j h in
      let fails : is_entry c b (get_or es i g.element) ≡ false = rw (g.at g.element) (other_key c k b g.element g.passes n) in
      let index : first_index (is_entry c b) (remove_at i es) ≡ without_at i j = first_without (is_entry c b) es i g.element g.below fails ∙ ap (without_at i) (sym f.0) in
      find_stopped (is_entry c b) (remove_at i es) (without_at i j) index
      (omega (arith, any_lt (is_entry c b) (remove_at i es) (any_without (is_entry c b) es i g.element g.below fails ∙ f.2)))

  -- the neighbour is gone, or was not there
  none_without : Grouped es → remove_entry c k es ≡ remove_at i es → (before : Option ℕ) → place_before_other c k before es ≡ None → contains_neighbour c before (remove_at i es) ≡ false
  unfolding place_before_other place_before is_itself contains_neighbour contains
  none_without ordered out none h = let z : ◌≡◌ {A = ℕ} 0 1 = cc in absurd (omega arith)
  none_without ordered out (some b) h = test_cases (eqb b k)
      (λ f. rw (eqb-true b k f, ← out) (remove_entry_gone c k es ordered))
      (λ f. any_without (is_entry c b) es i g.element g.below (rw (g.at g.element) (other_key c k b g.element g.passes f))
      ∙ find_absent (is_entry c b) es (rw f at h))

module _ (p : Projection) (ordered : Grouped p.entries) (c k : ℕ) (before : Option ℕ) where
  pub move_absent : find_first_row (is_entry c k) p.entries ≡ None → apply_move p before (first.find_first (is_entry c k) p.entries) ≡ stopped key_rule
  unfolding apply_move
  move_absent h = rw (found_none (is_entry c k) p.entries (find_absent (is_entry c k) p.entries h))

  module _ (i : ℕ) (there : find_first_row (is_entry c k) p.entries ≡ Some i) where
    abbrev pub moved : FoundAt (is_entry c k) planned_entry_row p.entries i
    moved = found_at (is_entry c k) planned_entry_row p.entries i there

    own_collection : moved.element.collection ≡ c
    own_collection = is_entry_collection c k moved.element moved.passes

    out : remove_entry c k p.entries ≡ remove_at i p.entries
    unfolding remove_entry
    out = remove_at_first (is_entry c k) p.entries ∙ ap (λ n. remove_at n p.entries) (sym (find_at (is_entry c k) p.entries i there).0)

    rest_is : remove_entry moved.element.collection moved.element.key p.entries ≡ remove_at i p.entries
    rest_is = ap₂ (λ x y. remove_entry x y p.entries) own_collection (is_entry_key c k moved.element moved.passes) ∙ out

    pub move_no_neighbour : place_before_other c k before p.entries ≡ None → apply_move p before (first.find_first (is_entry c k) p.entries) ≡ stopped key_rule
    unfolding apply_move
    move_no_neighbour h =
        rw (moved.found, rest_is, own_collection, none_without c k p.entries i moved ordered out before h)

    pub move_there : (j : ℕ) → place_before_other c k before p.entries ≡ Some j
        → apply_move p before (first.find_first (is_entry c k) p.entries) ≡ done (with_entries p (insert_at (without_at i j) moved.element (remove_at i p.entries)))
    unfolding apply_move place_before_other
    move_there j h =
        let other : is_itself k before ≡ false = test_cases (is_itself k before) (λ f. let z : ◌≡◌ {A = ℕ} 0 1 = cc (rw f at h) in absurd (omega arith)) (λ f. f) in
        let place = place_without c k p.entries i moved before j other (rw other at h) in
        let n = neighbour_at before moved.element (remove_at i p.entries) (without_at i j) (rw own_collection place) in
        rw (moved.found, rest_is, n.0, n.1)
