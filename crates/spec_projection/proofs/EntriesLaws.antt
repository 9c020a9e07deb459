-- Inserting, replacing and removing an entry keep the stored order of entries.
use Rattle.std.specs.Prelude.{ℕ, suc, ◌≤◌, ◌<◌, ◌≡◌, refl, Bool, true, false, List, [], ◌∷◌, eqb, length}
use Rattle.std.proofs.Common.{sym, arith, ltb-true, ltb-false, eqb-true, eq-eqb}
use Rattle.std.proofs.lemmas.Bool.{false≢true}
use Rattle.std.proofs.Math.Option.{Option, none, some}
use Rattle.spec_lists.specs.Lists.{any, All}
use Rattle.spec_lists.proofs.ListLaws.{and_left, and_right, or_left, or_right, or_second, all_map, test_cases}
use Rattle.spec_projection.specs.Projection.{Entry}
use Rattle.spec_projection.specs.FirstMatch.{find_first, insert_before_first, replace_first, remove_first}
use Rattle.spec_projection.proofs.FirstMatchLaws.{find_first_passes, find_first_any, insert_before_first_all, insert_before_first_length, replace_first_all, replace_first_length, remove_first_all, remove_first_length}
use Rattle.spec_projection.specs.Entries.{is_entry, is_later, contains, contains_neighbour, insert_last, insert_before, insert_entry, replace_entry, remove_entry}
use Rattle.spec_projection.specs.Valid.{Behind, Grouped}

-- ---- being the entry of a collection and key

pub is_entry_collection : (c k : ℕ) (e : Entry) → is_entry c k e ≡ true → e.collection ≡ c
unfolding is_entry
is_entry_collection c k e h = eqb-true e.collection c (and_left _ _ h)

pub is_entry_key : (c k : ℕ) (e : Entry) → is_entry c k e ≡ true → e.key ≡ k
unfolding is_entry
is_entry_key c k e h = eqb-true e.key k (and_right (eqb e.collection c) _ h)

pub entry_is : (c k : ℕ) (e : Entry) → e.collection ≡ c → e.key ≡ k → is_entry c k e ≡ true
unfolding is_entry
entry_is c k e p q = rw (eq-eqb e.collection c p, eq-eqb e.key k q)

-- ---- being of a later collection

pub later_above : (c : ℕ) (e : Entry) → is_later c e ≡ true → c < e.collection
unfolding is_later
later_above c e h = ltb-true c e.collection h

pub not_later_below : (c : ℕ) (e : Entry) → is_later c e ≡ false → e.collection ≤ c
unfolding is_later
not_later_below c e h = ltb-false c e.collection h

-- ---- an entry that is inserted

-- two entries differ, seen from either
entry_sym : (x e : Entry) → is_entry e.collection e.key x ≡ false → is_entry x.collection x.key e ≡ false
entry_sym x e h = test_cases (is_entry x.collection x.key e) (λ f. cc (f, h, entry_is e.collection e.key x (sym (is_entry_collection x.collection x.key e f)) (sym (is_entry_key x.collection x.key e f)))) (λ f. f)

-- first of a list whose collections are not earlier
insert_here : (e x : Entry) (l : List Entry) → e.collection ≤ x.collection → contains e.collection e.key (x ∷ l) ≡ false → Grouped (x ∷ l) → Grouped (e ∷ x ∷ l)
unfolding contains
insert_here e x l le n h = (new (x ∷ l) (le, all_map (Behind x) Later (λ y b. omega (arith, b.collection)) l h.0) n, h)
  where
    Later : Entry → Type 0
    Later y = e.collection ≤ y.collection

    new : (l : List Entry) → All Later l → contains e.collection e.key l ≡ false → All (Behind e) l
    new [] k n = tt
    new (y ∷ l) k n = (record { collection = k.0; other = or_left _ _ n }, new l k.1 (or_right (is_entry e.collection e.key y) _ n))

-- further on, behind an entry of no later collection
insert_further : (test : Entry → Bool) (e x : Entry) (l : List Entry) → x.collection ≤ e.collection → is_entry e.collection e.key x ≡ false → All (Behind x) l
    → Grouped (insert_before_first test e l) → Grouped (x ∷ insert_before_first test e l)
insert_further test e x l le n h g = (insert_before_first_all test (Behind x) e l (record { collection = le; other = entry_sym x e n }) h, g)

pub insert_last_grouped : (e : Entry) (l : List Entry) → contains e.collection e.key l ≡ false → Grouped l → Grouped (insert_last e l)
unfolding insert_last insert_before_first contains
insert_last_grouped e [] n h = (tt, tt)
insert_last_grouped e (x ∷ l) n h = test_cases (is_later e.collection x)
    (λ f. rw f (insert_here e x l (omega (arith, later_above e.collection x f)) n h))
    (λ f. rw f (insert_further (is_later e.collection) e x l (not_later_below e.collection x f) (or_left _ _ n) h.0 (insert_last_grouped e l (or_right (is_entry e.collection e.key x) _ n) h.1)))

-- an entry that stands behind another is of no earlier collection
behind_collection : (x : Entry) (c k : ℕ) (l : List Entry) → contains c k l ≡ true → All (Behind x) l → x.collection ≤ c
unfolding contains
behind_collection x c k [] n h = absurd (false≢true n)
behind_collection x c k (y ∷ l) n h = test_cases (is_entry c k y)
    (λ f. omega (arith, h.0.collection, is_entry_collection c k y f))
    (λ f. behind_collection x c k l (or_second _ _ n f) h.1)

pub insert_before_grouped : (k : ℕ) (e : Entry) (l : List Entry) → contains e.collection e.key l ≡ false → contains e.collection k l ≡ true → Grouped l → Grouped (insert_before k e l)
unfolding insert_before insert_before_first contains
insert_before_grouped k e [] n m h = (tt, tt)
insert_before_grouped k e (x ∷ l) n m h = test_cases (is_entry e.collection k x)
    (λ f. rw f (insert_here e x l (omega (arith, is_entry_collection e.collection k x f)) n h))
    (λ f. let later = or_second _ _ m f in
    rw f (insert_further (is_entry e.collection k) e x l (behind_collection x e.collection k l later h.0) (or_left _ _ n) h.0 (insert_before_grouped k e l (or_right (is_entry e.collection e.key x) _ n) later h.1)))

pub insert_entry_grouped : (o : Option ℕ) (e : Entry) (l : List Entry) → contains e.collection e.key l ≡ false → contains_neighbour e.collection o l ≡ true → Grouped l → Grouped (insert_entry o e l)
unfolding insert_entry contains_neighbour
insert_entry_grouped none e l n m h = insert_last_grouped e l n h
insert_entry_grouped (some k) e l n m h = insert_before_grouped k e l n m h

-- ---- an entry that is replaced or removed

-- Behind looks at collection and key alone
behind_same : (x y z : Entry) → y.collection ≡ z.collection → y.key ≡ z.key → Behind x y → Behind x z
unfolding is_entry
behind_same x y z p q b = record { collection = rw p at b.collection; other = rw (← p, ← q) b.other }

same_behind : (x y z : Entry) → x.collection ≡ z.collection → x.key ≡ z.key → Behind x y → Behind z y
same_behind x y z p q b = record { collection = rw p at b.collection; other = rw (← p, ← q) b.other }

pub replace_entry_grouped : (e : Entry) (l : List Entry) → Grouped l → Grouped (replace_entry e l)
unfolding replace_entry replace_first
replace_entry_grouped e [] h = tt
replace_entry_grouped e (x ∷ l) h = test_cases (is_entry e.collection e.key x)
    (λ f. rw f (all_map (Behind x) (Behind e) (λ y. same_behind x y e (is_entry_collection _ _ x f) (is_entry_key _ _ x f)) l h.0, h.1))
    (λ f. rw f (replace_first_all (is_entry e.collection e.key) (Behind x) e l (λ y g. behind_same x y e (is_entry_collection _ _ y g) (is_entry_key _ _ y g)) h.0, replace_entry_grouped e l h.1))

pub remove_entry_grouped : (c k : ℕ) (l : List Entry) → Grouped l → Grouped (remove_entry c k l)
unfolding remove_entry remove_first
remove_entry_grouped c k [] h = tt
remove_entry_grouped c k (x ∷ l) h = test_cases (is_entry c k x) (λ f. rw f h.1) (λ f. rw f (remove_first_all (is_entry c k) (Behind x) l h.0, remove_entry_grouped c k l h.1))

-- an entry that was removed is gone
pub remove_entry_gone : (c k : ℕ) (l : List Entry) → Grouped l → contains c k (remove_entry c k l) ≡ false
unfolding remove_entry remove_first contains
remove_entry_gone c k [] h = refl
remove_entry_gone c k (x ∷ l) h = test_cases (is_entry c k x)
    (λ f. rw f (rw (is_entry_collection c k x f, is_entry_key c k x f) at (none_behind x l h.0)))
    (λ f. rw (f, f) (remove_entry_gone c k l h.1))
  where
    none_behind : (x : Entry) (l : List Entry) → All (Behind x) l → any (is_entry x.collection x.key) l ≡ false
    none_behind x [] h = refl
    none_behind x (y ∷ l) h = rw h.0.other (none_behind x l h.1)

-- an entry that was found is stored
pub found_contains : (c k : ℕ) (l : List Entry) (e : Entry) → find_first (is_entry c k) l ≡ some e → contains e.collection e.key l ≡ true
unfolding contains
found_contains c k l e h =
    let is = find_first_passes (is_entry c k) l e h in
    rw (is_entry_collection c k e is, is_entry_key c k e is) (find_first_any (is_entry c k) l e h)

-- ---- properties of all entries, and lengths

pub insert_entry_all : (P : Entry → Type 0) (o : Option ℕ) (e : Entry) (l : List Entry) → P e → All P l → All P (insert_entry o e l)
unfolding insert_entry insert_last insert_before
insert_entry_all P none e l p h = insert_before_first_all (is_later e.collection) P e l p h
insert_entry_all P (some k) e l p h = insert_before_first_all (is_entry e.collection k) P e l p h

pub insert_entry_length : (o : Option ℕ) (e : Entry) (l : List Entry) → length (insert_entry o e l) ≡ suc (length l)
unfolding insert_entry insert_last insert_before
insert_entry_length none e l = insert_before_first_length (is_later e.collection) e l
insert_entry_length (some k) e l = insert_before_first_length (is_entry e.collection k) e l

pub replace_entry_all : (P : Entry → Type 0) (e : Entry) (l : List Entry) → P e → All P l → All P (replace_entry e l)
unfolding replace_entry
replace_entry_all P e l p h = replace_first_all (is_entry e.collection e.key) P e l (λ y f g. p) h

pub replace_entry_length : (e : Entry) (l : List Entry) → length (replace_entry e l) ≡ length l
unfolding replace_entry
replace_entry_length e l = replace_first_length (is_entry e.collection e.key) e l

pub remove_entry_all : (P : Entry → Type 0) (c k : ℕ) (l : List Entry) → All P l → All P (remove_entry c k l)
unfolding remove_entry
remove_entry_all P c k l h = remove_first_all (is_entry c k) P l h

pub remove_entry_length : (c k : ℕ) (l : List Entry) → contains c k l ≡ true → suc (length (remove_entry c k l)) ≡ length l
unfolding remove_entry contains
remove_entry_length c k l h = remove_first_length (is_entry c k) l h
