-- One collection's list of entries, after an entry is inserted, replaced or removed among those of all collections.
use Rattle.std.specs.Prelude.{ℕ, ◌<◌, ◌≡◌, refl, ◌≢◌, Bool, true, List, [], ◌∷◌, ◌++◌, eqb}
use Rattle.std.proofs.Common.{sym, ap, ◌∙◌, arith, eq-eqb, ne_eqb}
use Rattle.std.proofs.Math.Option.{Option, none, some, map}
use Rattle.spec_lists.specs.Lists.{any, All}
use Rattle.spec_lists.proofs.ListLaws.{test_cases}
use Rattle.spec_projection.specs.Projection.{Entry}
use Rattle.spec_projection.specs.FirstMatch.{find_first, insert_before_first, replace_first, remove_first}
use Rattle.spec_projection.specs.Entries.{is_entry, is_later, contains, insert_last, insert_before, insert_entry, replace_entry, remove_entry}
use Rattle.spec_projection.proofs.EntriesLaws.{is_entry_collection, later_above}
use Rattle.spec_projection.specs.Lookups.{keyed_value, entries_in}
use Rattle.spec_projection.specs.Effects.{has_key, insert_keyed}
use Rattle.spec_projection.specs.Valid.{Behind, Grouped}

-- ---- a list's head

pub entries_in_own : (e : Entry) (l : List Entry) → entries_in e.collection (e ∷ l) ≡ keyed_value e ∷ entries_in e.collection l
unfolding entries_in
entries_in_own e l = rw (eq-eqb e.collection e.collection refl)

pub entries_in_other : (c : ℕ) (e : Entry) (l : List Entry) → e.collection ≢ c → entries_in c (e ∷ l) ≡ entries_in c l
unfolding entries_in
entries_in_other c e l n = rw (ne_eqb e.collection c n)

-- ---- other collections

insert_other : (test : Entry → Bool) (e : Entry) (l : List Entry) (c : ℕ) → e.collection ≢ c → entries_in c (insert_before_first test e l) ≡ entries_in c l
unfolding insert_before_first entries_in
insert_other test e [] c n = entries_in_other c e [] n
insert_other test e (x ∷ l) c n = test_cases (test x) (λ f. rw f (entries_in_other c e (x ∷ l) n)) (λ f. rw (f, insert_other test e l c n))

pub insert_entry_other : (o : Option ℕ) (e : Entry) (l : List Entry) (c : ℕ) → e.collection ≢ c → entries_in c (insert_entry o e l) ≡ entries_in c l
unfolding insert_entry insert_last insert_before
insert_entry_other none e l c n = insert_other (is_later e.collection) e l c n
insert_entry_other (some k) e l c n = insert_other (is_entry e.collection k) e l c n

pub replace_entry_other : (e : Entry) (l : List Entry) (c : ℕ) → e.collection ≢ c → entries_in c (replace_entry e l) ≡ entries_in c l
unfolding replace_entry replace_first entries_in
replace_entry_other e [] c n = refl
replace_entry_other e (x ∷ l) c n = test_cases (is_entry e.collection e.key x)
    (λ f. rw f (entries_in_other c e l n ∙ sym (entries_in_other c x l (λ g. n (sym (is_entry_collection _ _ x f) ∙ g)))))
    (λ f. rw (f, replace_entry_other e l c n))

pub remove_entry_other : (c k : ℕ) (l : List Entry) (d : ℕ) → c ≢ d → entries_in d (remove_entry c k l) ≡ entries_in d l
unfolding remove_entry remove_first entries_in
remove_entry_other c k [] d n = refl
remove_entry_other c k (x ∷ l) d n = test_cases (is_entry c k x)
    (λ f. rw f (sym (entries_in_other d x l (λ g. n (sym (is_entry_collection c k x f) ∙ g)))))
    (λ f. rw (f, remove_entry_other c k l d n))

-- ---- the entry's own collection

-- a list whose collections are all later has none of this one
pub none_later : (c : ℕ) (x : Entry) (l : List Entry) → c < x.collection → All (Behind x) l → entries_in c (x ∷ l) ≡ []
unfolding entries_in
none_later c x l h b = rw (ne_eqb x.collection c (λ e. omega arith)) (rest l b)
  where
    rest : (l : List Entry) → All (Behind x) l → entries_in c l ≡ []
    rest [] b = refl
    rest (y ∷ l) b = rw (ne_eqb y.collection c (λ e. omega (arith, b.0.collection))) (rest l b.1)

insert_last_own : (e : Entry) (l : List Entry) → Grouped l → entries_in e.collection (insert_last e l) ≡ entries_in e.collection l ++ keyed_value e ∷ []
unfolding insert_last insert_before_first entries_in
insert_last_own e [] h = entries_in_own e []
insert_last_own e (x ∷ l) h = test_cases (is_later e.collection x)
    (λ f. rw f (later f))
    (λ f. rw (f, insert_last_own e l h.1) (test_cases (eqb x.collection e.collection) (λ g. rw g) (λ g. rw g)))
  where
    later : is_later e.collection x ≡ true → entries_in e.collection (e ∷ x ∷ l) ≡ entries_in e.collection (x ∷ l) ++ keyed_value e ∷ []
    later f =
        let empty = none_later e.collection x l (later_above e.collection x f) h.0 in
        entries_in_own e (x ∷ l) ∙ ap (λ m. keyed_value e ∷ m) empty ∙ sym (ap (λ m. m ++ keyed_value e ∷ []) empty)

-- where the test of all entries is the test of this collection's list
insert_before_own : (k : ℕ) (e : Entry) (l : List Entry) → entries_in e.collection (insert_before k e l) ≡ insert_before_first (has_key k) (keyed_value e) (entries_in e.collection l)
unfolding insert_before insert_before_first is_entry has_key entries_in
insert_before_own k e [] = entries_in_own e []
insert_before_own k e (x ∷ l) = test_cases (eqb x.collection e.collection)
    (λ f. rw f (test_cases (eqb x.key k) (λ g. rw (g, eq-eqb e.collection e.collection refl, f)) (λ g. rw (g, f, insert_before_own k e l))))
    (λ f. rw (f, f) (insert_before_own k e l))

pub insert_entry_own : (o : Option ℕ) (e : Entry) (l : List Entry) → Grouped l → entries_in e.collection (insert_entry o e l) ≡ insert_keyed o (keyed_value e) (entries_in e.collection l)
unfolding insert_entry insert_keyed
insert_entry_own none e l h = insert_last_own e l h
insert_entry_own (some k) e l h = insert_before_own k e l

pub replace_entry_own : (e : Entry) (l : List Entry) → entries_in e.collection (replace_entry e l) ≡ replace_first (has_key e.key) (keyed_value e) (entries_in e.collection l)
unfolding replace_entry replace_first is_entry has_key entries_in
replace_entry_own e [] = refl
replace_entry_own e (x ∷ l) = test_cases (eqb x.collection e.collection)
    (λ f. rw f (test_cases (eqb x.key e.key) (λ g. rw (g, eq-eqb e.collection e.collection refl)) (λ g. rw (g, f, replace_entry_own e l))))
    (λ f. rw (f, f) (replace_entry_own e l))

pub remove_entry_own : (c k : ℕ) (l : List Entry) → entries_in c (remove_entry c k l) ≡ remove_first (has_key k) (entries_in c l)
unfolding remove_entry remove_first is_entry has_key entries_in
remove_entry_own c k [] = refl
remove_entry_own c k (x ∷ l) = test_cases (eqb x.collection c)
    (λ f. rw f (test_cases (eqb x.key k) (λ g. rw g) (λ g. rw (g, f, remove_entry_own c k l))))
    (λ f. rw (f, f) (remove_entry_own c k l))

pub find_first_own : (c k : ℕ) (l : List Entry) → map keyed_value (find_first (is_entry c k) l) ≡ find_first (has_key k) (entries_in c l)
unfolding find_first is_entry has_key entries_in
find_first_own c k [] = refl
find_first_own c k (x ∷ l) = test_cases (eqb x.collection c)
    (λ f. rw f (test_cases (eqb x.key k) (λ g. rw g) (λ g. rw g (find_first_own c k l))))
    (λ f. rw f (find_first_own c k l))

pub contains_own : (c k : ℕ) (l : List Entry) → contains c k l ≡ any (has_key k) (entries_in c l)
unfolding contains is_entry has_key entries_in
contains_own c k [] = refl
contains_own c k (x ∷ l) = test_cases (eqb x.collection c) (λ f. rw (f, contains_own c k l)) (λ f. rw f (contains_own c k l))
