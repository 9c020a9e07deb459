-- What 02 says of a page of keys, of the definitions: each row is the single look-up's value and mark of its key, with its position; each key
-- has its row; a refusal, and no keys, leave every place.
use Rattle.std.specs.Prelude.{ℕ, zero, suc, ◌+◌, ◌-◌, ◌≤◌, ◌<◌, ◌≡◌, refl, Bool, true, false, ◌&&◌, List, [], ◌∷◌, ◌++◌, map, eqb, length}
use Rattle.std.proofs.Common.{sym, ap₂, ◌∙◌, zero-add, arith, drop_at}
use Rattle.std.proofs.Math.Path.{ap}
use Rattle.std.proofs.Math.Option
use Rattle.std.proofs.Math.Option.{Option, none, some, some-injective, none-ne-some}
use borrow.Author.Tests.{eqb-true, eqb-false, eq-eqb, ne_eqb, lt-ltb, le-ltb}
use Rattle.std.proofs.Math.ListN.{drop, get_elem?, length-map}
use Rattle.spec_lists.specs.Lists.{All}
use Rattle.spec_lists.proofs.ListLaws.{test_cases}
use Rattle.spec_projection.specs.Projection.{Entry, Projection}
use Rattle.spec_projection.specs.FirstMatch.{find_first}
use Rattle.spec_projection.specs.Entries.{is_entry}
use Rattle.spec_projection.specs.Valid.{Behind, Grouped}
use Rattle.spec_projection.specs.Lookups.{KeyedValue, keyed_value, entries_in, entries_of, entry_of, entry_mark, entry_at}
use Rattle.spec_page.specs.Page.{PageEntry, positioned, find_from, page_entry, page_rows, page_keys, PageRefusal, too_many_keys, too_few_places, page_refusal, table_left, page}

-- ---- a row is the single look-up's

-- what a page tells of an entry, and the look-up tells too
found : {B : Type 0} (f : PageEntry → B) (g : Entry → B) → ((n : ℕ) (e : Entry) → f (positioned n (keyed_value e)) ≡ g e)
    → (c k n : ℕ) (es : List Entry) → Option.map f (find_from n k (entries_in c es)) ≡ Option.map g (find_first (is_entry c k) es)
unfolding find_from entries_in find_first is_entry
found f g same c k n [] = refl
found f g same c k n (e ∷ es) =
    test_cases (eqb e.collection c)
    (λ t. test_cases (eqb e.key k) (λ u. rw (t, u) (ap some (same n e))) (λ u. rw (t, u) (found f g same c k (suc n) es)))
    (λ t. rw t (found f g same c k n es))

module _ (p : Projection) (c k : ℕ) where
  pub page_value : Option.map (λ (e : PageEntry). e.value) (page_entry p c k) ≡ entry_of p c k
  unfolding page_entry entries_of entry_of
  page_value = found (λ e. e.value) (λ e. e.value) (λ n e. refl) c k 0 p.entries

  pub page_mark : Option.map (λ (e : PageEntry). e.mark) (page_entry p c k) ≡ entry_mark p c k
  unfolding page_entry entries_of entry_mark
  page_mark = found (λ e. e.mark) (λ e. e.mark) (λ n e. refl) c k 0 p.entries

-- the entry under a key, as its collection lists it
abbrev pub listed : ℕ → PageEntry → KeyedValue
listed k x = record { key = k; mark = x.mark; value = x.value }

-- what is found in a list stands there at its position
stands : (k n : ℕ) (l : List KeyedValue) (x : PageEntry) → find_from n k l ≡ some x → (n ≤ x.position) × (get_elem? l (x.position - n) ≡ some (listed k x))
unfolding find_from
stands k n [] x h = absurd (none-ne-some x h)
stands k n (e ∷ l) x h = test_cases (eqb e.key k) (λ t. here t (some-injective (positioned n e) x (rw t at h))) (λ t. later (stands k (suc n) l x (rw t at h)))
  where
    here : eqb e.key k ≡ true → positioned n e ≡ x → (n ≤ x.position) × (get_elem? (e ∷ l) (x.position - n) ≡ some (listed k x))
    here t is =
        let own = eqb-true e.key k t in
        let at : x.position ≡ n = ap (λ (y : PageEntry). y.position) (sym is) in
        let front : x.position - n ≡ 0 = omega arith in
        (omega arith, rw front (ap some (λ i. record { key = own i; mark = (is i).mark; value = (is i).value })))

    later : (suc n ≤ x.position) × (get_elem? l (x.position - suc n) ≡ some (listed k x)) → (n ≤ x.position) × (get_elem? (e ∷ l) (x.position - n) ≡ some (listed k x))
    later h =
        let past : n < x.position = h.0 in
        let on : x.position - n ≡ suc (x.position - suc n) = omega arith in
        (omega arith, rw on h.1)

-- the entry at the position that a page gives is the key's
pub page_position : (p : Projection) (c k : ℕ) (x : PageEntry) → page_entry p c k ≡ some x → entry_at p c x.position ≡ some (listed k x)
unfolding page_entry entry_at
page_position p c k x h =
    let same : x.position - 0 ≡ x.position = omega arith in
    ap (get_elem? (entries_of p c)) (sym same) ∙ (stands k 0 (entries_of p c) x h).1

-- an entry of a later place in x's collection has another key
other_key : (c : ℕ) (x : Entry) (es : List Entry) (i : ℕ) (e : KeyedValue) → x.collection ≡ c → All (Behind x) es → get_elem? (entries_in c es) i ≡ some e → eqb x.key e.key ≡ false
unfolding entries_in is_entry
other_key c x [] zero e own b h = absurd (none-ne-some e h)
other_key c x [] (suc i) e own b h = absurd (none-ne-some e h)
other_key c x (y ∷ es) i e own b h =
    test_cases (eqb y.collection c) (λ t. among t i (rw t at h) (λ j k. other_key c x es j e own b.1 k)) (λ t. other_key c x es i e own b.1 (rw t at h))
  where
    among : eqb y.collection c ≡ true → (i : ℕ) → get_elem? (keyed_value y ∷ entries_in c es) i ≡ some e → ((j : ℕ) → get_elem? (entries_in c es) j ≡ some e → eqb x.key e.key ≡ false) → eqb x.key e.key ≡ false
    among t zero h ih =
        let same = eqb-true y.collection c t ∙ sym own in
        let key : y.key ≡ e.key = ap (λ (z : KeyedValue). z.key) (some-injective (keyed_value y) e h) in
        let other : eqb y.key x.key ≡ false = ap (λ (z : Bool). z && eqb y.key x.key) (sym (eq-eqb y.collection x.collection same)) ∙ b.0.other in
        ne_eqb x.key e.key (λ k. eqb-false y.key x.key other (key ∙ sym k))
    among t (suc i) h ih = ih i h

finds : (c : ℕ) (es : List Entry) (n i : ℕ) (e : KeyedValue) → Grouped es → get_elem? (entries_in c es) i ≡ some e → find_from n e.key (entries_in c es) ≡ some (positioned (n + i) e)
unfolding entries_in find_from
finds c [] n zero e g h = absurd (none-ne-some e h)
finds c [] n (suc i) e g h = absurd (none-ne-some e h)
finds c (x ∷ es) n i e g h =
    test_cases (eqb x.collection c) (λ t. rw t (among t i (rw t at h) (λ j k. finds c es (suc n) j e g.1 k))) (λ t. rw t (finds c es n i e g.1 (rw t at h)))
  where
    among : eqb x.collection c ≡ true → (i : ℕ) → get_elem? (keyed_value x ∷ entries_in c es) i ≡ some e
        → ((j : ℕ) → get_elem? (entries_in c es) j ≡ some e → find_from (suc n) e.key (entries_in c es) ≡ some (positioned (suc n + j) e))
        → find_from n e.key (keyed_value x ∷ entries_in c es) ≡ some (positioned (n + i) e)
    among t zero h ih =
        let is = some-injective (keyed_value x) e h in
        let own : eqb x.key e.key ≡ true = eq-eqb x.key e.key (ap (λ (z : KeyedValue). z.key) is) in
        let here : n ≡ n + 0 = omega arith in
        rw own (ap₂ (λ (m : ℕ) (z : KeyedValue). some (positioned m z)) here is)
    among t (suc i) h ih =
        let on : suc n + i ≡ n + suc i = omega arith in
        rw (other_key c x es i e (eqb-true x.collection c t) g.0 h) (ih i h ∙ ap (λ (m : ℕ). some (positioned m e)) on)

-- where no key stands twice in a collection, each of its entries is found by its key, at its own position
pub page_finds : (p : Projection) → Grouped p.entries → (c i : ℕ) (e : KeyedValue) → entry_at p c i ≡ some e → page_entry p c e.key ≡ some (positioned i e)
unfolding page_entry entry_at entries_of
page_finds p g c i e h = finds c p.entries 0 i e g h ∙ ap (λ (m : ℕ). some (positioned m e)) (zero-add i)

-- ---- each key has its row

map_at : {A B : Type 0} (f : A → B) (l : List A) (i : ℕ) → get_elem? (map f l) i ≡ Option.map f (get_elem? l i)
map_at f [] zero = refl
map_at f [] (suc i) = refl
map_at f (x ∷ l) zero = refl
map_at f (x ∷ l) (suc i) = map_at f l i

module _ (p : Projection) (c : ℕ) (keys : List ℕ) where
  -- row i is that of key i
  pub page_row : (i : ℕ) → get_elem? (page_rows p c keys) i ≡ Option.map (page_entry p c) (get_elem? keys i)
  unfolding page_rows
  page_row i = map_at (page_entry p c) keys i

  pub page_length : length (page_rows p c keys) ≡ length keys
  unfolding page_rows
  page_length = length-map keys (page_entry p c)

  -- a key given twice is answered twice
  pub page_repeated : (i j : ℕ) → get_elem? keys i ≡ get_elem? keys j → get_elem? (page_rows p c keys) i ≡ get_elem? (page_rows p c keys) j
  page_repeated i j same = page_row i ∙ ap (Option.map (page_entry p c)) same ∙ sym (page_row j)

-- ---- the checks, and what the table is left as

-- a refusal leaves every place, and so does whatever is answered behind the answers
pub left_refused : {A : Type 0} (f : PageRefusal) (answers before : List A) → table_left (some f) answers before ≡ before
unfolding table_left
left_refused f answers before = refl

pub left_behind : {A : Type 0} (f : Option PageRefusal) (answers before : List A) → drop (length answers) (table_left f answers before) ≡ drop (length answers) before
unfolding table_left
left_behind none answers before = drop_at answers (drop (length answers) before) (length answers) refl
left_behind (some f) answers before = refl

module _ (n places : ℕ) where
  -- more than 64 keys are refused whatever the table
  pub sixteen : page_keys < n → page_refusal n places ≡ some too_many_keys
  unfolding page_refusal
  sixteen h = rw (lt-ltb page_keys n h)

  pub fourteen : n ≤ page_keys → places < n → page_refusal n places ≡ some too_few_places
  unfolding page_refusal
  fourteen few short = rw (le-ltb page_keys n few, lt-ltb places n short)

  pub taken : n ≤ page_keys → n ≤ places → page_refusal n places ≡ none
  unfolding page_refusal
  taken few room = rw (le-ltb page_keys n few, le-ltb places n room)

module _ (p : Projection) (c : ℕ) (keys : List ℕ) (places : List (Option PageEntry)) where
  -- places past the last key stay
  pub page_behind : drop (length keys) (page p c keys places).places ≡ drop (length keys) places
  unfolding page
  page_behind =
      let rows = page_rows p c keys in
      ap (λ (n : ℕ). drop n (page p c keys places).places) (sym (page_length p c keys)) ∙ left_behind (page_refusal (length keys) (length places)) rows places
      ∙ ap (λ (n : ℕ). drop n places) (page_length p c keys)

  -- up to 64 keys with a place each are answered, in the places from the first on
  pub page_answered : length keys ≤ page_keys → length keys ≤ length places → (page p c keys places).places ≡ page_rows p c keys ++ drop (length keys) places
  unfolding page table_left
  page_answered few room =
      rw (taken (length keys) (length places) few room)
      (ap (λ (n : ℕ). page_rows p c keys ++ drop n places) (page_length p c keys))

-- no keys: nothing is written, and it is no refusal
pub page_nothing : (p : Projection) (c : ℕ) (places : List (Option PageEntry)) → page p c [] places ≡ record { refusal = none; places = places }
unfolding page page_rows table_left
page_nothing p c places = rw (taken 0 (length places) (omega arith) (omega arith))
