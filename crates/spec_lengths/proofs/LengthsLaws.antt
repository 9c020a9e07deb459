-- The lengths that are kept ascend by collection, are at least 1 each and not more than the entries, and a collection's length is the number of
-- its entries.
use Rattle.std.specs.Prelude.{ℕ, zero, suc, ◌≤◌, ◌≡◌, ◌≢◌, Bool, true, false, eqb, length, if◌then◌else◌}
use Rattle.std.proofs.Math.Path.{refl, ap}
use Rattle.std.proofs.Common.{sym, ◌∙◌, arith, eqb-true, eq-eqb}
use Rattle.std.proofs.lemmas.Bool.{false≢true, eqb-false}
use mathlib.Core.List.{List, [], ◌∷◌, map, head-eq_of_cons-eq}
use mathlib.Core.List.{Memᴰ}
use Rattle.std.proofs.Math.Option
use Rattle.std.proofs.Math.Option.{Option, none, some}
use Rattle.std.proofs.lemmas.List.{length-map}
use Rattle.spec_lists.specs.Lists.{any, All, or_zero}
use Rattle.spec_lists.proofs.ListLaws.{or_second, all_member, any_member, member_any, test_cases}
use Rattle.spec_lists.specs.Order.{lookup, sort_unique, Ascending}
use Rattle.spec_lists.proofs.OrderLaws.{sort_unique_ascending, sort_unique_member, sort_unique_length, member_sort_unique}
use Rattle.spec_lists.proofs.LookupLaws.{lookup_here, lookup_past, ascending_determined}
use Rattle.spec_patch.specs.Fits.{U64}
use Rattle.spec_patch.specs.Sizes.{projection_entries}
use Rattle.spec_projection.specs.Projection.{Entry, Projection}
use Rattle.spec_projection.specs.Lookups.{entries_in, entries_of, entry_count}
use Rattle.spec_projection.proofs.MapLaws.{all_image, ascending_map}
use Rattle.spec_lengths.specs.Lengths.{CollectionLength, length_record, length_key, collections_in, lengths_in, collection_lengths, length_found, length_of, FitsLength}
use Rattle.spec_projection.specs.Valid.{FitsEntry}

-- ---- a collection's row

-- of a collection that has entries, or none
abbrev pub non_zero : ℕ → Option ℕ
non_zero zero = none
non_zero (suc n) = some (suc n)

pub or_zero_lem : (n : ℕ) → or_zero (non_zero n) ≡ n
or_zero_lem zero = refl
or_zero_lem (suc n) = refl

pub found_here : (x : CollectionLength) (l : List CollectionLength) → length_found x.collection (x ∷ l) ≡ some x.length
unfolding length_found length_key
found_here x l = ap (Option.map (λ (y : CollectionLength). y.length)) (lookup_here length_key x l)

pub found_past : (c : ℕ) (x : CollectionLength) (l : List CollectionLength) → x.collection ≢ c → length_found c (x ∷ l) ≡ length_found c l
unfolding length_found length_key
found_past c x l n = ap (Option.map (λ (y : CollectionLength). y.length)) (lookup_past length_key (c ∷ []) x l (λ e. n (head-eq_of_cons-eq e)))

abbrev is : ℕ → ℕ → Bool
is c d = eqb d c

-- rows that a function of the collection gives
module _ (f : ℕ → ℕ) (c : ℕ) where
  row_found : (l : List ℕ) → length_found c (map (λ (d : ℕ). length_record d (f d)) l) ≡ (if any (is c) l then some (f c) else none)
  unfolding length_found lookup
  row_found [] = refl
  row_found (d ∷ l) = test_cases (eqb d c)
      (λ e. rw e (ap (λ (b : ℕ). length_found b (map (λ (d : ℕ). length_record d (f d)) (d ∷ l))) (sym (eqb-true d c e)) ∙ found_here (length_record d (f d)) (map (λ (d : ℕ). length_record d (f d)) l) ∙ ap (λ (b : ℕ). some (f b)) (eqb-true d c e)))
      (λ e. rw e (found_past c (length_record d (f d)) (map (λ (d : ℕ). length_record d (f d)) l) (eqb-false d c e) ∙ row_found l))

-- sorting keeps what is there
sorted_any : (c : ℕ) (l : List ℕ) → any (is c) (sort_unique (λ (d : ℕ). d ∷ []) l) ≡ any (is c) l
sorted_any c l =
    alike _ _
    (λ e. let w = any_member (is c) _ e in member_any (is c) l (sort_unique_member (λ (d : ℕ). d ∷ []) w.0 l w.1) w.2)
    (λ e. let w = any_member (is c) l e in member_any (is c) _ (member_sort_unique (λ (d : ℕ). d ∷ []) (λ a b h. head-eq_of_cons-eq h) w.0 l w.1) w.2)
  where
    alike : (a b : Bool) → (a ≡ true → b ≡ true) → (b ≡ true → a ≡ true) → a ≡ b
    alike true b f g = sym (f refl)
    alike false true f g = g refl
    alike false false f g = refl

-- a collection is among those of the entries exactly if it has one
counted : (c : ℕ) (es : List Entry) → (if any (is c) (map (λ (e : Entry). e.collection) es) then some (length (entries_in c es)) else none) ≡ non_zero (length (entries_in c es))
unfolding entries_in
counted c [] = refl
counted c (e ∷ es) = test_cases (eqb e.collection c) (λ t. rw t) (λ t. rw t (counted c es))

pub lengths_found : (c : ℕ) (es : List Entry) → length_found c (lengths_in es) ≡ non_zero (length (entries_in c es))
unfolding lengths_in collections_in
lengths_found c es =
    row_found (λ d. length (entries_in d es)) c (sort_unique (λ (d : ℕ). d ∷ []) (map (λ (e : Entry). e.collection) es))
    ∙ ap (λ (t : Bool). if t then some (length (entries_in c es)) else none) (sorted_any c _)
    ∙ counted c es

-- a collection's length is the number of its entries; of one that was emptied, and of one never seen, it is 0
pub length_kept : (p : Projection) (c : ℕ) → length_of c (collection_lengths p) ≡ entry_count p c
unfolding length_of collection_lengths entry_count entries_of
length_kept p c = ap or_zero (lengths_found c p.entries) ∙ or_zero_lem _

-- ---- all rows

pub lengths_ascend : (es : List Entry) → Ascending length_key (lengths_in es)
unfolding lengths_in collections_in length_key
lengths_ascend es = ascending_map (λ (c : ℕ). length_record c (length (entries_in c es))) length_key (λ (c : ℕ). c ∷ []) (λ c. refl) (collections_in es) (sort_unique_ascending (λ (c : ℕ). c ∷ []) (map (λ (e : Entry). e.collection) es))

pub few_lengths : (es : List Entry) → length (lengths_in es) ≤ length es
unfolding lengths_in collections_in
few_lengths es =
    let ids = map (λ (e : Entry). e.collection) es in
    omega (arith, length-map (sort_unique (λ (c : ℕ). c ∷ []) ids) (λ (c : ℕ). length_record c (length (entries_in c es))), sort_unique_length (λ (c : ℕ). c ∷ []) ids, length-map es (λ (e : Entry). e.collection))

-- what holds of each member's image holds of all
all_members : {A B : Type 0} (f : A → B) (P : B → Type 0) (l : List A) → ((a : A) → Memᴰ a l → P (f a)) → All P (map f l)
all_members f P [] h = tt
all_members f P (x ∷ l) h = (h x (Memᴰ.head refl), all_members f P l (λ a m. h a (Memᴰ.tail m)))

-- a collection among those of the entries has one at least
entry_of : (c : ℕ) (es : List Entry) → any (is c) (map (λ (e : Entry). e.collection) es) ≡ true → 1 ≤ length (entries_in c es)
unfolding entries_in
entry_of c [] h = absurd (false≢true h)
entry_of c (e ∷ es) h = test_cases (eqb e.collection c) (λ t. rw t (omega arith)) (λ t. rw t (entry_of c es (or_second _ _ h t)))

-- and no more than all have
entries_few : (c : ℕ) (es : List Entry) → length (entries_in c es) ≤ length es
unfolding entries_in
entries_few c [] = omega arith
entries_few c (e ∷ es) = test_cases (eqb e.collection c) (λ t. rw t (omega (arith, entries_few c es))) (λ t. rw t (omega (arith, entries_few c es)))

pub lengths_fit : (es : List Entry) → All FitsEntry es → length es ≤ projection_entries → All FitsLength (lengths_in es)
unfolding lengths_in collections_in
lengths_fit es fit few =
    let ids = map (λ (e : Entry). e.collection) es in
    all_members (λ (c : ℕ). length_record c (length (entries_in c es))) FitsLength (sort_unique (λ (c : ℕ). c ∷ []) ids) (λ c m.
    let there = sort_unique_member (λ (d : ℕ). d ∷ []) c ids m in
    record {
      collection = all_member U64 ids (all_image (λ (e : Entry). e.collection) FitsEntry U64 (λ e f. f.collection) es fit) there;
      length = omega (arith, entries_few c es);
      some = entry_of c es (member_any (is c) ids there (eq-eqb c c refl));
    })

-- ---- the rows are determined by what they tell

length_equal : (x y : CollectionLength) → length_key x ≡ length_key y → x.length ≡ y.length → x ≡ y
unfolding length_key
length_equal x y k n = λ i. record { collection = head-eq_of_cons-eq k i; length = n i }

pub lengths_determined : (l m : List CollectionLength) → Ascending length_key l → Ascending length_key m → ((c : ℕ) → length_found c l ≡ length_found c m) → l ≡ m
unfolding length_found length_key
lengths_determined l m g h e = ascending_determined length_key (λ (x : CollectionLength). x.length) length_equal l m g h (λ x. e x.collection)
