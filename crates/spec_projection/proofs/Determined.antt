-- A projection in stored order is determined by what its lookups and its collections' lists answer.
use Rattle.std.specs.Prelude.{ℕ, ◌<◌, ◌≡◌, refl, ltb, eqb}
use Rattle.std.proofs.Common.{sym, ◌∙◌, subst, arith, ltb-true, ltb-false, eqb-true}
use mathlib.Core.List.{List, [], ◌∷◌, cons≢nil, head-eq_of_cons-eq, tail-eq_of_cons-eq}
use Rattle.std.proofs.lemmas.Bool.{eqb-false}
use Rattle.spec_lists.proofs.ListLaws.{test_cases}
use Rattle.spec_projection.specs.Projection.{Entry, Projection}
use Rattle.spec_projection.specs.Lookups.{keyed_value, entries_in, entries_of}
use Rattle.spec_projection.specs.Valid.{Grouped, Ordered}
use Rattle.spec_projection.proofs.CollectionLaws.{entries_in_own, entries_in_other, none_later}

-- an entry's collection has an entry, so it is not before all of another list
first_not_before : (x y : Entry) (l m : List Entry) → Grouped (y ∷ m) → ((c : ℕ) → entries_in c (x ∷ l) ≡ entries_in c (y ∷ m)) → x.collection < y.collection → ⊥
first_not_before x y l m h e less =
    cons≢nil (sym (entries_in_own x l) ∙ e x.collection ∙ none_later x.collection y m less h.0)

entry_equal : (x y : Entry) → x.collection ≡ y.collection → keyed_value x ≡ keyed_value y → x ≡ y
entry_equal x y c v = λ i. record { collection = c i; key = (v i).key; mark = (v i).mark; value = (v i).value }

-- ---- entries

grouped_determined : (l m : List Entry) → Grouped l → Grouped m → ((c : ℕ) → entries_in c l ≡ entries_in c m) → l ≡ m
unfolding entries_in
grouped_determined [] [] g h e = refl
grouped_determined (x ∷ l) [] g h e = absurd (cons≢nil (sym (entries_in_own x l) ∙ e x.collection))
grouped_determined [] (y ∷ m) g h e = absurd (cons≢nil (sym (entries_in_own y m) ∙ sym (e y.collection)))
grouped_determined (x ∷ l) (y ∷ m) g h e = heads (grouped_determined l m g.1 h.1)
  where
    collections : x.collection ≡ y.collection
    collections =
        test_cases (ltb x.collection y.collection) (λ s. absurd (first_not_before x y l m h e (ltb-true _ _ s)))
        (λ s. test_cases (ltb y.collection x.collection) (λ t. absurd (first_not_before y x m l g (λ c. sym (e c)) (ltb-true _ _ t)))
        (λ t. omega (arith, ltb-false x.collection y.collection s, ltb-false y.collection x.collection t)))

    own : keyed_value x ∷ entries_in x.collection l ≡ keyed_value y ∷ entries_in x.collection m
    own = sym (entries_in_own x l) ∙ e x.collection ∙ subst (λ c. entries_in c (y ∷ m) ≡ keyed_value y ∷ entries_in c m) (sym collections) (entries_in_own y m)

    tails : (c : ℕ) → entries_in c l ≡ entries_in c m
    tails c = test_cases (eqb x.collection c)
        (λ s. rw (eqb-true x.collection c s) at (tail-eq_of_cons-eq own))
        (λ s. sym (entries_in_other c x l (eqb-false _ _ s)) ∙ e c ∙ entries_in_other c y m (λ t. eqb-false _ _ s (collections ∙ t)))

    heads : (((c : ℕ) → entries_in c l ≡ entries_in c m) → l ≡ m) → ◌≡◌ {A = List Entry} (x ∷ l) (y ∷ m)
    heads rest =
        let first = entry_equal x y collections (head-eq_of_cons-eq own) in
        let others = rest tails in
        cc

-- ---- the theorem

pub projection_equal : (p q : Projection) → p.bindings ≡ q.bindings → p.availabilities ≡ q.availabilities → p.entries ≡ q.entries → p ≡ q
projection_equal p q b a e = λ i. record { bindings = b i; availabilities = a i; entries = e i }

-- by its bindings, its availabilities and each collection's entries in order
pub determined : (p q : Projection) → Ordered p → Ordered q → p.bindings ≡ q.bindings → p.availabilities ≡ q.availabilities → ((c : ℕ) → entries_of p c ≡ entries_of q c) → p ≡ q
unfolding entries_of
determined p q v w b a e = projection_equal p q b a (grouped_determined p.entries q.entries v.entries w.entries e)
