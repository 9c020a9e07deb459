-- The scan over the numbers of pairs says what step 7 asks of the pairs.
use Rattle.std.specs.Prelude.{ℕ, zero, suc, ◌+◌, ◌-◌, ◌*◌, ◌/◌, ◌≤◌, ◌<◌, min, ◌≡◌, refl, ◌&&◌, ◌||◌, leb, eqb, drop, get_or, set, true, false, Bool}
use Rattle.std.specs.List.{list_any}
use Rattle.std.specs.Simd.{first_chunks}
use lib.Pointwise.{pointwise}
use Rattle.std.proofs.Math.Path.{sym, ap}
use Rattle.std.proofs.Math.Bool.{and-true}
use Rattle.std.proofs.Common.{◌∙◌, ap₂, leb-true, leb-false, take-suc, take_all, take_at, length-take-le, eq-eqb, ne_eqb, drop_of_length-le, drop-cons}
use mathlib.Core.List.{List, [], ◌∷◌, ◌++◌, map, flat_map, append_assoc}
use native.Mathlib.Omega.{arith}
use Rattle.std.proofs.Math.ListN.{length, take, replicate}
use Rattle.std.proofs.lemmas.List.{length-map, set_at, drop-replicate, take_min}
use Rattle.spec_lists.specs.Lists.{any}
use Rattle.spec_lists.proofs.ListLaws.{flat_map_append, test_cases}
use Rattle.spec_patch.specs.Sizes.{anchors}
use Rattle.spec_session.specs.Session as model
use Rattle.spec_session.specs.Session.{Catalogue}
use Rattle.spec_session.specs.ValidSession.{FewAnchors}
use Rattle.active_projection_target_catalog.specs.Catalog.{pair_of, pair_to, no_pair, padded_pairs, catalogue_of, catalog_with, catalog_to, pair_numbers, pair_seen}
use Rattle.active_projection_target_catalog.specs.declared.catalog.BindingPair.{BindingPair}

pub seen_pairs : (node slot : ℕ) (bs : List BindingPair) → pair_seen node slot (flat_map pair_numbers bs) ≡ any (λ (b : model.BindingPair). eqb b.node node && eqb b.slot slot) (map pair_of bs)
unfolding pair_seen pair_numbers flat_map
seen_pairs node slot [] = refl
seen_pairs node slot (b ∷ bs) = ap (λ t. (eqb b.node node && eqb b.slot slot) || t) (seen_pairs node slot bs)

-- two numbers stored at a position, as the taking apart of one more pair does
stored_two : (ns : List ℕ) (at a b : ℕ) → at + 2 ≤ length ns → take (suc (suc at)) (set (set ns at a) (suc at) b) ≡ take at ns ++ (a ∷ b ∷ [])
stored_two [] at a b h = absurd (omega arith)
stored_two (x ∷ []) at a b h = absurd (omega arith)
stored_two (x ∷ y ∷ ns) zero a b h = refl
stored_two (x ∷ y ∷ ns) (suc at) a b h = ap (λ l. x ∷ l) (stored_two (y ∷ ns) at a b (omega arith))

pub one_more_pair : (bs : List BindingPair) (ns : List ℕ) (i : ℕ) (d : BindingPair) → i < length bs → 2 * i + 2 ≤ length ns → take (2 * i) ns ≡ flat_map pair_numbers (take i bs)
    → take (2 * (i + 1)) (set (set ns (2 * i) (get_or bs i d).node) (2 * i + 1) (get_or bs i d).slot) ≡ flat_map pair_numbers (take (i + 1) bs)
unfolding pair_numbers flat_map
one_more_pair bs ns i d below room e =
    let next : 2 * (i + 1) ≡ suc (suc (2 * i)) = omega arith in
    let odd : 2 * i + 1 ≡ suc (2 * i) = omega arith in
    let more : i + 1 ≡ suc i = omega arith in
    rw (next, odd, more) (
    stored_two ns (2 * i) (get_or bs i d).node (get_or bs i d).slot room
    ∙ ap (λ l. l ++ ((get_or bs i d).node ∷ (get_or bs i d).slot ∷ [])) e
    ∙ sym (ap (flat_map pair_numbers) (take-suc bs i d below) ∙ flat_map_append pair_numbers (take i bs) (get_or bs i d ∷ []))
    )

pub all_pairs : (bs : List BindingPair) (ns : List ℕ) (i : ℕ) → length ns ≤ 2 * i → length bs ≤ i → take (2 * i) ns ≡ flat_map pair_numbers (take i bs) → ns ≡ flat_map pair_numbers bs
all_pairs bs ns i numbers pairs e = sym (take_all (2 * i) ns numbers) ∙ e ∙ ap (flat_map pair_numbers) (take_all i bs pairs)

-- the pairs of numbers that a list is made of, looked through for one
pub seen_in_pairs : (node slot : ℕ) (ns : List ℕ) → list_any (λ y. pointwise eqb y (node ∷ slot ∷ [])) (first_chunks 2 (length ns / 2) ns) ≡ pair_seen node slot ns
unfolding pair_seen
seen_in_pairs node slot [] = refl
seen_in_pairs node slot (n ∷ []) = refl
seen_in_pairs node slot (n ∷ s ∷ ns) =
    let more : length (n ∷ s ∷ ns) / 2 ≡ suc (length ns / 2) = omega arith in
    rw more (ap₂ (λ t u. (eqb n node && t) || u) (and-true (eqb s slot)) (seen_in_pairs node slot ns))

-- ---- the turns of the scans

two_at : (ns : List ℕ) (at : ℕ) → at + 2 ≤ length ns → drop at ns ≡ get_or ns at 0 ∷ get_or ns (at + 1) 0 ∷ drop (at + 2) ns
two_at ns at h =
    let one : at + 1 ≡ suc at = omega arith in
    let two : at + 2 ≡ suc (suc at) = omega arith in
    rw (one, two, drop-cons ns at 0 (omega arith), drop-cons ns (suc at) 0 (omega arith))

pair_seen_turn : (node slot : ℕ) (ns : List ℕ) (at : ℕ) → at + 2 ≤ length ns
    → pair_seen node slot (drop at ns) ≡ ((eqb (get_or ns at 0) node && eqb (get_or ns (at + 1) 0) slot) || pair_seen node slot (drop (at + 2) ns))
unfolding pair_seen
pair_seen_turn node slot ns at h = ap (pair_seen node slot) (two_at ns at h)

module _ (node slot : ℕ) (ns : List ℕ) (at : ℕ) (within : at + 2 ≤ length ns) where
  pub pair_seen_here : (eqb (get_or ns at 0) node && eqb (get_or ns (at + 1) 0) slot) ≡ true → pair_seen node slot (drop at ns) ≡ true
  pair_seen_here e = pair_seen_turn node slot ns at within ∙ rw e

  pub pair_seen_on : (eqb (get_or ns at 0) node && eqb (get_or ns (at + 1) 0) slot) ≡ false → pair_seen node slot (drop at ns) ≡ pair_seen node slot (drop (at + 2) ns)
  pair_seen_on e = pair_seen_turn node slot ns at within ∙ rw e

-- fewer than two numbers are no pair
pub pair_seen_end : (node slot : ℕ) (ns : List ℕ) → length ns < 2 → pair_seen node slot ns ≡ false
unfolding pair_seen
pair_seen_end node slot [] h = refl
pair_seen_end node slot (n ∷ []) h = refl
pair_seen_end node slot (n ∷ s ∷ ns) h = absurd (omega arith)

any_turn : (test : ℕ → Bool) (ns : List ℕ) (at : ℕ) → at < length ns → any test (drop at ns) ≡ (test (get_or ns at 0) || any test (drop (at + 1) ns))
any_turn test ns at h = let one : at + 1 ≡ suc at = omega arith in rw one (ap (any test) (drop-cons ns at 0 h))

module _ (id : ℕ) (ns : List ℕ) (at : ℕ) (within : at < length ns) where
  pub anchor_here : id ≡ get_or ns at 0 → any (eqb id) (drop at ns) ≡ true
  anchor_here e = any_turn (eqb id) ns at within ∙ rw (eq-eqb id (get_or ns at 0) e)

  pub anchor_on : (id ≡ get_or ns at 0 → ⊥) → any (eqb id) (drop at ns) ≡ any (eqb id) (drop (at + 1) ns)
  anchor_on n = any_turn (eqb id) ns at within ∙ rw (ne_eqb id (get_or ns at 0) n)

pub anchor_end : (id : ℕ) (ns : List ℕ) (at : ℕ) → length ns ≤ at → any (eqb id) (drop at ns) ≡ false
anchor_end id ns at h = ap (any (eqb id)) (drop_of_length-le ns h)

-- ---- an array of anchors, filled one by one

module _ {A : Type 0} (z : A) (l : List A) (i : ℕ) where
  pub padded_turn : (d : A) → i < length l → i < anchors → set (take i l ++ replicate (anchors - i) z) i (get_or l i d) ≡ take (i + 1) l ++ replicate (anchors - (i + 1)) z
  padded_turn d below room =
      let more : i + 1 ≡ suc i = omega arith in
      let places : anchors - i ≡ suc (anchors - (i + 1)) = omega arith in
      ap (λ n. set (take i l ++ replicate n z) i (get_or l i d)) places
      ∙ set_at (take i l) z (replicate (anchors - (i + 1)) z) (get_or l i d) i (length-take-le i l (omega arith))
      ∙ sym (append_assoc (take i l) (get_or l i d ∷ []) (replicate (anchors - (i + 1)) z))
      ∙ ap (λ t. t ++ replicate (anchors - (i + 1)) z) (sym (take-suc l i d below) ∙ ap (λ n. take n l) (sym more))

  pub padded_short : length l ≡ i → i ≤ anchors → take i l ++ replicate (anchors - i) z ≡ padded_pairs z l
  unfolding padded_pairs
  padded_short e room =
      ap (λ t. t ++ replicate (anchors - i) z) (take_all i l (omega arith) ∙ sym (take_all anchors l (omega arith)))
      ∙ ap (λ n. take anchors l ++ replicate (anchors - n) z) (sym e)

  pub padded_full : i ≡ anchors → anchors ≤ length l → take i l ++ replicate (anchors - i) z ≡ padded_pairs z l
  unfolding padded_pairs
  padded_full e full =
      ap (λ n. take n l ++ replicate (anchors - n) z) e
      ∙ ap (λ n. take anchors l ++ replicate n z) (let same : anchors - anchors ≡ anchors - length l = omega arith in same)

-- the same in one go
pub padded_copied : (l new : List ℕ) (count : ℕ) → count ≡ min (length l) anchors → new ≡ take count l → new ++ drop count (replicate anchors 0) ≡ padded_pairs 0 l
unfolding padded_pairs
padded_copied l new count few copied =
    ap₂ ◌++◌ (copied ∙ ap (λ n. take n l) (few ∙ min_comm) ∙ take_min anchors l) (drop-replicate count anchors 0 ∙ ap (λ n. replicate n 0) left)
  where
    min_comm : min (length l) anchors ≡ min anchors (length l)
    min_comm = omega arith

    left : anchors - count ≡ anchors - length l
    left = omega (arith, few)

-- ---- the catalogue of given anchors

-- so many anchors as there is room for are those that the catalogue names
padded_take : {A : Type 0} (z : A) (l : List A) → length l ≤ anchors → take (length l) (padded_pairs z l) ≡ l
unfolding padded_pairs
padded_take z l few = ap (λ t. take (length l) (t ++ replicate (anchors - length l) z)) (take_all anchors l few) ∙ take_at l (replicate (anchors - length l) z) (length l) refl

pub pairs_back : (bs : List model.BindingPair) → map pair_of (map pair_to bs) ≡ bs
pairs_back [] = refl
pairs_back (b ∷ bs) = ap (λ l. b ∷ l) (pairs_back bs)

pub pairs_again : (bs : List BindingPair) → map pair_to (map pair_of bs) ≡ bs
pairs_again [] = refl
pairs_again (b ∷ bs) = ap (λ l. b ∷ l) (pairs_again bs)

pub catalogue_back : (m : Catalogue) → FewAnchors m → catalogue_of (catalog_to m) ≡ m
unfolding catalogue_of catalog_to catalog_with
catalogue_back m few =
    let pairs = map pair_to m.bindings in
    let count = length m.bindings in
    let counted : length pairs ≡ count = length-map m.bindings pair_to in
    let kept : take count (padded_pairs no_pair pairs) ≡ pairs =
    ap (λ n. take n (padded_pairs no_pair pairs)) (sym counted) ∙ padded_take no_pair pairs (omega (arith, counted, few.bindings)) in
    let nodes = padded_take 0 m.nodes few.nodes in
    let collections = padded_take 0 m.collections few.collections in
    λ i. record { nodes = nodes i; bindings = (ap (map pair_of) kept ∙ pairs_back m.bindings) i; collections = collections i }

-- ---- the anchors that are lent

-- a count that the array can't hold names all of it
pub take_held : {A : Type 0} (l : List A) (count : ℕ) → length l ≡ anchors → take (min count anchors) l ≡ take count l
take_held l count long =
    test_cases (leb count anchors)
    (λ e. let same : min count anchors ≡ count = omega (arith, leb-true count anchors e) in ap (λ n. take n l) same)
    (λ e.
    let over = leb-false count anchors e in
    take_all (min count anchors) l (omega (arith, over)) ∙ sym (take_all count l (omega (arith, over)))
    )

-- the numbers of the first pairs
pub pairs_taken : (n : ℕ) (bs : List BindingPair) → take (2 * n) (flat_map pair_numbers bs) ≡ flat_map pair_numbers (take n bs)
unfolding pair_numbers flat_map
pairs_taken zero bs = refl
pairs_taken (suc n) [] = take_all (2 * suc n) [] (omega arith)
pairs_taken (suc n) (b ∷ bs) =
    let twice : 2 * suc n ≡ suc (suc (2 * n)) = omega arith in
    ap (λ m. take m (flat_map pair_numbers (b ∷ bs))) twice ∙ ap (λ l. b.node ∷ b.slot ∷ l) (pairs_taken n bs)
