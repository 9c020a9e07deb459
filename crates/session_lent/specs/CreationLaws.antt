-- Slices that were cleared, with the head of a new session, hold that session; and their anchors fit exactly where the model's do.
use Rattle.std.specs.Prelude.{ℕ, ◌+◌, ◌*◌, ◌%◌, ◌≤◌, ◌<◌, ◌≡◌, Bool, ◌&&◌, length, if◌then◌else◌, Result, Ok, Err}
use Rattle.std.proofs.Math.Path.{refl, sym, ap}
use Rattle.std.proofs.Common.{ap₂, subst, ◌∙◌, arith}
use Rattle.std.proofs.Math.Bool.{true, false}
use mathlib.Core.List.{List, [], ◌∷◌, map, flat_map}
use borrow.Author.Tests.{le-leb, lt-leb, leb-true, leb-false, eq-eqb, eqb-true}
use Rattle.std.proofs.Math.Dec.{leb, eqb}
use Rattle.std.proofs.lemmas.List.{length-map}
use Rattle.spec_lists.proofs.ListLaws.{and_left, and_right}
use Rattle.spec_patch.specs.Sizes.{anchors, projection_bindings, projection_availabilities, projection_entries}
use Rattle.spec_projection.specs.Projection.{empty}
use Rattle.spec_session.specs.Session.{Limits, Catalogue, Creation, made, refused, too_many_anchors, new_session, anchors_fit, create}
use Rattle.spec_session.specs.ValidSession.{FewAnchors}
use Rattle.active_projection_target_catalog.specs.Catalog.{pair_to, pair_numbers}
use Rattle.active_projection_target_catalog.specs.declared.catalog.BindingPair.{BindingPair}
use Rattle.bytes_records.specs.Moves.{zeros}
use Rattle.panel_rows.specs.Rows.{binding_bytes, availability_bytes, entry_bytes, length_bytes}
use Rattle.local_projection_state.specs.StoresLaws.{empty_stored}
use Rattle.local_projection_state.specs.Stores.{StoredTables, StoredLengths}
use Rattle.panel_changes.specs.SetChanges.{TableLengths, tables_fit, none_used}
use Rattle.panel_changes.specs.SetChangesLaws.{fit_lengths}
use Rattle.spec_lengths.specs.Lengths.{collection_lengths}
use Rattle.session_gates.specs.Lent.{Lent}
use Rattle.session_lent.specs.Head.{head_numbers, new_head}
use Rattle.session_lent.specs.HeadLaws.{new_told}
use Rattle.session_lent.specs.LentSession.{LentSession, anchors_shaped}
use Rattle.session_lent.specs.Steps.{room_shaped, creation_answer, after_creation, CreatedIn, CreationCall}
use Rattle.session_lent.specs.declared.creation.LentCreationRefusal.{LentCreationRefusal}

-- pairs taken apart are twice as many numbers
pub pairs_apart : (bs : List BindingPair) → length (flat_map pair_numbers bs) ≡ 2 * length bs
unfolding flat_map pair_numbers
pairs_apart [] = refl
pairs_apart (b ∷ bs) = omega (arith, pairs_apart bs)

twice_fits : (n : ℕ) → leb (2 * n) (2 * anchors) ≡ leb n anchors
twice_fits n = go (leb n anchors) refl
  where
    go : (t : Bool) → leb n anchors ≡ t → leb (2 * n) (2 * anchors) ≡ t
    go true is = le-leb (2 * n) (2 * anchors) (let few : n ≤ anchors = leb-true n anchors is in omega arith)
    go false is = lt-leb (2 * n) (2 * anchors) (let many : anchors < n = leb-false n anchors is in omega arith)

even : (n : ℕ) → eqb ((2 * n) % 2) 0 ≡ true
even n = eq-eqb ((2 * n) % 2) 0 (omega arith)

module _ (c : Catalogue) (nodes pairs collections : List ℕ) (lent : Lent c nodes pairs collections) where
  pairs_long : length pairs ≡ 2 * length c.bindings
  pairs_long = ap length lent.bindings_are ∙ pairs_apart (map pair_to c.bindings) ∙ ap (λ n. 2 * n) (length-map c.bindings pair_to)

  -- the lengths fit exactly where the model's lists do
  pub anchors_agree : anchors_shaped (length nodes) (length pairs) (length collections) ≡ anchors_fit c
  unfolding anchors_shaped anchors_fit
  anchors_agree =
      let pairs-fit : leb (length pairs) (2 * anchors) ≡ leb (length c.bindings) anchors = ap (λ n. leb n (2 * anchors)) pairs_long ∙ twice_fits (length c.bindings) in
      let pairs-even : eqb (length pairs % 2) 0 ≡ true = ap (λ n. eqb (n % 2) 0) pairs_long ∙ even (length c.bindings) in
      rw (pairs-fit, pairs-even, lent.nodes_are, lent.collections_are)

  anchors_fit_few : anchors_fit c ≡ true → FewAnchors c
  unfolding anchors_fit
  anchors_fit_few h =
      let one = leb (length c.nodes) anchors in
      let two = leb (length c.bindings) anchors in
      let three = leb (length c.collections) anchors in
      let rest = and_right one (two && three) h in
      record {
        nodes = leb-true (length c.nodes) anchors (and_left one (two && three) h);
        bindings = leb-true (length c.bindings) anchors (and_left two three rest);
        collections = leb-true (length c.collections) anchors (and_right two three rest);
      }

  -- a session of few anchors fits
  pub few_anchors_fit : FewAnchors c → anchors_fit c ≡ true
  unfolding anchors_fit
  few_anchors_fit h = rw (le-leb (length c.nodes) anchors h.nodes, le-leb (length c.bindings) anchors h.bindings, le-leb (length c.collections) anchors h.collections)

  module _ (id : ℕ) (limits : Limits) (head b a e l : List ℕ) (lengths : TableLengths b a e) (collections-long : length l ≡ length_bytes) where
    cleared : StoredTables none_used (zeros (length b)) (zeros (length a)) (zeros (length e)) empty
    cleared =
        subst (λ (x : ℕ). StoredTables none_used (zeros x) (zeros (length a)) (zeros (length e)) empty) (sym lengths.bindings)
        (subst (λ (x : ℕ). StoredTables none_used (zeros binding_bytes) (zeros x) (zeros (length e)) empty) (sym lengths.availability)
        (subst (λ (x : ℕ). StoredTables none_used (zeros binding_bytes) (zeros availability_bytes) (zeros x) empty) (sym lengths.entries) empty_stored.tables))

    no_collections : StoredLengths (zeros (length l)) (collection_lengths empty)
    no_collections = subst (λ (x : ℕ). StoredLengths (zeros x) (collection_lengths empty)) (sym collections-long) empty_stored.lengths

    created_in : (t : Bool) → anchors_shaped (length nodes) (length pairs) (length collections) ≡ t
        → CreatedIn (create id limits c) (creation_answer true t) (after_creation (creation_answer true t) (new_head id limits) head) nodes pairs collections
        (after_creation (creation_answer true t) (zeros (length b)) b) (after_creation (creation_answer true t) (zeros (length a)) a) (after_creation (creation_answer true t) (zeros (length e)) e) (after_creation (creation_answer true t) (zeros (length l)) l)
    unfolding create new_session empty
    created_in true is =
        let fits : anchors_fit c ≡ true = sym anchors_agree ∙ is in
        rw fits (refl, record { head_is = new_told id limits c; anchors_are = lent; few = anchors_fit_few fits; projection = cleared; collections_told = no_collections })
    created_in false is = let over : anchors_fit c ≡ false = sym anchors_agree ∙ is in rw over refl

-- a head that a session can be made in has eleven numbers
pub room_head : (head pairs b a e l : ℕ) → room_shaped head pairs b a e l ≡ true → head ≡ head_numbers
unfolding room_shaped
room_head head pairs b a e l h = eqb-true head head_numbers (and_left (eqb head head_numbers) (eqb (pairs % 2) 0 && (eqb l length_bytes && tables_fit b a e)) h)

-- slices that a session can be made in hold the session that was made, or 13 was told
module _ (id : ℕ) (limits : Limits) (nodes pairs collections head b a e l : List ℕ) (room : room_shaped (length head) (length pairs) (length b) (length a) (length e) (length l) ≡ true) where
  tables_behind : (eqb (length l) length_bytes && tables_fit (length b) (length a) (length e)) ≡ true
  unfolding room_shaped
  tables_behind =
      let one = eqb (length head) head_numbers in
      let two = eqb (length pairs % 2) 0 in
      let three = eqb (length l) length_bytes && tables_fit (length b) (length a) (length e) in
      and_right two three (and_right one (two && three) room)

  room_lengths : TableLengths b a e
  room_lengths = fit_lengths b a e (and_right (eqb (length l) length_bytes) (tables_fit (length b) (length a) (length e)) tables_behind)

  room_collections : length l ≡ length_bytes
  room_collections = eqb-true (length l) length_bytes (and_left (eqb (length l) length_bytes) (tables_fit (length b) (length a) (length e)) tables_behind)

  pub creation_became : (r : Result (Unit {0}) LentCreationRefusal) (head' b' a' e' l' : List ℕ) → CreationCall id limits nodes pairs collections head b a e l r head' b' a' e' l' → (c : Catalogue) → Lent c nodes pairs collections
      → CreatedIn (create id limits c) r head' nodes pairs collections b' a' e' l'
  creation_became r head' b' a' e' l' call c lent =
      let t = anchors_shaped (length nodes) (length pairs) (length collections) in
      let told : r ≡ creation_answer true t = call.told ∙ ap (λ k. creation_answer k t) room in
      let left : (new old : List ℕ) → after_creation (creation_answer true t) new old ≡ after_creation r new old = λ new old. ap (λ k. after_creation k new old) (sym told) in
      let Made-so = created_in c nodes pairs collections lent id limits head b a e l room_lengths room_collections t refl in
      let answer = creation_answer true t in
      let A = after_creation answer (zeros (length a)) a in
      let E = after_creation answer (zeros (length e)) e in
      let L = after_creation answer (zeros (length l)) l in
      let one = subst (λ (x : List ℕ). CreatedIn (create id limits c) answer x nodes pairs collections (after_creation answer (zeros (length b)) b) A E L) (left (new_head id limits) head ∙ sym call.head_left) Made-so in
      let two = subst (λ (x : List ℕ). CreatedIn (create id limits c) answer head' nodes pairs collections x A E L) (left (zeros (length b)) b ∙ sym call.bindings_left) one in
      let three = subst (λ (x : List ℕ). CreatedIn (create id limits c) answer head' nodes pairs collections b' x E L) (left (zeros (length a)) a ∙ sym call.availability_left) two in
      let four = subst (λ (x : List ℕ). CreatedIn (create id limits c) answer head' nodes pairs collections b' a' x L) (left (zeros (length e)) e ∙ sym call.entries_left) three in
      let five = subst (λ (x : List ℕ). CreatedIn (create id limits c) answer head' nodes pairs collections b' a' e' x) (left (zeros (length l)) l ∙ sym call.lengths_left) four in
      subst (λ k. CreatedIn (create id limits c) k head' nodes pairs collections b' a' e' l') (sym told) five
