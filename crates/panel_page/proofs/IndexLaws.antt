-- Laws of the index: a key that a place's chain passes over has another place.
use Prim.Native.Nat.{ℕ, zero, suc, ◌+◌, ◌-◌, ◌≤◌, ◌<◌}
use Rattle.std.specs.Prelude.{◌≡◌, true, false, eqb, set}
use Rattle.std.proofs.Common.{sym, ◌∙◌, length-set, get_or-set_other}
use Rattle.std.proofs.Math.Path.{ap}
use mathlib.Core.List.{List}
use Rattle.std.proofs.Math.Numerals.{add-one}
use native.Mathlib.Omega.{arith}
use borrow.Author.Tests.{eqb-true, eqb-false}
use Rattle.std.proofs.Math.ListN.{length, get_or, get_or-replicate}
use Rattle.std.proofs.Math.Seq.{get_or-set_same}
use Rattle.spec_lists.proofs.ListLaws.{test_cases}
use Rattle.bytes_records.specs.Moves.{zeros}
use Rattle.bytes_records.specs.MovesLaws.{length_zeros}
use Rattle.panel_page.specs.Index.{key_places, index_place_of, last_below, Indexed, OnChain}

module _ (b : ℕ) (keys : List ℕ) where
  pub last_le : (n : ℕ) → last_below b keys n ≤ n
  unfolding last_below
  last_le zero = omega arith
  last_le (suc n) = test_cases (eqb (index_place_of (get_or keys n 0)) b) (λ t. rw t (omega arith)) (λ t. rw t (omega (arith, last_le n)))

  -- what the chain names has the place
  pub last_has : (n : ℕ) → 0 < last_below b keys n → index_place_of (get_or keys (last_below b keys n - 1) 0) ≡ b
  unfolding last_below
  last_has zero h = absurd (omega arith)
  last_has (suc n) h = test_cases (eqb (index_place_of (get_or keys n 0)) b)
      (λ t. let here : suc n - 1 ≡ n = omega arith in rw (t, here) (eqb-true (index_place_of (get_or keys n 0)) b t))
      (λ t. rw t (last_has n (rw t at h)))

  -- what it passes over has not
  pub last_passes : (n i : ℕ) → last_below b keys n ≤ i → i < n → index_place_of (get_or keys i 0) ≡ b → ⊥
  unfolding last_below
  last_passes zero i h below own = omega arith
  last_passes (suc n) i h below own = test_cases (eqb (index_place_of (get_or keys n 0)) b)
      (λ t. absurd (omega (arith, rw t at h)))
      (λ t. test_cases (eqb i n)
      (λ u. absurd (eqb-false (index_place_of (get_or keys n 0)) b t (ap (λ (j : ℕ). index_place_of (get_or keys j 0)) (sym (eqb-true i n u)) ∙ own)))
      (λ u. absurd (last_passes n i (rw t at h) (omega (arith, eqb-false i n u)) own)))

-- ---- the index as it is made

module _ (keys : List ℕ) where
  -- of no keys
  pub index_start : (heads earlier : List ℕ) → heads ≡ zeros key_places → Indexed 0 keys heads earlier
  unfolding last_below
  index_start heads earlier e = record {
    places = ap length e ∙ length_zeros key_places;
    room = omega arith;
    last = λ b h. ap (λ (l : List ℕ). get_or l b 0) e ∙ get_or-replicate key_places b 0 0 h;
    chain = λ i h. absurd (omega arith);
  }

  module _ (heads earlier : List ℕ) (i : ℕ) (some-room : i < length earlier) (h : Indexed i keys heads earlier) where
    abbrev place : ℕ
    place = index_place_of (get_or keys i 0)

    small : place < key_places
    small = omega arith

    head_turn : (b : ℕ) → b < key_places → get_or (set heads place (i + 1)) b 0 ≡ last_below b keys (suc i)
    unfolding last_below
    head_turn b inside = test_cases (eqb place b)
        (λ t. let same = eqb-true place b t in
        let here : place < length heads = omega (arith, small, h.places) in
        rw t (ap (λ (c : ℕ). get_or (set heads place (i + 1)) c 0) (sym same) ∙ get_or-set_same heads place (i + 1) 0 here ∙ add-one i))
        (λ t. rw t (get_or-set_other heads place b (i + 1) 0 (λ e. eqb-false place b t (sym e)) ∙ h.last b inside))

    chain_turn : (j : ℕ) → j < i + 1 → get_or (set earlier i (get_or heads place 0)) j 0 ≡ last_below (index_place_of (get_or keys j 0)) keys j
    chain_turn j below = test_cases (eqb j i)
        (λ t. let same = eqb-true j i t in
        ap (λ (k : ℕ). get_or (set earlier i (get_or heads place 0)) k 0) same ∙ get_or-set_same earlier i (get_or heads place 0) 0 some-room ∙ h.last place small
        ∙ ap (λ (k : ℕ). last_below (index_place_of (get_or keys k 0)) keys k) (sym same))
        (λ t. get_or-set_other earlier i j (get_or heads place 0) 0 (eqb-false j i t) ∙ h.chain j (omega (arith, eqb-false j i t)))

    -- of one key more
    pub index_turn : Indexed (i + 1) keys (set heads place (i + 1)) (set earlier i (get_or heads place 0))
    index_turn = record {
      places = length-set heads place (i + 1) ∙ h.places;
      room = omega (arith, length-set earlier i (get_or heads place 0));
      last = λ b inside. head_turn b inside ∙ ap (last_below b keys) (sym (add-one i));
      chain = chain_turn;
    }

-- ---- the chain of a key's place

pub on_chain : (keys : List ℕ) (key n : ℕ) → n ≤ length keys → OnChain keys key (last_below (index_place_of key) keys n)
on_chain keys key n within = (omega (arith, last_le (index_place_of key) keys n), last_has (index_place_of key) keys n)

module _ {keys heads earlier : List ℕ} (h : Indexed (length keys) keys heads earlier) (key : ℕ) where
  pub chain_start : (place : ℕ) → place ≡ index_place_of key → get_or heads place 0 ≡ last_below (index_place_of key) keys (length keys)
  chain_start place e = ap (λ (b : ℕ). get_or heads b 0) e ∙ h.last (index_place_of key) (omega arith)

  pub chain_next : (next : ℕ) → OnChain keys key next → 0 < next → get_or earlier (next - 1) 0 ≡ last_below (index_place_of key) keys (next - 1)
  chain_next next on more = h.chain (next - 1) (omega arith) ∙ ap (λ (b : ℕ). last_below b keys (next - 1)) (on.1 more)
