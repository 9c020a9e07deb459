-- The two lists of a table's keys: strictly ascending, no key in both, and a start is as the table says exactly if it has all of the first and none of the second.
use Rattle.std.specs.Prelude.{ℕ, ◌≡◌, Bool, true, false}
use Rattle.std.proofs.Math.Path.{sym}
use Rattle.std.proofs.Common.{◌∙◌}
use Rattle.std.proofs.lemmas.Bool.{false≢true}
use Rattle.std.specs.Bool.{beq}
use mathlib.Core.List.{List, [], ◌∷◌, Memᴰ}
use Rattle.std.proofs.Math.Option.{some, some-injective, none-ne-some}
use Rattle.std.proofs.Math.Dec.{eqb}
use Rattle.spec_lists.specs.Lists.{equal_lists, All}
use Rattle.spec_lists.proofs.ListLaws.{if_cases, test_cases, all_member, equal_lists_true}
use Rattle.spec_lists.specs.Order.{lex_less, lookup, Ascending}
use Rattle.spec_lists.proofs.OrderLaws.{lex_less_irreflexive}
use Rattle.spec_lists.proofs.LookupLaws.{lookup_here, lookup_past}
use Rattle.spec_dependencies.specs.Settled.{Settled, settled_key}
use Rattle.spec_dependencies.specs.Dependencies.{CollectionKey, collection_key, key_words, keys_at_start}
use Rattle.spec_dependencies.specs.Presence.{Presence}
use Rattle.spec_dependencies.proofs.SettledLaws.{beq_true, settled_at, StartsAs, told_start, told_starts}

-- ---- strictly ascending

keys_above : (x : Settled) (b : Bool) (t : List Settled) → All (λ y. lex_less (settled_key x) (settled_key y) ≡ true) t
    → All (λ y. lex_less (key_words (collection_key x)) (key_words y) ≡ true) (keys_at_start b t)
unfolding keys_at_start settled_key key_words
keys_above x b [] h = tt
keys_above x b (s ∷ t) h = if_cases (All (λ y. lex_less (key_words (collection_key x)) (key_words y) ≡ true)) (beq s.at_start b) _ _ (λ a. (h.0, keys_above x b t h.1)) (λ a. keys_above x b t h.1)

pub keys_ascending : (b : Bool) (t : List Settled) → Ascending settled_key t → Ascending key_words (keys_at_start b t)
unfolding keys_at_start
keys_ascending b [] h = tt
keys_ascending b (s ∷ t) h = if_cases (Ascending key_words) (beq s.at_start b) _ _ (λ a. (keys_above s b t h.0, keys_ascending b t h.1)) (λ a. keys_ascending b t h.1)

-- ---- what is found is an element of that key

module _ {A : Type 0} (key : A → List ℕ) (k : List ℕ) where
  found_member : (l : List A) (a : A) → lookup key k l ≡ some a → Memᴰ a l × (key a ≡ k)
  unfolding lookup
  found_member [] a f = absurd (none-ne-some a f)
  found_member (x ∷ l) a f = test_cases (equal_lists eqb (key x) k)
      (λ e. let same : x ≡ a = some-injective x a (rw e at f) in (Memᴰ.head (sym same), rw same at (equal_lists_true (key x) k e)))
      (λ e. let rest = found_member l a (rw e at f) in (Memᴰ.tail rest.0, rest.1))

-- ---- the start, row by row

module _ (h : Presence) where
  -- the start is as a row says
  abbrev RowHolds : Settled → Type 0
  RowHolds s = h s.collection s.key ≡ s.at_start

  starts_rows : (t : List Settled) → Ascending settled_key t → StartsAs h t → All RowHolds t
  unfolding settled_key
  starts_rows [] a starts = tt
  starts_rows (x ∷ t) a starts = (starts x.collection x.key x (lookup_here settled_key x t), starts_rows t a.1 (λ c k s f. starts c k s (behind c k s f)))
    where
      behind : (c k : ℕ) (s : Settled) → settled_at c k t ≡ some s → settled_at c k (x ∷ t) ≡ some s
      behind c k s f =
          let m = found_member settled_key (c ∷ k ∷ []) t s f in
          lookup_past settled_key (c ∷ k ∷ []) x t (λ e. lex_less_irreflexive (c ∷ k ∷ []) (rw (e, m.1) at (all_member (λ y. lex_less (settled_key x) (settled_key y) ≡ true) t a.0 m.0))) ∙ f

  rows_starts : (t : List Settled) → All RowHolds t → StartsAs h t
  unfolding settled_key
  rows_starts t rows c k s f =
      let m = found_member settled_key (c ∷ k ∷ []) t s f in
      let cs : s.collection ≡ c = cc in
      let ks : s.key ≡ k = cc in
      rw (← cs, ← ks) (all_member RowHolds t rows m.0)

  abbrev pub EachKey : Bool → List CollectionKey → Type 0
  EachKey b = All (λ (k : CollectionKey). h k.collection k.key ≡ b)

  rows_keys : (b : Bool) (t : List Settled) → All RowHolds t → EachKey b (keys_at_start b t)
  unfolding keys_at_start
  rows_keys b [] rows = tt
  rows_keys b (s ∷ t) rows = if_cases (EachKey b) (beq s.at_start b) _ _ (λ a. (rows.0 ∙ beq_true s.at_start b a, rows_keys b t rows.1)) (λ a. rows_keys b t rows.1)

  keys_rows : (t : List Settled) → EachKey true (keys_at_start true t) → EachKey false (keys_at_start false t) → All RowHolds t
  unfolding keys_at_start
  keys_rows [] held lacked = tt
  keys_rows (s ∷ t) held lacked = test_cases s.at_start
      (λ e. let first = rw e at held in let second = rw e at lacked in (first.0 ∙ sym e, keys_rows t first.1 second))
      (λ e. let first = rw e at held in let second = rw e at lacked in (second.0 ∙ sym e, keys_rows t first second.1))

  pub starts_keys : (t : List Settled) → Ascending settled_key t → StartsAs h t → EachKey true (keys_at_start true t) × EachKey false (keys_at_start false t)
  starts_keys t a starts = let rows = starts_rows t a starts in (rows_keys true t rows, rows_keys false t rows)

  pub keys_starts : (t : List Settled) → EachKey true (keys_at_start true t) → EachKey false (keys_at_start false t) → StartsAs h t
  keys_starts t held lacked = rows_starts t (keys_rows t held lacked)

-- ---- no key in both lists

-- the start that the table tells has the key, and lacks it
pub keys_apart : (t : List Settled) → Ascending settled_key t → (k : CollectionKey) → Memᴰ k (keys_at_start true t) → Memᴰ k (keys_at_start false t) → ⊥
keys_apart t a k m n =
    let told = starts_keys (told_start t) t a (told_starts t) in
    false≢true (sym (all_member _ (keys_at_start false t) told.1 n) ∙ all_member _ (keys_at_start true t) told.0 m)
