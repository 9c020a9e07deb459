-- An index of a page's keys: each key has a place among few, and the keys of one place are a chain from the last to the first.
use Rattle.std.specs.Prelude.{ℕ, zero, suc, ◌-◌, ◌%◌, ◌≤◌, ◌<◌, ◌≡◌, List, eqb, length, get_or, if◌then◌else◌}

abbrev pub key_places : ℕ
key_places = 251

abbrev pub index_place_of : ℕ → ℕ
index_place_of k = k % key_places

-- the last of the first n keys that has this place, by its index and one; 0 where none has it
unfoldable pub last_below : ℕ → List ℕ → ℕ → ℕ
last_below b keys zero = 0
last_below b keys (suc n) = if eqb (index_place_of (get_or keys n 0)) b then suc n else last_below b keys n

-- for each place the last of the first n keys that has it, and for each of them the one before it in its place
pub record Indexed (n : ℕ) (keys heads earlier : List ℕ) : Type 0 where
  pub places : length heads ≡ key_places
  pub room : n ≤ length earlier
  pub last : (b : ℕ) → b < key_places → get_or heads b 0 ≡ last_below b keys n
  pub chain : (i : ℕ) → i < n → get_or earlier i 0 ≡ last_below (index_place_of (get_or keys i 0)) keys i

-- none, or one of the keys that have the place of this one
abbrev pub OnChain : (keys : List ℕ) (key next : ℕ) → Type 0
OnChain keys key next = (next ≤ length keys) × (0 < next → index_place_of (get_or keys (next - 1) 0) ≡ index_place_of key)
