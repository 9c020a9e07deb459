-- A page of keys of one collection, looked up together: 02, Job 7, with the mark of Job 11.
use Rattle.std.specs.Prelude.{ℕ, suc, List, [], ◌∷◌, ◌++◌, map, ltb, eqb, length, drop, if◌then◌else◌}
use Rattle.std.proofs.Math.Option.{Option, none, some}
use Rattle.spec_patch.specs.Patch.{Value}
use Rattle.spec_projection.specs.Projection.{Projection}
use Rattle.spec_projection.specs.Lookups.{KeyedValue, entries_of}

-- ---- the answers

-- what stands in the collection under a key: its position there, from 0, its mark and its value
pub record PageEntry : Type 0 where
  pub position : ℕ
  pub mark : ℕ
  pub value : Value

abbrev pub positioned : ℕ → KeyedValue → PageEntry
positioned n e = record { position = n; mark = e.mark; value = e.value }

-- the first entry of the key, in a list whose first entry has the position n
unfoldable pub find_from : ℕ → ℕ → List KeyedValue → Option PageEntry
find_from n k [] = none
find_from n k (e ∷ es) = if eqb e.key k then some (positioned n e) else find_from (suc n) k es

-- the answer of one key
unfoldable pub page_entry : Projection → ℕ → ℕ → Option PageEntry
page_entry p c k = find_from 0 k (entries_of p c)

-- one answer for each key, in their order
unfoldable pub page_rows : Projection → ℕ → List ℕ → List (Option PageEntry)
page_rows p c keys = map (page_entry p c) keys

-- ---- the checks

-- the most keys of a page
abbrev pub page_keys : ℕ
page_keys = 64

pub data PageRefusal : Type 0 where
  too_many_keys too_few_places : PageRefusal

abbrev pub page_number : PageRefusal → ℕ
page_number too_many_keys = 16
page_number too_few_places = 14

-- more than 64 keys, then fewer places than keys
unfoldable pub page_refusal : (keys places : ℕ) → Option PageRefusal
page_refusal keys places =
    if ltb page_keys keys then some too_many_keys else
    if ltb places keys then some too_few_places else
    none

-- ---- the call

-- a table in which the answers stand, and behind them what stood there; a refusal leaves it as it was
unfoldable pub table_left : {A : Type 0} → Option PageRefusal → (answers before : List A) → List A
table_left (some refusal) answers before = before
table_left none answers before = answers ++ drop (length answers) before

pub record Page : Type 0 where
  pub refusal : Option PageRefusal
  pub places : List (Option PageEntry)

-- the places of an answer table after the call
unfoldable pub page : Projection → ℕ → List ℕ → List (Option PageEntry) → Page
page p c keys places = record {
  refusal = page_refusal (length keys) (length places);
  places = table_left (page_refusal (length keys) (length places)) (page_rows p c keys) places;
}
