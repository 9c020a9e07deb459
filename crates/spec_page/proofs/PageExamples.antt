-- Pages computed, from 02's words, as one table.
use Rattle.std.specs.Prelude.{ℕ, ◌≡◌, refl, List, [], ◌∷◌, replicate}
use Rattle.std.proofs.Math.Option.{Option, none, some, map}
use Rattle.spec_lists.specs.Lists.{All}
use Rattle.spec_patch.specs.Patch.{unsigned, text}
use Rattle.spec_projection.specs.Projection.{Projection}
use Rattle.spec_projection.specs.Lookups.{entries_in, entries_of}
use Rattle.spec_page.specs.Page.{PageEntry, find_from, page_entry, page_rows, page_number, page_refusal, table_left, page}

-- collection 3 has key 7; collection 9 has the keys 4, 0 and 7 in this order
abbrev pub two_collections : Projection
two_collections = record {
  bindings = [];
  availabilities = [];
  entries =
      record { collection = 3; key = 7; mark = 1; value = text (79 ∷ 107 ∷ []) }
      ∷ record { collection = 9; key = 4; mark = 2; value = unsigned 40 }
      ∷ record { collection = 9; key = 0; mark = 2; value = unsigned 0 }
      ∷ record { collection = 9; key = 7; mark = 5; value = unsigned 70 } ∷ [];
}

-- what the places of a table hold before the call
abbrev pub stood : Option PageEntry
stood = some (record { position = 99; mark = 99; value = unsigned 99 })

abbrev first : Option PageEntry
first = some (record { position = 0; mark = 2; value = unsigned 40 })

abbrev second : Option PageEntry
second = some (record { position = 1; mark = 2; value = unsigned 0 })

abbrev third : Option PageEntry
third = some (record { position = 2; mark = 5; value = unsigned 70 })

-- keys of a collection, the places of a table, the refusal's number, and the places afterwards
record PageRun : Type 0 where
  collection : ℕ
  keys : List ℕ
  room : ℕ
  number : Option ℕ
  left : List (Option PageEntry)

abbrev page_runs : List PageRun
page_runs =
    -- in the keys' order, with none for a key that is absent there
    record { collection = 9; keys = 7 ∷ 4 ∷ 5 ∷ 0 ∷ []; room = 4; number = none; left = third ∷ first ∷ none ∷ second ∷ [] }
    -- a key given twice; places behind the last key stay
    ∷ record { collection = 9; keys = 0 ∷ 0 ∷ []; room = 3; number = none; left = second ∷ second ∷ stood ∷ [] }
    -- the key of another collection has its own position there
    ∷ record { collection = 3; keys = 7 ∷ 4 ∷ []; room = 2; number = none; left = some (record { position = 0; mark = 1; value = text (79 ∷ 107 ∷ []) }) ∷ none ∷ [] }
    -- no keys and no table
    ∷ record { collection = 9; keys = []; room = 0; number = none; left = [] }
    -- one place too few
    ∷ record { collection = 9; keys = 4 ∷ 0 ∷ []; room = 1; number = some 14; left = stood ∷ [] }
    -- too many keys, with a short table
    ∷ record { collection = 9; keys = replicate 65 4; room = 1; number = some 16; left = stood ∷ [] }
    ∷ []

-- a proof that computes pages opens this
unfoldable pub opened_pages : Unit {0}
unfolding entries_in entries_of find_from page_entry page_rows page_refusal table_left page
opened_pages = tt

page_runs_hold : All (λ (r : PageRun). (map page_number (page two_collections r.collection r.keys (replicate r.room stood)).refusal ≡ r.number)
    × ((page two_collections r.collection r.keys (replicate r.room stood)).places ≡ r.left)) page_runs
unfolding opened_pages
page_runs_hold = ((refl, refl), ((refl, refl), ((refl, refl), ((refl, refl), ((refl, refl), ((refl, refl), tt))))))
