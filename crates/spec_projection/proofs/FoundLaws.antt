-- Which entry is found after one was inserted, replaced or removed: the new one at its own collection and key, and elsewhere as before.
use Rattle.std.specs.Prelude.{ℕ, ◌≡◌, true, false, ◌&&◌, List, eqb}
use Rattle.std.proofs.Math.Path.{ap₂}
use Rattle.std.proofs.Common.{◌∙◌}
use Rattle.std.proofs.Math.Option.{Option, none, some}
use Rattle.spec_projection.specs.Projection.{Entry}
use Rattle.spec_projection.specs.FirstMatch.{find_first, replace_first}
use Rattle.spec_projection.proofs.FirstMatchLaws.{find_first_absent, insert_before_first_found, insert_before_first_beside, replace_first_found, replace_first_beside, remove_first_beside}
use Rattle.spec_projection.specs.Entries.{is_entry, is_later, contains, insert_last, insert_before, insert_entry, replace_entry, remove_entry}
use Rattle.spec_projection.proofs.EntriesLaws.{is_entry_collection, is_entry_key, remove_entry_gone}
use Rattle.spec_projection.specs.Valid.{Grouped}

-- the entry of one collection and key is not that of another
entry_other : (d j c k : ℕ) → (eqb d c && eqb j k) ≡ false → (x : Entry) → is_entry d j x ≡ true → is_entry c k x ≡ false
unfolding is_entry
entry_other d j c k n x h = rw (is_entry_collection d j x h, is_entry_key d j x h) n

module _ (c k : ℕ) (l : List Entry) where
  pub insert_entry_found : (before : Option ℕ) (e : Entry) → is_entry c k e ≡ true → contains c k l ≡ false → find_first (is_entry c k) (insert_entry before e l) ≡ some e
  unfolding insert_entry insert_last insert_before contains
  insert_entry_found none e h n = insert_before_first_found (is_entry c k) (is_later e.collection) e l h n
  insert_entry_found (some j) e h n = insert_before_first_found (is_entry c k) (is_entry e.collection j) e l h n

  pub insert_entry_beside : (before : Option ℕ) (e : Entry) → is_entry c k e ≡ false → find_first (is_entry c k) (insert_entry before e l) ≡ find_first (is_entry c k) l
  unfolding insert_entry insert_last insert_before
  insert_entry_beside none e n = insert_before_first_beside (is_entry c k) (is_later e.collection) e l n
  insert_entry_beside (some j) e n = insert_before_first_beside (is_entry c k) (is_entry e.collection j) e l n

  pub replace_entry_found : (e : Entry) → is_entry c k e ≡ true → contains c k l ≡ true → find_first (is_entry c k) (replace_entry e l) ≡ some e
  unfolding replace_entry contains
  replace_entry_found e h m =
      ap₂ (λ (i x : ℕ). find_first (is_entry c k) (replace_first (is_entry i x) e l)) (is_entry_collection c k e h) (is_entry_key c k e h) ∙ replace_first_found (is_entry c k) e l h m

  pub replace_entry_beside : (e : Entry) → is_entry c k e ≡ false → find_first (is_entry c k) (replace_entry e l) ≡ find_first (is_entry c k) l
  unfolding replace_entry is_entry
  replace_entry_beside e n = replace_first_beside (is_entry c k) (is_entry e.collection e.key) e l n (entry_other e.collection e.key c k n)

  pub remove_entry_beside : (d j : ℕ) → (eqb d c && eqb j k) ≡ false → find_first (is_entry c k) (remove_entry d j l) ≡ find_first (is_entry c k) l
  unfolding remove_entry
  remove_entry_beside d j n = remove_first_beside (is_entry c k) (is_entry d j) l (entry_other d j c k n)

  pub remove_entry_none : Grouped l → find_first (is_entry c k) (remove_entry c k l) ≡ none
  unfolding contains
  remove_entry_none g = find_first_absent (is_entry c k) (remove_entry c k l) (remove_entry_gone c k l g)
