-- Row by row the entries of a collection make its print.
use Rattle.std.specs.Prelude.{ℕ, ◌≡◌, refl, true, false, eqb}
use Rattle.std.proofs.Common.{sym, ap, ◌∙◌}
use mathlib.Core.List.{List, [], ◌∷◌, ◌++◌, append-nil, flat_map}
use Rattle.spec_lists.proofs.ListLaws.{test_cases, flat_map_append}
use Rattle.spec_projection.specs.Projection.{Entry, Projection}
use Rattle.spec_projection.specs.Lookups.{KeyedValue, keyed_value, entries_in, entries_of}
use Rattle.spec_panel_print.specs.Print.{entry_lines, collection_lines, line_octets, collection_print}
use Rattle.panel_print.specs.EntriesPrint.{entry_print, row_print}

pub own_print : (c : ℕ) (e : Entry) → eqb e.collection c ≡ true → entry_print (keyed_value e) ≡ row_print c e
unfolding row_print entries_in flat_map
own_print c e t = rw t (sym (append-nil (entry_print (keyed_value e))))

pub other_print : (c : ℕ) (e : Entry) → eqb e.collection c ≡ false → [] ≡ row_print c e
unfolding row_print entries_in flat_map
other_print c e t = rw t

lines_joined : (es : List KeyedValue) → flat_map line_octets (flat_map entry_lines es) ≡ flat_map entry_print es
unfolding flat_map entry_print
lines_joined [] = refl
lines_joined (e ∷ es) = flat_map_append line_octets (entry_lines e) (flat_map entry_lines es) ∙ ap (λ (x : List ℕ). flat_map line_octets (entry_lines e) ++ x) (lines_joined es)

rows_joined : (c : ℕ) (es : List Entry) → flat_map (row_print c) es ≡ flat_map entry_print (entries_in c es)
unfolding flat_map row_print entries_in
rows_joined c [] = refl
rows_joined c (e ∷ es) =
    test_cases (eqb e.collection c)
    (λ t. rw (t, rows_joined c es, append-nil (entry_print (keyed_value e))))
    (λ t. rw (t, rows_joined c es))

-- the rows of a table print the collection
pub rows_print : (p : Projection) (c : ℕ) → flat_map (row_print c) p.entries ≡ collection_print p c
unfolding collection_print collection_lines entries_of
rows_print p c = rows_joined c p.entries ∙ sym (lines_joined (entries_in c p.entries))
