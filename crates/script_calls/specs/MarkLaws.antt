-- A lookup in a projection tells the mark of what it finds.
use Rattle.std.specs.Prelude.{ℕ, ◌≡◌, [], ◌∷◌}
use Rattle.spec_lists.specs.Order.{lookup}
use Rattle.spec_projection.specs.Projection.{Binding, NodeAvailability, Entry, Projection, binding_key, availability_key}
use Rattle.spec_projection.specs.FirstMatch.{find_first}
use Rattle.spec_projection.specs.Entries.{is_entry}
use Rattle.spec_projection.specs.Lookups.{binding_of, availability_of, entry_of, binding_mark, availability_mark, entry_mark}
use Rattle.spec_replay.specs.Answers.{mark_line}
use Rattle.panel_rows.specs.Lookup.{value_lookup, availability_lookup}
use Rattle.script_answers.specs.LookupLines.{mark_lookup_line, value_mark_told, availability_mark_told}

module _ (p : Projection) where
  pub binding_mark_told : (node slot : ℕ) → let l = value_lookup (binding_mark p node slot) (binding_of p node slot) in mark_lookup_line l.found l.mark ≡ mark_line (binding_mark p node slot)
  unfolding binding_of binding_mark
  binding_mark_told node slot = value_mark_told (λ (b : Binding). b.mark) (λ b. b.value) (lookup binding_key (node ∷ slot ∷ []) p.bindings)

  pub node_mark_told : (node : ℕ) → let l = availability_lookup (availability_mark p node) (availability_of p node) in mark_lookup_line l.found l.mark ≡ mark_line (availability_mark p node)
  unfolding availability_of availability_mark
  node_mark_told node = availability_mark_told (λ (a : NodeAvailability). a.mark) (λ a. a.availability) (lookup availability_key (node ∷ []) p.availabilities)

  pub entry_mark_told : (collection key : ℕ) → let l = value_lookup (entry_mark p collection key) (entry_of p collection key) in mark_lookup_line l.found l.mark ≡ mark_line (entry_mark p collection key)
  unfolding entry_of entry_mark
  entry_mark_told collection key = value_mark_told (λ (e : Entry). e.mark) (λ e. e.value) (find_first (is_entry collection key) p.entries)
