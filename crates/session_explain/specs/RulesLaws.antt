-- The rule of an insert and of a move, by what the searches in the entries answer.
use Rattle.std.specs.Prelude as code
use Rattle.std.specs.Prelude.{ℕ, ◌≡◌, List}
use Rattle.std.proofs.Common.{sym, ap, ap₂, ◌∙◌}
use Rattle.std.proofs.Math.Option.{Option}
use Rattle.spec_patch.specs.Patch.{Value, insert, move}
use Rattle.spec_projection.specs.Projection.{Projection}
use Rattle.spec_projection.specs.Entries.{is_entry, contains}
use Rattle.bytes_records.specs.Search.{find_first_row}
use Rattle.bytes_records.specs.SearchLaws.{find_at, find_absent}
use Rattle.panel_entries.specs.Places.{place_before}
use Rattle.panel_entries.specs.PlacesLaws.{neighbour_at, neighbour_absent_lem}
use Rattle.spec_explain.specs.OperationRule.{key_present, key_absent, neighbour_absent, entries_full, rule_of}
use Rattle.projection_patch.specs.Meaning.{value_of, before_of, operation_of}
use Rattle.projection_patch.specs.declared.contract_primitives.CollectionKey.{CollectionKey}
use Rattle.projection_patch.specs.declared.contract_primitives.StaticNodeId.{StaticNodeId}
use Rattle.projection_patch.specs.declared.patch.ProjectionPatchValue.{ProjectionPatchValue}
use Rattle.projection_patch.specs.declared.patch.ProjectionPatchOperation.{ProjectionPatchOperation}
use Rattle.projection_patch.specs.declared.patch.ProjectionPatchOperation.TheVariants.{CollectionInsert, CollectionMove}
use Rattle.session_explain.specs.Reasons.{operation_rule_to}
use Rattle.session_explain.specs.declared.reasons.OperationRule.{OperationRule}
use Rattle.std.specs.Prelude.{Some, None}

module _ (p : Projection) (c k : ℕ) (before : Option ℕ) where
  module _ (v : Value) where
    pub rule_insert_present : (i : ℕ) → find_first_row (is_entry c k) p.entries ≡ Some i → operation_rule_to key_present ≡ operation_rule_to (rule_of p (insert c k before v))
    unfolding rule_of contains
    rule_insert_present i h = rw (find_at (is_entry c k) p.entries i h).2

    module _ (absent : find_first_row (is_entry c k) p.entries ≡ None) where
      pub rule_insert_full : (i : ℕ) → place_before c before p.entries ≡ Some i → operation_rule_to entries_full ≡ operation_rule_to (rule_of p (insert c k before v))
      unfolding rule_of contains
      rule_insert_full i h =
          rw (find_absent (is_entry c k) p.entries absent, (neighbour_at before (record { collection = c; key = k; mark = 0; value = v }) p.entries i h).0)

      pub rule_insert_no_neighbour : place_before c before p.entries ≡ None → operation_rule_to neighbour_absent ≡ operation_rule_to (rule_of p (insert c k before v))
      unfolding rule_of contains
      rule_insert_no_neighbour h = rw (find_absent (is_entry c k) p.entries absent, neighbour_absent_lem c before p.entries h)

  pub rule_move_no_neighbour : (i : ℕ) → find_first_row (is_entry c k) p.entries ≡ Some i → operation_rule_to neighbour_absent ≡ operation_rule_to (rule_of p (move c k before))
  unfolding rule_of contains
  rule_move_no_neighbour i h = rw (find_at (is_entry c k) p.entries i h).2

  pub rule_move_absent : find_first_row (is_entry c k) p.entries ≡ None → operation_rule_to key_absent ≡ operation_rule_to (rule_of p (move c k before))
  unfolding rule_of contains
  rule_move_absent h = rw (find_absent (is_entry c k) p.entries h)

-- ---- the operations as they are read

module _ (p : Projection) (texts : List ℕ) {c k : ℕ} {collection : StaticNodeId} {key : CollectionKey} {before : code.Option CollectionKey} (collection-is : c ≡ collection.0) (key_is : k ≡ key.0) where
  pub insert_told : {value : ProjectionPatchValue} {o : ProjectionPatchOperation} → o ≡ CollectionInsert collection key before value → (rule : OperationRule)
      → ((v : Value) → rule ≡ operation_rule_to (rule_of p (insert c k (before_of before) v))) → rule ≡ operation_rule_to (rule_of p (operation_of texts o))
  insert_told {value} is rule told = told (value_of texts value) ∙ ap₂ (λ (i j : ℕ). operation_rule_to (rule_of p (insert i j (before_of before) (value_of texts value)))) collection-is key_is ∙ sym (ap (λ o. operation_rule_to (rule_of p (operation_of texts o))) is)

  pub move_told : {o : ProjectionPatchOperation} → o ≡ CollectionMove collection key before → (rule : OperationRule)
      → rule ≡ operation_rule_to (rule_of p (move c k (before_of before))) → rule ≡ operation_rule_to (rule_of p (operation_of texts o))
  move_told is rule told = told ∙ ap₂ (λ (i j : ℕ). operation_rule_to (rule_of p (move i j (before_of before)))) collection-is key_is ∙ sym (ap (λ o. operation_rule_to (rule_of p (operation_of texts o))) is)
