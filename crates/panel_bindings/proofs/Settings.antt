-- A record set in a table by its key is the record set in the projection's list.
use Prim.Native.Nat.{ℕ}
use mathlib.Core.Path.{◌≡◌, ap, ◌∙◌, subst}
use mathlib.Core.List.{List, [], ◌∷◌, map}
use lib.ListN.{length}
use lib.Dec.{leb}
use Rattle.std.specs.Prelude.{if◌then◌else◌, Result}
use Rattle.spec_lists.specs.Lists.{All}
use Rattle.spec_lists.proofs.ListLaws.{all_map}
use Rattle.spec_lists.specs.Order.{upsert}
use Rattle.spec_patch.specs.Sizes.{projection_bindings, projection_availabilities}
use Rattle.spec_projection.specs.Projection.{Binding, NodeAvailability, Projection, binding_key, availability_key}
use Rattle.spec_projection.specs.Apply.{done, stopped, projection_full, with_bindings, with_availabilities, apply_binding, apply_availability}
use Rattle.spec_projection.specs.Valid.{FitsBinding, FitsNodeAvailability, Valid}
use Rattle.bytes_records.specs.Keys.{leading_numbers}
use Rattle.bytes_records.specs.Table.{Wide, HoldsRows}
use Rattle.bytes_records.specs.Search.{place_of, upsert_at, PlaceWithin}
use Rattle.panel_rows.specs.Rows.{availability_width, availability_row, binding_fields, availability_fields}
use Rattle.panel_rows.specs.RowsLaws.{availability_key_lem}
use Rattle.local_projection_state.specs.Stores.{Stored}
use Rattle.panel_bindings.specs.Change.{Became, RowsBecame}
use Rattle.panel_bindings.specs.ChangeLaws.{upserted_rows, set_became}
use Rattle.panel_bindings.proofs.Upserts.{Made}
use Rattle.std.specs.Prelude.{Result}
use Rattle.local_projection_state.specs.declared.LocalProjectionApplicationError.{LocalProjectionApplicationError}

-- what the calls told: where the row goes, what it is, and what became of the table
pub record ToldSetting {A : Type 0} (row : A → List ℕ) (key : A → List ℕ) (rowKey : List ℕ → List ℕ) (w n : ℕ) (a : A) (table exit bytes : List ℕ) (place : Result ℕ ℕ) (r : Result ℕ LocalProjectionApplicationError) : Type 0 where
  pub same : length exit ≡ length table
  pub is : bytes ≡ row a
  pub wide : Wide w bytes
  pub within : PlaceWithin n place
  pub placed : (rows : List (List ℕ)) → HoldsRows w n table rows → place ≡ place_of rowKey (key a) rows
  pub made : Made w n table exit bytes r place

module _ {A : Type 0} (row : A → List ℕ) (key : A → List ℕ) (rowKey : List ℕ → List ℕ) (w capacity : ℕ) (Fits : A → Type 0) (keys : (x : A) → Fits x → rowKey (row x) ≡ key x) where
  set_made : (Next : ℕ → Projection → Type 0) (put : List A → Projection) (a : A) (l : List A) (n : ℕ) (table exit bytes : List ℕ) (place : Result ℕ ℕ) (r : Result ℕ LocalProjectionApplicationError)
      → ((m : ℕ) → Stored row w capacity m exit (upsert key a l) → Next m (put (upsert key a l))) → All Fits l → Stored row w capacity n table l → ToldSetting row key rowKey w n a table exit bytes place r
      → Became Next r (if leb (length (upsert key a l)) capacity then done (put (upsert key a l)) else stopped projection_full)
  set_made Next put a l n table exit bytes place r next fit s t =
      set_became row key rowKey w capacity Next put exit (t.same ∙ s.size) (upsert key a l) next r
      (subst (λ (rows : List (List ℕ)). RowsBecame w capacity rows exit r)
      (ap (λ (x : List ℕ). upsert_at place x (map row l)) t.is
      ∙ upserted_rows row key rowKey w capacity a l place (all_map Fits (λ x. rowKey (row x) ≡ key x) keys l fit) (t.placed (map row l) s.rows))
      (t.made capacity (map row l) s.size s.rows t.wide t.within))

module _ (n : ℕ) (table exit bytes : List ℕ) (place : Result ℕ ℕ) (r : Result ℕ LocalProjectionApplicationError) (p : Projection) (v : Valid p) where
  -- rows of any width that begin with the node and the slot
  pub binding_set : (row : Binding → List ℕ) (w : ℕ) → ((b : Binding) → FitsBinding b → leading_numbers binding_fields (row b) ≡ binding_key b)
      → (b : Binding) → Stored row w projection_bindings n table p.bindings → ToldSetting row binding_key (leading_numbers binding_fields) w n b table exit bytes place r
      → Became (λ m q. Stored row w projection_bindings m exit q.bindings) r (apply_binding p b)
  unfolding apply_binding with_bindings
  binding_set row w keys b s t =
      set_made row binding_key (leading_numbers binding_fields) w projection_bindings FitsBinding keys
      (λ m q. Stored row w projection_bindings m exit q.bindings) (with_bindings p) b p.bindings n table exit bytes place r (λ m h. h) v.fit_bindings s t

  pub availability_set : (a : NodeAvailability) → Stored availability_row availability_width projection_availabilities n table p.availabilities
      → ToldSetting availability_row availability_key (leading_numbers availability_fields) availability_width n a table exit bytes place r
      → Became (λ m q. Stored availability_row availability_width projection_availabilities m exit q.availabilities) r (apply_availability p a)
  unfolding apply_availability with_availabilities
  availability_set a s t =
      set_made availability_row availability_key (leading_numbers availability_fields) availability_width projection_availabilities FitsNodeAvailability availability_key_lem
      (λ m q. Stored availability_row availability_width projection_availabilities m exit q.availabilities) (with_availabilities p) a p.availabilities n table exit bytes place r (λ m h. h) v.fit_availabilities s t
