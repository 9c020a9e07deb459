-- Laws of what an operation answers, and of rows that ascend by a key.
use Rattle.std.specs.Prelude.{ℕ, ◌*◌, ◌≤◌, ◌<◌, ◌≡◌, refl, List, map, leb, length, if◌then◌else◌, Result, Ok, Err}
use Rattle.std.proofs.Common.{sym, ap, ◌∙◌, subst, arith, le-leb}
use Rattle.std.proofs.lemmas.Bool.{lt-leb}
use Rattle.std.proofs.lemmas.List.{length-map}
use Rattle.spec_lists.specs.Lists.{All}
use Rattle.spec_lists.specs.Order.{upsert}
use Rattle.spec_projection.specs.Projection.{Projection}
use Rattle.spec_projection.specs.Apply.{projection_full, Outcome, done, stopped}
use Rattle.bytes_records.specs.Search.{place_of, upsert_at}
use Rattle.bytes_records.specs.SearchLaws.{place_map, upsert_place, map_upsert_at}
use Rattle.local_projection_state.specs.Stores.{Stored}
use Rattle.local_projection_state.specs.Faults.{application_fault_of}
use Rattle.panel_bindings.specs.Change.{Became, RowsBecame}
use Rattle.local_projection_state.specs.declared.LocalProjectionApplicationError.{LocalProjectionApplicationError}
use Rattle.std.specs.Prelude.{Result}

module _ (Next : ℕ → Projection → Type 0) where
  pub became_done : {x : Outcome} (n : ℕ) {q : Projection} → x ≡ done q → Next n q → Became Next (Ok n) x
  became_done n e h = subst (λ y. Became Next (Ok n) y) (sym e) h

  pub became_stopped : {x : Outcome} (e : LocalProjectionApplicationError) → x ≡ stopped (application_fault_of e) → Became Next (Err e) x
  became_stopped e h = subst (λ y. Became Next (Err e) y) (sym h) refl

-- ---- a record set by its key

module _ {A : Type 0} (row : A → List ℕ) (key : A → List ℕ) (rowKey : List ℕ → List ℕ) (width capacity : ℕ) where
  -- the place that the rows tell is the one that `upsert` goes to
  pub upserted_rows : (a : A) (l : List A) (place : Result ℕ ℕ) → All (λ x. rowKey (row x) ≡ key x) l → place ≡ place_of rowKey (key a) (map row l) → upsert_at place (row a) (map row l) ≡ map row (upsert key a l)
  upserted_rows a l place h e =
      ap (λ s. upsert_at s (row a) (map row l)) (e ∙ place_map row rowKey key (key a) l h)
      ∙ sym (map_upsert_at row (place_of key (key a) l) a l) ∙ ap (map row) (sym (upsert_place key a l))

  module _ (Next : ℕ → Projection → Type 0) (put : List A → Projection) (exit : List ℕ) (same : length exit ≡ capacity * width) (list : List A)
      (next : (n : ℕ) → Stored row width capacity n exit list → Next n (put list)) where
    -- the rows of the new list, where there are places for them
    pub set_became : (r : Result ℕ LocalProjectionApplicationError) → RowsBecame width capacity (map row list) exit r → Became Next r (if leb (length list) capacity then done (put list) else stopped projection_full)
    set_became (Ok n) h =
        let few : length list ≤ capacity = omega (arith, h.0, length-map list row) in
        rw (le-leb (length list) capacity few) (next n (record { size = same; rows = h.1 }))
    set_became (Err e) h =
        let over : capacity < length list = omega (arith, h.0, length-map list row) in
        rw (lt-leb (length list) capacity over) (ap application_fault_of h.1)
