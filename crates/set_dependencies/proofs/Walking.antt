-- A walk over a set, one step at a time: what is left, from what is settled now, gives what the whole walk gives.
use Rattle.std.specs.Prelude as code
use Prim.Native.Nat.{ℕ, ◌+◌, ◌*◌, ◌≤◌}
use mathlib.Core.Path.{◌≡◌, refl, sym, ap, ap₂, ◌∙◌, subst}
use mathlib.Core.List.{List, []}
use mathlib.Core.Option.{Option, none, some}
use native.Mathlib.Omega.{arith}
use lib.ListN.{length}
use Rattle.spec_patch.specs.Sizes.{set_bytes}
use Rattle.spec_patch.specs.Edition.{Edition}
use Rattle.spec_patch.specs.Patch.{Operation, Patch}
use Rattle.spec_patch.specs.Encode.{encode_operation}
use Rattle.spec_dependencies.specs.Expectations.{expectations}
use Rattle.spec_dependencies.specs.Settled.{Settled, judge_all}
use Rattle.spec_dependencies.specs.Dependencies.{SettlingWalk, contradicts, settle_on, settle_step, settle_operations, settle_patches}
use Rattle.spec_dependencies.proofs.CountLaws.{judge_all_length, expectations_bytes}
use Rattle.projection_patch.specs.Meaning.{operation_of}
use Rattle.projection_patch.specs.ReadAnswers.{lent_from}
use Rattle.projection_patch.specs.declared.patch.ProjectionPatch.{ProjectionPatch}
use Rattle.projection_patch.specs.declared.patch.ProjectionPatchOperation.{ProjectionPatchOperation}
use Rattle.projection_patch.specs.declared.patch.ProjectionPatchOperation.TheVariants.{SetBindingValue, SetNodeAvailability, CollectionInsert, CollectionUpdate, CollectionRemove, CollectionMove}
use Rattle.patch_walk.specs.Steps.{AtSteps}
use Rattle.patch_walk.proofs.StepsLaws.{Visited, Opened}
use Rattle.patch_walk.specs.declared.SetCursor.{SetCursor}
use Rattle.set_dependencies.specs.SettledRows.{SettledIn, no_places}
use Rattle.set_dependencies.specs.declared.settled_rows.SettledPlaces.{SettledPlaces}
use Rattle.set_dependencies.specs.Settling.{SettlesTo, Judges}
use Rattle.set_dependencies.specs.SettlingLaws.{places_length}
use Rattle.set_dependencies.specs.SetSettling.{SetSettlesTo}
use Rattle.set_dependencies.specs.declared.walk_set.SettlingStop.TheVariants as settling-stop

-- an operation expects the same, whatever its text
expects_alike : (texts : List ℕ) (o : ProjectionPatchOperation) → expectations (operation_of texts o) ≡ expectations (operation_of [] o)
unfolding expectations
expects_alike texts (SetBindingValue t v) = refl
expects_alike texts (SetNodeAvailability n a) = refl
expects_alike texts (CollectionInsert c k b v) = refl
expects_alike texts (CollectionUpdate c k v) = refl
expects_alike texts (CollectionRemove c k) = refl
expects_alike texts (CollectionMove c k b) = refl

module _ (ed : Edition) (set : List ℕ) (whole : SettlingWalk) where
  -- operations of the open patch are left, then patches; settling their keys too gives what the whole walk gives
  pub record SettlingRun (c : SetCursor) (places : SettledPlaces) (opened patch index : ℕ) (table : List ℕ) : Type 0 where
    pub os : List Operation
    pub ps : List Patch
    pub here : AtSteps ed set c os ps
    pub settled : List Settled
    pub stored : SettledIn places table settled
    -- 13 bytes for each key
    pub few : 13 * places.count ≤ c.at
    pub same : settle_on (settle_operations patch index os settled) (λ u. settle_patches opened ps u) ≡ whole

  module _ {c : SetCursor} {places : SettledPlaces} {opened patch index : ℕ} {table : List ℕ} (w : SettlingRun c places opened patch index table) where
    pub settling_end : (w.os ≡ []) × (w.ps ≡ []) → SetSettlesTo whole (code.Ok places) table
    unfolding settle_operations settle_patches
    settling_end all =
        subst (λ x. SetSettlesTo x (code.Ok places) table)
        (ap₂ (λ (os : List Operation) (ps : List Patch). settle_on (settle_operations patch index os w.settled) (λ u. settle_patches opened ps u)) (sym all.0) (sym all.1) ∙ w.same) w.stored

    -- a patch's head: its operations are left now, counted from 0
    pub settling_head : {head : ProjectionPatch} {d : SetCursor} → Opened ed set c w.os w.ps head d → SettlingRun d places (opened + 1) opened 0 table
    unfolding settle_operations settle_patches
    settling_head o = record {
      os = o.first.operations;
      ps = o.rest;
      here = o.next;
      settled = w.settled;
      stored = w.stored;
      few = omega (arith, w.few, ap (λ (x : SetCursor). x.at) o.behind);
      same = ap₂ (λ (os : List Operation) (ps : List Patch). settle_on (settle_operations patch index os w.settled) (λ u. settle_patches opened ps u)) (sym o.none) (sym o.is) ∙ w.same;
    }

    -- ---- an operation

    module _ {x : ProjectionPatchOperation} {d : SetCursor} (v : Visited ed set c w.os w.ps x d) (short : length set ≤ set_bytes) where
      expected : expectations (operation_of [] x) ≡ expectations v.first
      expected = sym (expects_alike (lent_from set c.at) x) ∙ ap expectations v.means

      position : d.at ≡ c.at + length (encode_operation v.first)
      position = ap (λ (y : SetCursor). y.at) v.behind

      -- the walk after the operation, by what its expectations come to
      by_step : (y : Option (List Settled)) → judge_all (expectations v.first) w.settled ≡ y
          → settle_on (settle_on (settle_step patch index y) (λ u. settle_operations patch (index + 1) v.rest u)) (λ u. settle_patches opened w.ps u) ≡ whole
      unfolding settle_operations
      by_step y e =
          ap (λ z. settle_on (settle_on (settle_step patch index z) (λ u. settle_operations patch (index + 1) v.rest u)) (λ u. settle_patches opened w.ps u)) (sym e)
          ∙ ap (λ (os : List Operation). settle_on (settle_operations patch index os w.settled) (λ u. settle_patches opened w.ps u)) (sym v.is) ∙ w.same

      -- it goes on, or the whole walk ends at this operation
      abbrev AfterSettling : List ℕ → code.Option SettledPlaces → Type 0
      AfterSettling exit (code.Some more) = SettlingRun d more opened patch (index + 1) exit
      AfterSettling exit code.None = whole ≡ contradicts patch index

      module _ (exit : List ℕ) where
        go : (r : code.Option SettledPlaces) (y : Option (List Settled)) → judge_all (expectations v.first) w.settled ≡ y → SettlesTo y r exit → AfterSettling exit r
        go (code.Some more) none e h = absurd h
        go (code.Some more) (some u) e h = record {
          os = v.rest;
          ps = w.ps;
          here = v.next;
          settled = u;
          stored = h;
          few = omega (arith, w.few, position, expectations_bytes v.first, judge_all_length (expectations v.first) w.settled u e, places_length u h, places_length w.settled w.stored);
          same = by_step (some u) e;
        }
        go code.None none e h = sym (by_step none e)
        go code.None (some u) e h = absurd h

        after : (r : code.Option SettledPlaces) → Judges places table exit r (expectations (operation_of [] x)) → AfterSettling exit r
        after r judges =
            let within = v.next.inside in
            go r (judge_all (expectations v.first) w.settled) refl
            (subst (Judges places table exit r) expected judges w.settled w.stored (omega (arith, w.few, position, expectations_bytes v.first, within, short)))

        pub settling_on : {r : code.Option SettledPlaces} {more : SettledPlaces} → Judges places table exit r (expectations (operation_of [] x)) → r ≡ code.Some more → SettlingRun d more opened patch (index + 1) exit
        settling_on {r} judges is = subst (AfterSettling exit) is (after r judges)

        pub settling_contradicts : {r : code.Option SettledPlaces} → Judges places table exit r (expectations (operation_of [] x)) → r ≡ code.None → SetSettlesTo whole (code.Err (settling-stop.Contradiction patch index)) exit
        settling_contradicts {r} judges is = subst (λ y. SetSettlesTo y (code.Err (settling-stop.Contradiction patch index)) exit) (sym (subst (AfterSettling exit) is (after r judges))) (refl, refl)

pub settling_start : (ed : Edition) (set : List ℕ) {c : SetCursor} {table : List ℕ} (ps : List Patch) → AtSteps ed set c [] ps → SettledIn no_places table [] → SettlingRun ed set (settle_patches 0 ps []) c no_places 0 0 0 table
unfolding settle_operations
settling_start ed set ps here stored = record { os = []; ps = ps; here = here; settled = []; stored = stored; few = omega arith; same = refl }
