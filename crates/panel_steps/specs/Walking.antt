-- A walk over a set, one step at a time: what is left, from what stands now, gives what the whole walk gives. One law for every step function.
use Prim.Native.Nat.{ℕ, suc, ◌+◌}
use Rattle.std.specs.Prelude.{◌≡◌}
use Rattle.std.proofs.Math.Path.{sym, ap, ap₂}
use Rattle.std.proofs.Common.{◌∙◌}
use mathlib.Core.List.{List, []}
use Rattle.std.proofs.Math.Option.{Option, none, some}
use native.Mathlib.Omega.{arith}
use Rattle.spec_patch.specs.Edition.{Edition}
use Rattle.spec_patch.specs.Patch.{Operation, Patch}
use Rattle.spec_explain.specs.Walk.{Walk, through, halted, walk_on, walk_step, walk_operations, walk_patches}
use Rattle.projection_patch.specs.declared.patch.ProjectionPatch.{ProjectionPatch}
use Rattle.projection_patch.specs.declared.patch.ProjectionPatchOperation.{ProjectionPatchOperation}
use Rattle.patch_walk.specs.Steps.{AtSteps}
use Rattle.patch_walk.proofs.StepsLaws.{Visited, Opened}
use Rattle.patch_walk.specs.declared.SetCursor.{SetCursor}

module _ {S : Type 0} (step : S → ℕ → Operation → Option S) (ed : Edition) (set : List ℕ) (whole : Walk S) where
  -- operations of the open patch are left, then patches; so many patches were opened, the last of index `patch`, and so many of its operations walked
  pub record Walking (c : SetCursor) (opened patch index : ℕ) (s : S) : Type 0 where
    pub os : List Operation
    pub ps : List Patch
    pub here : AtSteps ed set c os ps
    pub same : walk_on (walk_operations step patch c.patch_id index s os) (λ t. walk_patches step opened t ps) ≡ whole

  module _ {c : SetCursor} {opened patch index : ℕ} {s : S} (w : Walking c opened patch index s) where
    pub walk_end : (w.os ≡ []) × (w.ps ≡ []) → whole ≡ through s
    unfolding walk_operations walk_patches
    walk_end all = sym (ap₂ (λ (os : List Operation) (ps : List Patch). walk_on (walk_operations step patch c.patch_id index s os) (λ t. walk_patches step opened t ps)) (sym all.0) (sym all.1) ∙ w.same)

    -- the same with its counts told in another way
    unfoldable pub walk_counted : {opened' patch' index' : ℕ} → opened' ≡ opened → patch' ≡ patch → index' ≡ index → Walking c opened' patch' index' s
    walk_counted {patch' = i} {index' = j} os is js = record {
      os = w.os;
      ps = w.ps;
      here = w.here;
      same =
          ap (λ (k : ℕ). walk_on (walk_operations step i c.patch_id j s w.os) (λ t. walk_patches step k t w.ps)) os
          ∙ ap₂ (λ (k n : ℕ). walk_on (walk_operations step k c.patch_id n s w.os) (λ t. walk_patches step opened t w.ps)) is js ∙ w.same;
    }

    -- a patch's head: its operations are left now, counted from 0
    unfoldable pub walk_head : {head : ProjectionPatch} {d : SetCursor} → Opened ed set c w.os w.ps head d → Walking d (opened + 1) opened 0 s
    unfolding walk_operations walk_patches
    walk_head {head} {d} o =
        let next : opened + 1 ≡ suc opened = omega arith in
        let id : d.patch_id ≡ o.first.envelope.id = ap (λ (x : SetCursor). x.patch_id) o.behind ∙ ap (λ (h : ProjectionPatch). h.envelope.patch_id.0) o.placed in
        record {
          os = o.first.operations;
          ps = o.rest;
          here = o.next;
          same = ap₂ (λ (k j : ℕ). walk_on (walk_operations step opened k 0 s o.first.operations) (λ t. walk_patches step j t o.rest)) id next
              ∙ ap₂ (λ (os : List Operation) (ps : List Patch). walk_on (walk_operations step patch c.patch_id index s os) (λ t. walk_patches step opened t ps)) (sym o.none) (sym o.is) ∙ w.same;
        }

    module _ {x : ProjectionPatchOperation} {d : SetCursor} (v : Visited ed set c w.os w.ps x d) where
      by_step : (y : Option S) → step s c.patch_id v.first ≡ y
          → walk_on (walk_on (walk_step patch index s v.first y) (λ t. walk_operations step patch c.patch_id (suc index) t v.rest)) (λ t. walk_patches step opened t w.ps) ≡ whole
      unfolding walk_operations
      by_step y e =
          ap (λ (z : Option S). walk_on (walk_on (walk_step patch index s v.first z) (λ t. walk_operations step patch c.patch_id (suc index) t v.rest)) (λ t. walk_patches step opened t w.ps)) (sym e)
          ∙ ap (λ (os : List Operation). walk_on (walk_operations step patch c.patch_id index s os) (λ t. walk_patches step opened t w.ps)) (sym v.is) ∙ w.same

      -- an operation that lets the walk go on
      unfoldable pub walk_on_lem : (t : S) → step s c.patch_id v.first ≡ some t → Walking d opened patch (index + 1) t
      unfolding by_step
      walk_on_lem t e =
          let next : index + 1 ≡ suc index = omega arith in
          let id : d.patch_id ≡ c.patch_id = ap (λ (y : SetCursor). y.patch_id) v.behind in
          record {
            os = v.rest;
            ps = w.ps;
            here = v.next;
            same = ap₂ (λ (k j : ℕ). walk_on (walk_operations step patch k j t v.rest) (λ u. walk_patches step opened u w.ps)) id next ∙ by_step (some t) e;
          }

      -- an operation that ends it
      pub walk_halts : step s c.patch_id v.first ≡ none → whole ≡ halted (record { patch = patch; operation = index; left = s; refused = v.first })
      walk_halts e = sym (by_step none e)

  -- before the first patch, whatever stands for the patch and the operation
  unfoldable pub walk_start : {c : SetCursor} {patch index : ℕ} (ps : List Patch) (s : S) → AtSteps ed set c [] ps → walk_patches step 0 s ps ≡ whole → Walking c 0 patch index s
  unfolding walk_operations
  walk_start ps s here e = record { os = []; ps = ps; here = here; same = e }
