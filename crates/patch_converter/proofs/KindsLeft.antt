-- A walk that asks for the kind of each value: what is left answers as the whole does.
use Prim.Native.Nat.{ℕ}
use mathlib.Core.Path.{◌≡◌, refl, sym, ap, ap₂, ◌∙◌}
use mathlib.Core.Bool.{Bool, true, false, ◌&&◌}
use mathlib.Core.List.{List, [], ◌∷◌}
use Rattle.spec_lists.specs.Lists.{all}
use Rattle.spec_patch.specs.Patch.{Value, quad, signed, text, unsigned, score, Operation, set_binding, set_availability, insert, update, remove, move, Patch}
use Rattle.spec_patch.specs.Edition.{Edition, kinds, has_kind}
use Rattle.spec_patch.specs.Encode.{kind_of}
use Rattle.spec_patch.specs.Write.{value_passes, all_values}
use Rattle.spec_conversion.specs.Conversion.{kind_in, all_kinds}
use Rattle.projection_patch.specs.declared.patch.ProjectionPatch.{ProjectionPatch}
use Rattle.projection_patch.specs.declared.patch.ProjectionPatchOperation.{ProjectionPatchOperation}
use Rattle.patch_walk.specs.Steps.{AtSteps}
use Rattle.patch_walk.proofs.StepsLaws.{Visited, Opened}
use Rattle.patch_walk.specs.declared.SetCursor.{SetCursor}

-- an edition with scores has every kind
module _ (ed : Edition) (scores : has_kind ed 5 ≡ true) where
  every_kind : (v : Value) → kind_in ed v ≡ true
  unfolding kind_of kinds has_kind
  every_kind (quad q) = refl
  every_kind (signed z) = refl
  every_kind (text t) = refl
  every_kind (unsigned x) = refl
  every_kind (score n) = scores

  every_operation : (o : Operation) → value_passes (kind_in ed) o ≡ true
  unfolding value_passes
  every_operation (set_binding n s v) = every_kind v
  every_operation (set_availability n a) = refl
  every_operation (insert c k b v) = every_kind v
  every_operation (update c k v) = every_kind v
  every_operation (remove c k) = refl
  every_operation (move c k b) = refl

  every : {A : Type 0} (test : A → Bool) → ((a : A) → test a ≡ true) → (l : List A) → all test l ≡ true
  every test f [] = refl
  every test f (x ∷ l) = ap₂ (λ (a b : Bool). a && b) (f x) (every test f l)

  pub every_list : (ps : List Patch) → all_kinds ed ps ≡ true
  unfolding all_kinds all_values
  every_list ps = every (λ (p : Patch). all (value_passes (kind_in ed)) p.operations) (λ (p : Patch). every (value_passes (kind_in ed)) every_operation p.operations) ps

-- these operations of a patch are left, then these patches
abbrev kinds_of : Edition → List Operation → List Patch → Bool
kinds_of to os ps = all (value_passes (kind_in to)) os && all_kinds to ps

pub record KindsLeft (from to : Edition) (set : List ℕ) (c : SetCursor) (whole : Bool) : Type 0 where
  pub os : List Operation
  pub ps : List Patch
  pub here : AtSteps from set c os ps
  pub same : kinds_of to os ps ≡ whole

module _ {from to : Edition} {set : List ℕ} {c : SetCursor} where
  pub kinds_start : (ps : List Patch) → AtSteps from set c [] ps → KindsLeft from to set c (all_kinds to ps)
  kinds_start ps h = record { os = []; ps = ps; here = h; same = refl }

  module _ {whole : Bool} (l : KindsLeft from to set c whole) where
    pub kinds_head : {h : ProjectionPatch} {d : SetCursor} → Opened from set c l.os l.ps h d → KindsLeft from to set d whole
    unfolding all_kinds all_values
    kinds_head o = record { os = o.first.operations; ps = o.rest; here = o.next; same = sym (ap₂ (kinds_of to) o.none o.is) ∙ l.same }

    module _ {x : ProjectionPatchOperation} {d : SetCursor} (v : Visited from set c l.os l.ps x d) where
      parted : kinds_of to (v.first ∷ v.rest) l.ps ≡ whole
      parted = sym (ap (λ (os : List Operation). kinds_of to os l.ps) v.is) ∙ l.same

      pub kinds_next : value_passes (kind_in to) v.first ≡ true → KindsLeft from to set d whole
      kinds_next e = record { os = v.rest; ps = l.ps; here = v.next; same = sym (ap (λ (t : Bool). (t && all (value_passes (kind_in to)) v.rest) && all_kinds to l.ps) e) ∙ parted }

      pub kinds_missing : value_passes (kind_in to) v.first ≡ false → false ≡ whole
      kinds_missing e = sym (ap (λ (t : Bool). (t && all (value_passes (kind_in to)) v.rest) && all_kinds to l.ps) e) ∙ parted

    pub kinds_end : (l.os ≡ []) × (l.ps ≡ []) → true ≡ whole
    unfolding all_kinds all_values
    kinds_end h = sym (ap₂ (kinds_of to) h.0 h.1) ∙ l.same
