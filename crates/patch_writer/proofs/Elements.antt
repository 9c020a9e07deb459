-- The elements of a slice, passed one by one.
use Rattle.std.specs.Prelude as code
use Prim.Native.Nat.{ℕ, zero, suc, ◌+◌, ◌<◌}
use mathlib.Core.Path.{◌≡◌, sym, ap, ◌∙◌}
use mathlib.Core.Bool.{Bool, true}
use mathlib.Core.List.{List, [], ◌∷◌}
use native.Mathlib.Numerals.{add-one}
use native.Mathlib.Omega.{arith}
use lib.ListN.{length, get_or, drop}
use lib.Seq.{drop-cons}
use Rattle.spec_lists.specs.Lists.{all}
use Rattle.spec_lists.proofs.ListLaws.{and_left, and_right}
use Rattle.projection_patch.specs.declared.patch.ProjectionQuadState.TheVariants as quad
use Rattle.projection_patch.specs.declared.patch.ProjectionPatchValue.TheVariants.{Quad}
use Rattle.projection_patch.specs.declared.patch.ProjectionPatchOperation.TheVariants.{SetBindingValue}
use Rattle.projection_patch.specs.declared.patch.ProjectionPatch.{ProjectionPatch}
use Rattle.projection_patch.specs.declared.patch.OperationPlace.{OperationPlace}

module _ {A : Type 0} where
  -- the element at index i, and what is left behind it
  pub whole_cons : (l : List A) (i : ℕ) (d : A) → i < length l → drop i l ≡ get_or l i d ∷ drop (i + 1) l
  whole_cons l i d more = drop-cons l i d more ∙ ap (λ (k : ℕ). get_or l i d ∷ drop k l) (sym (add-one i))

  -- each passes
  pub all_get_d : (test : A → Bool) (l : List A) (i : ℕ) (d : A) → all test l ≡ true → i < length l → test (get_or l i d) ≡ true
  all_get_d test [] i d e h = absurd (omega arith)
  all_get_d test (x ∷ l) zero d e h = and_left (test x) (all test l) e
  all_get_d test (x ∷ l) (suc i) d e h = all_get_d test l i d (and_right (test x) (all test l) e) (omega arith)

-- ---- what a read past the end of an array would give

abbrev pub no_patch : ProjectionPatch
no_patch = record {
  envelope = record {
    patch_id = record { 0 = 0 };
    stream_id = record { 0 = 0 };
    document_id = record { 0 = 0 };
    surface_id = code.None;
    previous_projection_revision = record { 0 = 0 };
    projection_revision = record { 0 = 0 };
    epoch = record { 0 = 0 };
    sequence = record { 0 = 0 };
  };
  operation_count = 0;
}

abbrev pub no_text_place : OperationPlace
no_text_place = record { operation = SetBindingValue (record { node = record { 0 = 0 }; slot = record { 0 = 0 } }) (Quad quad.N) }
