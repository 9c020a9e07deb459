-- The list that heads and operations stand for: its counts, its tests and its bytes, where the texts lie within the texts.
use Prim.Native.Nat.{ℕ, suc, ◌+◌, ◌≤◌}
use Rattle.std.specs.Prelude.{◌≡◌, Bool, ◌&&◌, length, take, drop}
use Rattle.std.proofs.Math.Path.{refl, sym, ap, ap₂}
use Rattle.std.proofs.Common.{◌∙◌, leb-true, take-add}
use Rattle.std.proofs.Math.Bool.{true}
use mathlib.Core.List.{List, [], ◌∷◌, ◌++◌, map, flat_map}
use native.Mathlib.Omega.{arith}
use Rattle.std.proofs.Math.Dec.{leb}
use Rattle.std.proofs.Math.ListN.{length-append, length-drop, length-map}
use Rattle.std.proofs.Math.Seq.{length-take-le}
use Rattle.spec_lists.specs.Lists.{all}
use Rattle.spec_lists.proofs.ListLaws.{and_left, and_right, all_test_append}
use Rattle.spec_lists.proofs.BytesLaws.{length_little_endian}
use Rattle.spec_patch.specs.Sizes.{patch_operations, text_bytes}
use Rattle.spec_patch.specs.Patch as model
use Rattle.spec_patch.specs.Edition.{Edition}
use Rattle.spec_patch.specs.Encode.{u32, encode_operation, encode_envelope, encode_counted, encode_patch}
use Rattle.spec_patch.specs.Write.{value_passes, all_values, short_enough, well_formed, few_enough}
use Rattle.projection_patch.specs.Meaning.{value_of, operation_of, envelope_of}
use Rattle.projection_patch.specs.declared.patch.ProjectionPatch.{ProjectionPatch}
use Rattle.projection_patch.specs.declared.patch.OperationPlace.{OperationPlace}
use Rattle.projection_patch.specs.declared.patch.ProjectionPatchValue.{ProjectionPatchValue}
use Rattle.projection_patch.specs.declared.patch.ProjectionPatchValue.TheVariants.{Quad, SignedScalar, UnsignedScalar, Text, Score}
use Rattle.projection_patch.specs.declared.patch.ProjectionPatchOperation.{ProjectionPatchOperation}
use Rattle.projection_patch.specs.declared.patch.ProjectionPatchOperation.TheVariants.{SetBindingValue, SetNodeAvailability, CollectionInsert, CollectionUpdate, CollectionRemove, CollectionMove}
use Rattle.patch_part_writer.specs.Extent.{value_text, operation_text}
use Rattle.patch_part_writer.specs.ExtentLaws.{length_text, length_operation, length_head}
use Rattle.patch_part_writer.specs.Parts.{short_text, inside_texts}
use Rattle.patch_writer.specs.Set.{operation_at, list_from, operation_total, head_sizes, operation_sizes, few_operations, short_at, inside_at, allowed_at, few_at}

-- ---- tests of lists

-- a test of what elements stand for is a test of the elements, where that holds of each that passes a guard
all_as : {A B : Type 0} (guard : A → Bool) (f : A → B) (test : B → Bool) (here : A → Bool) → ((a : A) → guard a ≡ true → test (f a) ≡ here a) → (l : List A) → all guard l ≡ true → all test (map f l) ≡ all here l
all_as guard f test here g [] e = refl
all_as guard f test here g (x ∷ l) e =
    ap₂ (λ (a b : Bool). a && b) (g x (and_left (guard x) (all guard l) e)) (all_as guard f test here g l (and_right (guard x) (all guard l) e))

-- ---- one operation

module _ (texts : List ℕ) where
  value_short : (v : ProjectionPatchValue) → inside_texts texts (value_text v) ≡ true → short_enough (value_of texts v) ≡ short_text (value_text v)
  unfolding short_enough
  value_short (Quad q) e = refl
  value_short (SignedScalar z) e = refl
  value_short (UnsignedScalar x) e = refl
  value_short (Text start len) e = ap (λ (n : ℕ). leb n text_bytes) (length_text texts start len (leb-true (start + len) (length texts) e))
  value_short (Score n) e = refl

  pub place_short : (p : OperationPlace) → inside_at texts p ≡ true → value_passes short_enough (operation_at texts p) ≡ short_at p
  unfolding value_passes
  place_short p e = go p.operation e
    where
      go : (o : ProjectionPatchOperation) → inside_texts texts (operation_text o) ≡ true → value_passes short_enough (operation_of texts o) ≡ short_text (operation_text o)
      go (SetBindingValue t v) e = value_short v e
      go (SetNodeAvailability n a) e = refl
      go (CollectionInsert c k b v) e = value_short v e
      go (CollectionUpdate c k v) e = value_short v e
      go (CollectionRemove c k) e = refl
      go (CollectionMove c k b) e = refl

  pub place_allowed : (ed : Edition) (p : OperationPlace) → inside_at texts p ≡ true → value_passes (well_formed ed) (operation_at texts p) ≡ allowed_at ed texts p
  place_allowed ed p e = rw e

  pub place_few : (p : OperationPlace) → inside_at texts p ≡ true → value_passes few_enough (operation_at texts p) ≡ few_at texts p
  place_few p e = refl

  -- ---- heads and the operations behind them

  pub length_list : (hs : List ProjectionPatch) (ps : List OperationPlace) → length (list_from texts hs ps) ≡ length hs
  unfolding list_from
  length_list [] ps = refl
  length_list (h ∷ hs) ps = ap suc (length_list hs (drop h.operation_count ps))

  body_size : (ps : List OperationPlace) → all (inside_at texts) ps ≡ true → length (flat_map encode_operation (map (operation_at texts) ps)) ≡ operation_sizes ps
  unfolding flat_map operation_sizes
  body_size [] e = refl
  body_size (p ∷ ps) e =
      length-append (encode_operation (operation_at texts p)) (flat_map encode_operation (map (operation_at texts) ps))
      ∙ ap₂ (λ (a b : ℕ). a + b)
      (length_operation texts p.operation (leb-true ((operation_text p.operation).start + (operation_text p.operation).len) (length texts) (and_left (inside_at texts p) (all (inside_at texts) ps) e)))
      (body_size ps (and_right (inside_at texts p) (all (inside_at texts) ps) e))

  sizes_append : (a b : List OperationPlace) → operation_sizes (a ++ b) ≡ operation_sizes a + operation_sizes b
  unfolding operation_sizes
  sizes_append [] b = omega arith
  sizes_append (p ∷ a) b = omega (arith, sizes_append a b)

  -- the places of the first patch, and those of the others
  parted : {A : Type 0} (f : List OperationPlace → A) (h : ProjectionPatch) (hs : List ProjectionPatch) (ps : List OperationPlace) → f (take (operation_total (h ∷ hs)) ps) ≡ f (take h.operation_count ps ++ take (operation_total hs) (drop h.operation_count ps))
  unfolding operation_total
  parted f h hs ps = ap f (take-add h.operation_count (operation_total hs) ps)

  -- the counts are those of the heads
  module _ (h : ProjectionPatch) (hs : List ProjectionPatch) (ps : List OperationPlace) (enough : operation_total (h ∷ hs) ≤ length ps) where
    first_many : length (map (operation_at texts) (take h.operation_count ps)) ≡ h.operation_count
    unfolding operation_total
    first_many = length-map (take h.operation_count ps) (operation_at texts) ∙ length-take-le h.operation_count ps (omega arith)

    others_enough : operation_total hs ≤ length (drop h.operation_count ps)
    unfolding operation_total
    others_enough = omega (arith, length-drop h.operation_count ps)

    module _ (test : OperationPlace → Bool) (e : all test (take (operation_total (h ∷ hs)) ps) ≡ true) where
      both : (all test (take h.operation_count ps) && all test (take (operation_total hs) (drop h.operation_count ps))) ≡ true
      both = sym (all_test_append test (take h.operation_count ps) (take (operation_total hs) (drop h.operation_count ps))) ∙ sym (parted (all test) h hs ps) ∙ e

      first_pass : all test (take h.operation_count ps) ≡ true
      first_pass = and_left (all test (take h.operation_count ps)) _ both

      others_pass : all test (take (operation_total hs) (drop h.operation_count ps)) ≡ true
      others_pass = and_right (all test (take h.operation_count ps)) _ both

  pub counts_list : (hs : List ProjectionPatch) (ps : List OperationPlace) → operation_total hs ≤ length ps → all (λ (p : model.Patch). leb (length p.operations) patch_operations) (list_from texts hs ps) ≡ all few_operations hs
  unfolding list_from
  counts_list [] ps enough = refl
  counts_list (h ∷ hs) ps enough =
      ap₂ (λ (a b : Bool). a && b) (ap (λ (n : ℕ). leb n patch_operations) (first_many h hs ps enough)) (counts_list hs (drop h.operation_count ps) (others_enough h hs ps enough))

  pub values_list : (test : model.Value → Bool) (here : OperationPlace → Bool) → ((p : OperationPlace) → inside_at texts p ≡ true → value_passes test (operation_at texts p) ≡ here p)
      → (hs : List ProjectionPatch) (ps : List OperationPlace) → operation_total hs ≤ length ps → all (inside_at texts) (take (operation_total hs) ps) ≡ true
      → all_values test (list_from texts hs ps) ≡ all here (take (operation_total hs) ps)
  unfolding list_from all_values operation_total
  values_list test here g [] ps enough e = refl
  values_list test here g (h ∷ hs) ps enough e =
      let n = h.operation_count in
      ap₂ (λ (a b : Bool). a && b)
      (all_as (inside_at texts) (operation_at texts) (value_passes test) here g (take n ps) (first_pass h hs ps enough (inside_at texts) e))
      (values_list test here g hs (drop n ps) (others_enough h hs ps enough) (others_pass h hs ps enough (inside_at texts) e))
      ∙ sym (all_test_append here (take n ps) (take (operation_total hs) (drop n ps)))
      ∙ sym (parted (all here) h hs ps)

  pub size_list : (hs : List ProjectionPatch) (ps : List OperationPlace) → operation_total hs ≤ length ps → all (inside_at texts) (take (operation_total hs) ps) ≡ true
      → length (flat_map encode_patch (list_from texts hs ps)) ≡ head_sizes hs + operation_sizes (take (operation_total hs) ps)
  unfolding flat_map list_from operation_total head_sizes operation_sizes encode_patch encode_counted
  size_list [] ps enough e = refl
  size_list (h ∷ hs) ps enough e =
      let n = h.operation_count in
      let operations = map (operation_at texts) (take n ps) in
      let envelope = encode_envelope (envelope_of h.envelope) in
      let count = u32 (length operations) in
      let mine = flat_map encode_operation operations in
      let others = flat_map encode_patch (list_from texts hs (drop n ps)) in
      omega (
        arith,
        length-append (envelope ++ (count ++ mine)) others,
        length-append envelope (count ++ mine),
        length-append count mine,
        length_little_endian 4 (length operations),
        length-append envelope (u32 n),
        length_little_endian 4 n,
        length_head h,
        body_size (take n ps) (first_pass h hs ps enough (inside_at texts) e),
        size_list hs (drop n ps) (others_enough h hs ps enough) (others_pass h hs ps enough (inside_at texts) e),
        sizes_append (take n ps) (take (operation_total hs) (drop n ps)),
        parted operation_sizes h hs ps,
      )
