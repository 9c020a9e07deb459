-- The set for a list stands for it: its places for the operations, its heads for the patches. Its arrays hold every list that fits.
use Rattle.std.specs.Prelude as code
use Rattle.projection_patch.specs.declared.contract_primitives.StaticSurfaceId.{StaticSurfaceId}
use Rattle.std.specs.Prelude.{ℕ, suc, ◌+◌, ◌*◌, ◌≤◌, ◌≡◌, refl, Bool, true, ◌&&◌, drop}
use Rattle.std.proofs.Common.{sym, ap₂, ◌∙◌, arith, drop_at, drop-drop}
use Rattle.std.proofs.Math.Path.{ap}
use mathlib.Core.List.{List, [], ◌∷◌, ◌++◌, map, flat_map, append_assoc, append-nil}
use Rattle.std.proofs.Math.Option.{Option, none, some}
use borrow.Author.Tests.{le-leb}
use Rattle.std.proofs.Math.ListN.{length, take, length-append, length-map}
use Rattle.std.proofs.Math.Seq.{take_at, take-length}
use Rattle.spec_lists.specs.Lists.{All, all}
use Rattle.spec_lists.proofs.ListLaws.{map_take, map_drop}
use Rattle.spec_patch.specs.Sizes.{patch_operations}
use Rattle.spec_patch.specs.Patch as model
use Rattle.spec_patch.specs.Edition.{Edition}
use Rattle.spec_patch.specs.Encode.{u32, heading, encode_operation, encode_patch, encode_counted, encode}
use Rattle.spec_patch.specs.Fits.{FitsPatch, Fits}
use Rattle.projection_patch.specs.Meaning.{before_of, surface_to, surface_of, envelope_to, envelope_of, value_to, value_of, operation_to, operation_of}
use Rattle.projection_patch.specs.TextLaws.{text_in, text_of, text_within, operation_encoded_back}
use Rattle.projection_patch.specs.declared.patch.ProjectionPatch.{ProjectionPatch}
use Rattle.projection_patch.specs.declared.patch.OperationPlace.{OperationPlace}
use Rattle.projection_patch.specs.declared.patch.ProjectionPatchValue.{ProjectionPatchValue}
use Rattle.projection_patch.specs.declared.patch.ProjectionPatchValue.TheVariants.{Quad, SignedScalar, UnsignedScalar, Text, Score}
use Rattle.projection_patch.specs.declared.patch.ProjectionPatchOperation.{ProjectionPatchOperation}
use Rattle.projection_patch.specs.declared.patch.ProjectionPatchOperation.TheVariants.{SetBindingValue, SetNodeAvailability, CollectionInsert, CollectionUpdate, CollectionRemove, CollectionMove}
use Rattle.patch_part_writer.specs.Extent.{surface_size, operation_size, value_text, operation_text}
use Rattle.patch_part_writer.specs.ExtentLaws.{length_heading}
use Rattle.patch_writer.specs.Set.{set_places, operation_at, list_from, operation_total, head_sizes, operation_sizes, few_operations, inside_at}
use Rattle.patch_writer.specs.SetLaws.{size_list}
use Rattle.patch_round_trip.specs.SetFor.{shift_value, shift, places_from, operations_for, texts_for, head_for, places_for}

-- ---- operations and their texts

value_shifted : (before l : List ℕ) (v : ProjectionPatchValue) → value_of (before ++ l) (shift_value (length before) v) ≡ value_of l v
value_shifted before l (Quad q) = refl
value_shifted before l (SignedScalar z) = refl
value_shifted before l (UnsignedScalar x) = refl
value_shifted before l (Text start len) =
    ap (λ (t : List ℕ). model.text (take len t)) (sym (drop-drop start (length before) (before ++ l)) ∙ ap (drop start) (drop_at before l (length before) refl))
value_shifted before l (Score n) = refl

shifted : (before l : List ℕ) (o : ProjectionPatchOperation) → operation_of (before ++ l) (shift (length before) o) ≡ operation_of l o
shifted before l (SetBindingValue t v) = ap (model.set_binding t.node.0 t.slot.0) (value_shifted before l v)
shifted before l (SetNodeAvailability n a) = refl
shifted before l (CollectionInsert c k b v) = ap (model.insert c.0 k.0 (before_of b)) (value_shifted before l v)
shifted before l (CollectionUpdate c k v) = ap (model.update c.0 k.0) (value_shifted before l v)
shifted before l (CollectionRemove c k) = refl
shifted before l (CollectionMove c k b) = refl

-- the places stand for the operations
places_back : (before : List ℕ) (os : List model.Operation) → map (operation_at (before ++ flat_map encode_operation os)) (places_from (length before) os) ≡ os
unfolding flat_map places_from
places_back before [] = refl
places_back before (o ∷ os) =
    let bytes = encode_operation o in
    let rest = flat_map encode_operation os in
    ap₂ (λ (x : model.Operation) (xs : List model.Operation). x ∷ xs)
    (shifted before (bytes ++ rest) (operation_to (length bytes) o) ∙ operation_encoded_back o rest)
    (ap₂ (λ (texts : List ℕ) (at : ℕ). map (operation_at texts) (places_from at os)) (sym (append_assoc before bytes rest)) (sym (length-append before bytes)) ∙ places_back (before ++ bytes) os)

-- each text stands within the texts
value_inside : (at size n : ℕ) (v : model.Value) → length (text_in v) ≤ size → at + size ≤ n → (value_text (shift_value at (value_to size v))).start + (value_text (shift_value at (value_to size v))).len ≤ n
unfolding text_in
value_inside at size n (model.quad q) h k = omega arith
value_inside at size n (model.signed z) h k = omega arith
value_inside at size n (model.text t) h k = omega arith
value_inside at size n (model.unsigned x) h k = omega arith
value_inside at size n (model.score x) h k = omega arith

operation_inside : (at size n : ℕ) (o : model.Operation) → length (text_of o) ≤ size → at + size ≤ n
    → (operation_text (shift at (operation_to size o))).start + (operation_text (shift at (operation_to size o))).len ≤ n
unfolding text_of
operation_inside at size n (model.set_binding m s v) h k = value_inside at size n v h k
operation_inside at size n (model.set_availability m a) h k = omega arith
operation_inside at size n (model.insert c key b v) h k = value_inside at size n v h k
operation_inside at size n (model.update c key v) h k = value_inside at size n v h k
operation_inside at size n (model.remove c key) h k = omega arith
operation_inside at size n (model.move c key b) h k = omega arith

places_inside : (texts : List ℕ) (at : ℕ) (os : List model.Operation) → at + length (flat_map encode_operation os) ≤ length texts → all (inside_at texts) (places_from at os) ≡ true
unfolding flat_map places_from
places_inside texts at [] h = refl
places_inside texts at (o ∷ os) h =
    let size = length (encode_operation o) in
    let long = length-append (encode_operation o) (flat_map encode_operation os) in
    let text = operation_text (shift at (operation_to size o)) in
    ap₂ (λ (a b : Bool). a && b)
    (le-leb (text.start + text.len) (length texts) (operation_inside at size (length texts) o (text_within o) (omega (arith, long))))
    (places_inside texts (at + size) os (omega (arith, long)))

pub length_places : (at : ℕ) (os : List model.Operation) → length (places_from at os) ≡ length os
unfolding places_from
length_places at [] = refl
length_places at (o ∷ os) = ap suc (length_places (at + length (encode_operation o)) os)

-- ---- heads

surface_back : (s : Option ℕ) → surface_of (surface_to s) ≡ s
surface_back none = refl
surface_back (some n) = refl

envelope_back : (e : model.Envelope) → envelope_of (envelope_to e) ≡ e
envelope_back e =
    ap
    (λ (s : Option ℕ). record { id = e.id; stream = e.stream; document = e.document; surface = s; previous = e.previous; revision = e.revision; epoch = e.epoch; sequence = e.sequence })
    (surface_back e.surface)

pub total : (ps : List model.Patch) → operation_total (map head_for ps) ≡ length (operations_for ps)
unfolding operation_total flat_map
total [] = refl
total (p ∷ ps) = ap (λ (n : ℕ). length p.operations + n) (total ps) ∙ sym (length-append p.operations (operations_for ps))

pub few_heads : (ed : Edition) (ps : List model.Patch) → All (FitsPatch ed) ps → all few_operations (map head_for ps) ≡ true
few_heads ed [] h = refl
few_heads ed (p ∷ ps) h = ap₂ (λ (a b : Bool). a && b) (le-leb (length p.operations) patch_operations h.0.few) (few_heads ed ps h.1)

few_operations_lem : (ed : Edition) (ps : List model.Patch) → All (FitsPatch ed) ps → length (operations_for ps) ≤ patch_operations * length ps
unfolding flat_map
few_operations_lem ed [] h = omega arith
few_operations_lem ed (p ∷ ps) h = omega (arith, length-append p.operations (operations_for ps), few_operations_lem ed ps h.1, h.0.few)

-- ---- the list

-- heads and places stand for the list, whatever is in the places behind
pub list_back : (texts : List ℕ) (ps : List model.Patch) (places : List OperationPlace) (more : List model.Operation) → map (operation_at texts) places ≡ operations_for ps ++ more
    → list_from texts (map head_for ps) places ≡ ps
unfolding list_from flat_map
list_back texts [] places more e = refl
list_back texts (p ∷ ps) places more e =
    let f = operation_at texts in
    let n = length p.operations in
    let parted = e ∙ append_assoc p.operations (operations_for ps) more in
    ap₂ (λ (q : model.Patch) (qs : List model.Patch). q ∷ qs)
    (ap₂ (λ (x : model.Envelope) (os : List model.Operation). record { envelope = x; operations = os }) (envelope_back p.envelope) (map_take f n places ∙ ap (take n) parted ∙ take_at p.operations (operations_for ps ++ more) n refl))
    (list_back texts ps (drop n places) more (map_drop f n places ∙ ap (drop n) parted ∙ drop_at p.operations (operations_for ps ++ more) n refl))

-- ---- the arrays are large enough: 61 bytes at least for a patch, 10 for an operation, 35 for the heading

head_sizes_lem : (hs : List ProjectionPatch) → 61 * length hs ≤ head_sizes hs
unfolding head_sizes
head_sizes_lem [] = omega arith
head_sizes_lem (h ∷ hs) = omega (arith, at_least_one h.envelope.surface_id, head_sizes_lem hs)
  where
    at_least_one : (s : code.Option StaticSurfaceId) → 1 ≤ surface_size s
    at_least_one code.None = omega arith
    at_least_one (code.Some id) = omega arith

operation_sizes_lem : (ps : List OperationPlace) → 10 * length ps ≤ operation_sizes ps
unfolding operation_sizes
operation_sizes_lem [] = omega arith
operation_sizes_lem (p ∷ ps) = omega (arith, at_least_ten p.operation, operation_sizes_lem ps)
  where
    at_least_ten : (o : ProjectionPatchOperation) → 10 ≤ operation_size o
    at_least_ten (SetBindingValue t v) = omega arith
    at_least_ten (SetNodeAvailability n a) = omega arith
    at_least_ten (CollectionInsert c k b v) = omega arith
    at_least_ten (CollectionUpdate c k v) = omega arith
    at_least_ten (CollectionRemove c k) = omega arith
    at_least_ten (CollectionMove c k b) = omega arith

module _ (ed : Edition) (ps : List model.Patch) (fits : Fits ed ps) where
  pub stand : map (operation_at (texts_for ps)) (places_for ps) ≡ operations_for ps
  stand = places_back [] (operations_for ps)

  pub total_places : operation_total (map head_for ps) ≡ length (places_for ps)
  total_places = total ps ∙ sym (length_places 0 (operations_for ps))

  whole : take (operation_total (map head_for ps)) (places_for ps) ≡ places_for ps
  whole = ap (λ (n : ℕ). take n (places_for ps)) total_places ∙ take-length (places_for ps)

  pub inside : all (inside_at (texts_for ps)) (places_for ps) ≡ true
  inside = places_inside (texts_for ps) 0 (operations_for ps) (omega arith)

  size : length (flat_map encode_patch ps) ≡ head_sizes (map head_for ps) + operation_sizes (places_for ps)
  size =
      ap (λ (l : List model.Patch). length (flat_map encode_patch l)) (sym (list_back (texts_for ps) ps (places_for ps) [] (stand ∙ sym (append-nil (operations_for ps)))))
      ∙ size_list (texts_for ps) (map head_for ps) (places_for ps) (omega (arith, total_places)) (ap (all (inside_at (texts_for ps))) whole ∙ inside)
      ∙ ap (λ (l : List OperationPlace). head_sizes (map head_for ps) + operation_sizes l) whole

  long : length (encode ed ps) ≡ 35 + length (flat_map encode_patch ps)
  unfolding encode encode_counted
  long =
      ap length (sym (append_assoc (heading ed) (u32 (length ps)) (flat_map encode_patch ps)))
      ∙ length-append (heading ed ++ u32 (length ps)) (flat_map encode_patch ps)
      ∙ ap (λ (n : ℕ). n + length (flat_map encode_patch ps)) (length_heading ed (length ps))

  -- no list that fits has more operations than there are places
  pub enough_places : length (operations_for ps) ≤ set_places
  enough_places =
      omega (
        arith,
        fits.short,
        long,
        size,
        head_sizes_lem (map head_for ps),
        length-map ps head_for,
        operation_sizes_lem (places_for ps),
        length_places 0 (operations_for ps),
        few_operations_lem ed ps fits.patches,
      )
